-- What one more stroke does to a list of pieces.
use Rattle.std.specs.Prelude.{ℕ, ◌≡◌, List, [], ◌∷◌, ◌++◌, length}
use Rattle.std.specs.List.{concat}

-- one more stroke makes new of old: the last pieces of old, as many as `replaced`, become one piece together with the
-- stroke, and all pieces before them stay
pub record IsPush (old : List (List ℕ)) (c : ℕ) (new : List (List ℕ)) (replaced : ℕ) : Type 0 where
  pub kept : List (List ℕ)
  pub run : List (List ℕ)
  pub before : old ≡ kept ++ run
  pub after : new ≡ kept ++ (concat run ++ c ∷ []) ∷ []
  pub count : length run ≡ replaced
