-- Single pieces of a segmentation: what each of them is, and where it stands.
use Rattle.std.specs.Prelude.{ℕ, ◌<◌, ◌≤◌, ◌≡◌, List, [], ◌∷◌, ◌++◌, length, Contains}
use Rattle.std.specs.List.{concat}
use Rattle.steno_rules.specs.Segments.{segments}

-- p is the longest entry that p and the strokes after it begin with
pub record IsMatch (entries : List (List ℕ)) (p after : List ℕ) : Type 0 where
  pub some : 0 < length p
  pub entry : Contains entries p
  pub longest : (e rest : List ℕ) → Contains entries e → p ++ after ≡ e ++ rest → length e ≤ length p

-- p is one stroke, and p and the strokes after it begin with no entry
pub record IsLone (entries : List (List ℕ)) (p after : List ℕ) : Type 0 where
  pub one : length p ≡ 1
  pub no_entry : (e rest : List ℕ) → Contains entries e → p ++ after ≡ e ++ rest → e ≡ []

-- e is a piece of x, and starts after n strokes
pub record HasPiece (entries : List (List ℕ)) (x e : List ℕ) (n : ℕ) : Type 0 where
  pub before : List (List ℕ)
  pub after : List (List ℕ)
  pub split : segments entries x ≡ before ++ e ∷ after
  pub start : length (concat before) ≡ n
