-- Dangling suffixes, by which Sardinas and Patterson (1953) decide whether a finite code can be read in one way only.
use Rattle.std.specs.Prelude.{ℕ, zero, suc, ◌≡◌, ◌≢◌, true, List, [], ◌++◌, ◌⊎◌}
use Rattle.steno_rules.specs.Outlines.{is_word}

-- s is a dangling suffix by n steps: a word and then s are a word; or a word and then s are such a suffix of fewer
-- steps, or such a suffix and then s are a word
abbrev pub Dangling : List (List ℕ) → ℕ → List ℕ → Type 0
Dangling words zero s = (s ≢ []) × ((w : List ℕ) × (is_word words w ≡ true) × (is_word words (w ++ s) ≡ true))
Dangling words (suc n) s =
    (s ≢ []) × (((w : List ℕ) × (is_word words w ≡ true) × Dangling words n (w ++ s)) ⊎ ((d : List ℕ) × Dangling words n d × (is_word words (d ++ s) ≡ true)))

-- a dangling suffix that is a word
pub record DanglingWord (words : List (List ℕ)) : Type 0 where
  pub s : List ℕ
  pub steps : ℕ
  pub dangling : Dangling words steps s
  pub word : is_word words s ≡ true
