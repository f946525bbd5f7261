-- Two readings of the same strokes.
use Rattle.std.specs.Prelude.{ℕ, ◌<◌, ◌≤◌, ◌≡◌, ◌≢◌, ◌↔◌, true, List, length}
use Rattle.std.specs.List.{concat, AllByRecursion}
use Rattle.steno_rules.specs.Outlines.{is_word}
use Rattle.steno_rules.specs.Conflicts.{IsCut}

-- each of the list is a word
abbrev pub AllWords : List (List ℕ) → List (List ℕ) → Type 0
AllWords words ws = AllByRecursion (λ w. is_word words w ≡ true) ws

-- two different lists of words with the same joined strokes
pub record AreReadings (words xs ys : List (List ℕ)) : Type 0 where
  pub first : AllWords words xs
  pub second : AllWords words ys
  pub same : concat xs ≡ concat ys
  pub differ : xs ≢ ys

-- the words can be read in one way only: there are no two readings
abbrev pub IsFree : List (List ℕ) → Type 0
IsFree words = (xs ys : List (List ℕ)) → AreReadings words xs ys → ⊥

-- some two readings have n strokes, and none have fewer
pub record IsLeastTwo (words : List (List ℕ)) (n : ℕ) : Type 0 where
  pub xs : List (List ℕ)
  pub ys : List (List ℕ)
  pub are : AreReadings words xs ys
  pub strokes : length (concat xs) ≡ n
  pub least : (cs ds : List (List ℕ)) → AreReadings words cs ds → n ≤ length (concat cs)

-- xs has the least place that lies in the cuts of one of the two alone
pub record ComesFirst (xs ys : List (List ℕ)) : Type 0 where
  pub place : ℕ
  pub here : IsCut xs place
  pub not_there : IsCut ys place → ⊥
  pub least : (n : ℕ) → n < place → IsCut xs n ↔ IsCut ys n
