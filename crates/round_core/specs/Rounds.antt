-- What a search by rounds has found between two rounds. The frontier of a round is the list of the numbers at one distance.
--     Has xs s                            s is in the list
--     IsBeyond origin lists k s           no walk of at most k moves goes to s
--     IsNear origin lists k s w           the least distance of s is at most k, and w is its settled word
--     IsFar origin lists k s w            s is farther than k, and w is the settled word of a number that nothing was found of
--     IsBetween origin lists k words      each settled word is near or far: all that is at most k moves away is settled, the rest untouched
--     IsFrontier origin lists k front     the list has the numbers at the least distance k and no others
--     AreRisingNumbers xs                        each number of the list is less than all later ones
use Rattle.std.specs.Prelude.{◌≡◌, ℕ, ◌≤◌, ◌<◌, ◌⊎◌, List, [], ◌∷◌, length, slice_get, slice_index, Some}
use Rattle.graph_rules.specs.Graphs.{Reaches, IsBest, IsSettledWord, unreached}

abbrev pub Has : List ℕ → ℕ → Type 0
Has xs s = (i : ℕ) × (slice_get xs i ≡ Some s)

abbrev pub IsBeyond : ℕ → List (List ℕ) → ℕ → ℕ → Type 0
IsBeyond origin lists k s = (j : ℕ) → j ≤ k → Reaches origin lists j s → ⊥

pub record IsNear (origin : ℕ) (lists : List (List ℕ)) (k s w : ℕ) : Type 0 where
  pub n : ℕ
  pub within : n ≤ k
  pub best : IsBest origin lists s n
  pub settled : IsSettledWord origin lists s w

pub record IsFar (origin : ℕ) (lists : List (List ℕ)) (k s w : ℕ) : Type 0 where
  pub beyond : IsBeyond origin lists k s
  pub word : w ≡ unreached

pub record IsBetween (origin : ℕ) (lists : List (List ℕ)) (k : ℕ) (words : List ℕ) : Type 0 where
  pub count : length words ≡ length lists
  pub each : (s : ℕ) → s < length lists → IsNear origin lists k s (slice_index words s) ⊎ IsFar origin lists k s (slice_index words s)

pub record IsFrontier (origin : ℕ) (lists : List (List ℕ)) (k : ℕ) (front : List ℕ) : Type 0 where
  pub best : (s : ℕ) → Has front s → (s < length lists) × IsBest origin lists s k
  pub all : (s : ℕ) → s < length lists → IsBest origin lists s k → Has front s

abbrev pub AreRisingNumbers : List ℕ → Type 0
AreRisingNumbers [] = Unit {0}
AreRisingNumbers (x ∷ xs) = ((y : ℕ) → Has xs y → x < y) × AreRisingNumbers xs
