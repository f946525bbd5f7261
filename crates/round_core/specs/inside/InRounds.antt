-- What holds inside a round, whatever moves were made. `todo p t` says that the move from p to t is still to be made.
use Rattle.std.specs.Prelude.{◌≡◌, ◌≢◌, ℕ, ◌+◌, ◌*◌, ◌≤◌, ◌<◌, ◌⊎◌, List, length, slice_index, drop, sum_by}
use Rattle.graph_rules.specs.Graphs.{row, HasTarget, IsBest, moved, unreached, word_half}
use Rattle.round_core.specs.Rounds.{Has, IsBeyond, IsNear, IsFar, IsBetween, IsFrontier}
use Rattle.round_core.specs.Searches.{sum_reached}

-- s was found in round k: it is farther than k, and its settled word is that of a number at the distance k which has it as a target
pub record IsFound (origin : ℕ) (lists : List (List ℕ)) (k s w : ℕ) : Type 0 where
  pub beyond : IsBeyond origin lists k s
  pub p : ℕ
  pub before : IsBest origin lists p k
  pub target : HasTarget lists p s
  pub word : w ≡ moved k p

-- in round k each settled word is near, far or found, and no move that was made could lower a settled word further
pub record IsWithinRound (origin : ℕ) (lists : List (List ℕ)) (k : ℕ) (words : List ℕ) (todo : ℕ → ℕ → Type 0) : Type 0 where
  pub count : length words ≡ length lists
  pub each : (s : ℕ) → s < length lists → IsNear origin lists k s (slice_index words s) ⊎ IsFar origin lists k s (slice_index words s) ⊎ IsFound origin lists k s (slice_index words s)
  pub done : (p t : ℕ) → t < length lists → IsBest origin lists p k → HasTarget lists p t → todo p t ⊎ (slice_index words t ≤ moved k p)

-- the settled word is one that round k puts
abbrev pub IsOfRound : ℕ → ℕ → Type 0
IsOfRound k w = ((k + 1) * word_half ≤ w) × (w ≢ unreached)

-- the same, and the noted numbers are those whose settled words this round put
pub record IsNoting (origin : ℕ) (lists : List (List ℕ)) (k : ℕ) (words noted : List ℕ) (todo : ℕ → ℕ → Type 0) : Type 0 where
  pub within : IsWithinRound origin lists k words todo
  pub fresh : (s : ℕ) → Has noted s → (s < length lists) × IsOfRound k (slice_index words s)
  pub all : (s : ℕ) → s < length lists → IsOfRound k (slice_index words s) → Has noted s

-- between two rounds of the plain search: its queue has each reached number once, and from `begin` on those at the distance k
pub record IsReady (origin : ℕ) (lists : List (List ℕ)) (k begin : ℕ) (words queue : List ℕ) : Type 0 where
  pub between : IsBetween origin lists k words
  pub front : IsFrontier origin lists k (drop begin queue)
  pub sums : (f : ℕ → ℕ) → sum_by f queue ≡ sum_reached f words

-- how many moves these numbers have
abbrev pub moves_of : List (List ℕ) → List ℕ → ℕ
moves_of lists xs = sum_by (λ s. length (row lists s)) xs
