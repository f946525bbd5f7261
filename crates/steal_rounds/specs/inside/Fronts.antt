-- What a search has done between two rounds.
use Rattle.std.specs.Prelude.{◌≡◌, ℕ, ◌+◌, ◌<◌, ◌≤◌, ◌⊎◌, List, length, slice_index}
use mathlib.Core.List.{IsPrefix}
use Rattle.graph_rules.specs.Graphs.{row, HasTarget, Reaches, IsBest, unreached}
use Rattle.round_core.specs.Rounds.{Has, IsFrontier, AreRisingNumbers}
use Rattle.round_core.specs.Searches.{sum_reached}
use Rattle.dist_table.specs.declared.call.Call.{Call}
use Rattle.dist_table.specs.Tables.{TableView}
use Rattle.dist_table.specs.Histories.{IsLegal}
use Rattle.steal_rounds.specs.MadeMoves.{HasMove}
use Rattle.steal_rounds.specs.inside.Moves.{Relaxed, Found}

-- what a round did: the history grew by its moves, and what was noted was found by one of them
pub record IsWorked (t : TableView) (k : ℕ) (front : List ℕ) (seen now : List Call) (notes : List ℕ) : Type 0 where
  pub legal : IsLegal t.origin t.lists now
  pub grows : IsPrefix seen now
  pub moves : (s u : ℕ) → Has front s → HasTarget t.lists s u → Relaxed t k now notes s u
  pub adds : (u : ℕ) → Has notes u → Found t k front seen now u

-- before round k: its frontier, and the moves of all nearer numbers
pub record IsBeforeRound (t : TableView) (k : ℕ) (front : List ℕ) (seen : List Call) : Type 0 where
  pub legal : IsLegal t.origin t.lists seen
  pub near : (u j : ℕ) → j ≤ k → Reaches t.origin t.lists j u → (n : ℕ) × (n ≤ j) × IsBest t.origin t.lists u n
  pub frontier : IsFrontier t.origin t.lists k front
  pub rising : AreRisingNumbers front
  pub before : (s n u : ℕ) → IsBest t.origin t.lists s n → n < k → HasTarget t.lists s u → HasMove seen n s u
  pub met : (k ≡ 0) ⊎ ((s : ℕ) × (n : ℕ) × (s < length t.lists) × IsBest t.origin t.lists s n × (n + 1 ≡ k))

-- the moves of the numbers nearer than k were counted
pub record IsCounted (t : TableView) (k relaxed : ℕ) : Type 0 where
  pub marks : List ℕ
  pub count : length marks ≡ length t.lists
  pub sum : relaxed ≡ sum_reached (λ s. length (row t.lists s)) marks
  pub each : (s : ℕ) → s < length t.lists
      → ((slice_index marks s ≡ 0) × ((n : ℕ) × (n < k) × IsBest t.origin t.lists s n))
      ⊎ ((slice_index marks s ≡ unreached) × ((n : ℕ) → n < k → IsBest t.origin t.lists s n → ⊥))
