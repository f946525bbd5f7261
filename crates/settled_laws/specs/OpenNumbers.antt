-- Open hits by their numbers in the closure graph.
use Rattle.std.specs.Prelude.{ℕ, ◌+◌, ◌≤◌, ◌≡◌, List, length, Some}
use Rattle.graph_rules.specs.Graphs.{IsBest}
use Rattle.steno_rules.specs.ClosureGraphs.{kept_lists}
use Rattle.steno_rules.specs.Outlines.{outline_of}
use Rattle.steno_rules.specs.StateNumbers.{state_of_number}
use Rattle.steno_rules.specs.States.{State}
use Rattle.settled_laws.specs.OpenHits.{CanFinish, IsOpenHit}

-- the number is that of an open hit, n moves lead to it at best, and it can finish by z
pub record IsOpenNumber (entries words : List (List ℕ)) (e place number n : ℕ) (z : List ℕ) : Type 0 where
  pub state : State
  pub is : state_of_number entries words number ≡ Some state
  pub hit : IsOpenHit entries state e place
  pub best : IsBest 0 (kept_lists entries words) number n
  pub can : CanFinish entries words state (outline_of entries e) z

-- n is the least sum of the least moves to such a number and the strokes of a finish
pub record IsLeastOpen (entries words : List (List ℕ)) (e place n : ℕ) : Type 0 where
  pub number : ℕ
  pub moves : ℕ
  pub z : List ℕ
  pub is : IsOpenNumber entries words e place number moves z
  pub sum : moves + length z ≡ n
  pub least : (other k : ℕ) (y : List ℕ) → IsOpenNumber entries words e place other k y → n ≤ k + length y
