-- The moves of a number's state as a cursor of the closure graph.
--     numbers_left v moves         the numbers of the targets that are left; a number without a state has no moves
--     OwnsMoves v moves            the moves are about the same entries and words
--     numbers_at entries states    the numbers of states, by their nodes
use Rattle.std.specs.Prelude.{ℕ, List, [], ◌≡◌, map, Option, Some, None}
use Rattle.steno_rules.specs.StateNumbers.{state_number}
use Rattle.closure_state.specs.declared.state.State.{State}
use Rattle.closure_state.specs.Moving.{MovesView}
use Rattle.closure_state.specs.NodeStates.{state_at}
use Rattle.state_numbering.specs.Numberings.{NumberingView}

abbrev pub numbers_left : NumberingView → Option MovesView → List ℕ
numbers_left v None = []
numbers_left v (Some m) = map (state_number v.entries) m.left

abbrev pub OwnsMoves : NumberingView → Option MovesView → Type 0
OwnsMoves v None = Unit {0}
OwnsMoves v (Some m) = (m.entries ≡ v.entries) × (m.words ≡ v.words)

abbrev pub numbers_at : List (List ℕ) → List State → List ℕ
numbers_at entries states = map (λ s. state_number entries (state_at entries s)) states
