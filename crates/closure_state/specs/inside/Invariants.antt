-- What the fields of the moves have in common.
use Rattle.std.specs.Prelude.{ℕ, List, ◌≡◌}
use Rattle.std.specs.List.{AllByRecursion}
use Rattle.steno_rules.specs.WordSets.{WordFlags, IsWordSet, words_in}
use Rattle.closure_state.specs.declared.state.State.{State}
use Rattle.closure_state.specs.declared.strokes.Strokes.{Strokes}
use Rattle.closure_state.specs.declared.waiting.Waiting.{Waiting}
use Rattle.closure_state.specs.inside.Strokes.{AreStrokes}
use Rattle.closure_state.specs.Waits.{waits}
use Rattle.closure_state.specs.NodeStates.{IsNodeState}

pub record AreMoves (told entries : List (List ℕ)) (set : WordFlags) (s : State) (strokes : Strokes) (waiting : Waiting) : Type 0 where
  pub windows : told ≡ entries
  pub words : IsWordSet entries set
  pub state : IsNodeState entries (words_in entries set) s
  pub strokes_are : AreStrokes entries (words_in entries set) s strokes
  pub waiting_states : AllByRecursion (IsNodeState entries (words_in entries set)) (waits waiting)
