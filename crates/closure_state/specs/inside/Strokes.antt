-- The strokes that are left of a state, and what they have as targets.
--     left_of entries words s strokes               the targets by the strokes that are left
--     AreStrokes entries words s strokes            the strokes are those of the state from their bound on
--     IsStrokesStep entries words s old step new    the next stroke and the strokes behind it
--     IsRefill entries words s old waiting new      the targets by the next stroke that has some, and the strokes behind it
use Rattle.std.specs.Prelude.{ℕ, List, [], ◌++◌, ◌≡◌, ◌<◌, ◌≤◌, ◌^◌, map, Option, Some, None}
use Rattle.std.specs.List.{AllByRecursion}
use Rattle.steno_rules.specs.States.{State as Abstract, targets_by}
use Rattle.outline_trie.specs.Tries.{node_strokes}
use Rattle.closure_state.specs.declared.state.State.{State}
use Rattle.closure_state.specs.declared.step.Step.{Step}
use Rattle.closure_state.specs.declared.strokes.Strokes.{Strokes}
use Rattle.closure_state.specs.declared.waiting.Waiting.{Waiting}
use Rattle.closure_state.specs.inside.Left.{targets_from}
use Rattle.closure_state.specs.inside.Rows.{AreStateRows, lists_all}
use Rattle.closure_state.specs.inside.Steps.{IsStepBy}
use Rattle.closure_state.specs.Waits.{waits}
use Rattle.closure_state.specs.NodeStates.{state_at, IsNodeState}

abbrev pub left_of : List (List ℕ) → List (List ℕ) → State → Strokes → List Abstract
left_of entries words s strokes = targets_from (lists_all strokes.rows) entries words (state_at entries s) strokes.bound

pub record AreStrokes (entries words : List (List ℕ)) (s : State) (strokes : Strokes) : Type 0 where
  pub fits : strokes.bound ≤ 2 ^ 32
  pub rows_are : AreStateRows entries words s strokes.bound strokes.rows

abbrev pub IsStrokesStep : List (List ℕ) → List (List ℕ) → State → Strokes → Option Step → Strokes → Type 0
IsStrokesStep entries words s old None new =
    (left_of entries words s old ≡ []) × (left_of entries words s new ≡ []) × AreStrokes entries words s new
IsStrokesStep entries words s old (Some step) new =
    IsStepBy entries (node_strokes entries s.window) s.word old.bound step
    × (left_of entries words s old ≡ targets_by entries words (state_at entries s) step.code ++ left_of entries words s new)
    × (old.bound < new.bound)
    × AreStrokes entries words s new

pub record IsRefill (entries words : List (List ℕ)) (s : State) (old : Strokes) (waiting : Waiting) (new : Strokes) : Type 0 where
  pub left : left_of entries words s old ≡ map (state_at entries) (waits waiting) ++ left_of entries words s new
  pub done : waits waiting ≡ [] → left_of entries words s new ≡ []
  pub each : AllByRecursion (IsNodeState entries words) (waits waiting)
  pub strokes_are : AreStrokes entries words s new
