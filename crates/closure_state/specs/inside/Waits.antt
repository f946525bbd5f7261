-- What becomes of the targets that wait.
--     IsTaken old t new    the first of a list is taken; of an empty one none is
--     AreTargetsBy entries words s c waiting    these are the targets of a state by a stroke, and each of them is a state
use Rattle.std.specs.Prelude.{ℕ, List, [], ◌∷◌, ◌≡◌, Option, Some, None, map}
use Rattle.std.specs.List.{AllByRecursion}
use Rattle.steno_rules.specs.States.{targets_by}
use Rattle.closure_state.specs.declared.state.State.{State}
use Rattle.closure_state.specs.NodeStates.{state_at, IsNodeState}

abbrev pub IsTaken : List State → Option State → List State → Type 0
IsTaken old None new = (old ≡ []) × (new ≡ [])
IsTaken old (Some t) new = old ≡ t ∷ new

pub record AreTargetsBy (entries words : List (List ℕ)) (s : State) (c : ℕ) (waiting : List State) : Type 0 where
  pub targets : map (state_at entries) waiting ≡ targets_by entries words (state_at entries s) c
  pub each : AllByRecursion (IsNodeState entries words) waiting
