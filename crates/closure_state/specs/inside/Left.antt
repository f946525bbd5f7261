-- What is left of a state's targets after some strokes.
--     targets_for all entries words s c         the targets by a stroke, all or the kept ones
--     targets_from all entries words s bound    those by the strokes from `bound` on
--     IsRowState s                              all targets of the state are kept: its window is empty, or a word is open
--     IsChainDepth s d                          in another state the kept targets are those by the children of ends of at
--                                               least d strokes: one, or with a mark as many as reach before it
use Rattle.std.specs.Prelude.{ℕ, ◌+◌, ◌⊎◌, ◌≡◌, List, Bool, true, false, filter, flat_map, nat_le, Option, Some, None}
use Rattle.steno_rules.specs.States.{State as Abstract, strokes_in, targets_by, is_kept}
use Rattle.closure_state.specs.declared.state.State.{State}

abbrev pub targets_for : Bool → List (List ℕ) → List (List ℕ) → Abstract → ℕ → List Abstract
targets_for true entries words s c = targets_by entries words s c
targets_for false entries words s c = filter (is_kept s) (targets_by entries words s c)

abbrev pub targets_from : Bool → List (List ℕ) → List (List ℕ) → Abstract → ℕ → List Abstract
targets_from all entries words s bound = flat_map (targets_for all entries words s) (filter (λ c. nat_le bound c) (strokes_in words))

abbrev pub IsRowState : State → Type 0
IsRowState s = (s.window ≡ 0) ⊎ (s.word ≡ 0 → ⊥)

abbrev pub IsDepthOf : Option ℕ → ℕ → ℕ → Type 0
IsDepthOf None word d = (word ≡ 0) × (d ≡ 1)
IsDepthOf (Some m) word d = d ≡ m + 1

pub record IsChainDepth (s : State) (d : ℕ) : Type 0 where
  pub window : s.window ≡ 0 → ⊥
  pub depth : IsDepthOf s.mark s.word d
