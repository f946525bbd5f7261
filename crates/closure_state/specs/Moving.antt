-- Moves as their callers see them.
--     MovesView                    the targets that are left, with the entries and words that they are about
--     IsNextTarget old t left      the first of the targets is t, and those behind it are left; without a target none is
--     IfNodeState entries words t  the target, if there is one, is a state
use Rattle.std.specs.Prelude.{ℕ, List, [], ◌∷◌, ◌≡◌, Option, Some, None}
use Rattle.steno_rules.specs.States.{State as Abstract}
use Rattle.closure_state.specs.declared.state.State.{State}
use Rattle.closure_state.specs.NodeStates.{state_at, IsNodeState}

pub record MovesView : Type 0 where
  pub entries : List (List ℕ)
  pub words : List (List ℕ)
  pub left : List Abstract

abbrev pub IsNextTarget : MovesView → Option State → List Abstract → Type 0
IsNextTarget old None left = (old.left ≡ []) × (left ≡ [])
IsNextTarget old (Some t) left = old.left ≡ state_at old.entries t ∷ left

abbrev pub IfNodeState : List (List ℕ) → List (List ℕ) → Option State → Type 0
IfNodeState entries words None = Unit {0}
IfNodeState entries words (Some t) = IsNodeState entries words t
