-- States by the numbers of their nodes.
--     state_at entries s             the state that the numbers stand for
--     targets_at entries words s     its targets
--     kept_at entries words s        its kept targets
--     IsNodeState entries words s    the numbers are nodes, and they stand for a state
--     HasNodes entries s             the numbers are nodes, and a mark lies in the window
--     IsNodeHit entries s h          the entry is one, and the state is a hit of it and the place
--     IsNoHit entries s              the state is a hit of no entry and place
use Rattle.std.specs.Prelude.{ℕ, List, ◌<◌, length, IfSome}
use Rattle.steno_rules.specs.States.{State as Abstract, state_of, IsState, IsHit, targets, kept_targets}
use Rattle.outline_trie.specs.Tries.{IsNode, node_strokes}
use Rattle.closure_state.specs.declared.state.State.{State}
use Rattle.closure_state.specs.declared.state.Hit.{Hit}

abbrev pub state_at : List (List ℕ) → State → Abstract
state_at entries s = state_of (node_strokes entries s.window) (node_strokes entries s.word) s.mark

abbrev pub targets_at : List (List ℕ) → List (List ℕ) → State → List Abstract
targets_at entries words s = targets entries words (state_at entries s)

abbrev pub kept_at : List (List ℕ) → List (List ℕ) → State → List Abstract
kept_at entries words s = kept_targets entries words (state_at entries s)

pub record IsNodeState (entries words : List (List ℕ)) (s : State) : Type 0 where
  pub window : IsNode entries s.window
  pub word : IsNode entries s.word
  pub state : IsState entries words (state_at entries s)

pub record HasNodes (entries : List (List ℕ)) (s : State) : Type 0 where
  pub window : IsNode entries s.window
  pub word : IsNode entries s.word
  pub mark : IfSome s.mark (λ m. m < length (node_strokes entries s.window))

pub record IsNodeHit (entries : List (List ℕ)) (s : State) (h : Hit) : Type 0 where
  pub entry : h.entry < length entries
  pub hit : IsHit entries (state_at entries s) h.entry h.place

abbrev pub IsNoHit : List (List ℕ) → State → Type 0
IsNoHit entries s = (e place : ℕ) → IsHit entries (state_at entries s) e place → ⊥
