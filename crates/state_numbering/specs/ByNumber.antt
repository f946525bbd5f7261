-- What a numbering answers for a number.
--     IsStateOf v number s          the state of the number, by its nodes
--     IsOpenWordOf v number node    where a state has the number, this is the node of its open word
--     IsStrokeInto v number code    the last stroke of the longer of the two lists of the number's state
--     HasNoStroke v number          no state has the number, or both lists are empty
--     IsHitOf v number h            the number has a state, and it is this hit
--     HasNoHit v number             no state has the number, or it is no hit
use Rattle.std.specs.Prelude.{ℕ, ◌≡◌, ◌<◌, [], ◌∷◌, length, Some}
use Rattle.steno_rules.specs.StateNumbers.{state_of_number}
use Rattle.steno_rules.specs.States.{State, IsHit}
use Rattle.closure_laws.specs.Examples.{last_stroke}
use Rattle.outline_trie.specs.Tries.{IsNode, node_strokes}
use Rattle.closure_state.specs.declared.state.State as nodes
use Rattle.closure_state.specs.declared.state.Hit.{Hit}
use Rattle.closure_state.specs.NodeStates.{state_at, IsNodeState}
use Rattle.state_numbering.specs.Numberings.{NumberingView}

pub record IsStateOf (v : NumberingView) (number : ℕ) (s : nodes.State) : Type 0 where
  pub state : IsNodeState v.entries v.words s
  pub number_is : state_of_number v.entries v.words number ≡ Some (state_at v.entries s)

abbrev pub IsOpenWordOf : NumberingView → ℕ → ℕ → Type 0
IsOpenWordOf v number node =
    (s : State) → state_of_number v.entries v.words number ≡ Some s
    → IsNode v.entries node × (node_strokes v.entries node ≡ s.v)

pub record IsStrokeInto (v : NumberingView) (number code : ℕ) : Type 0 where
  pub state : State
  pub number_is : state_of_number v.entries v.words number ≡ Some state
  pub stroke : last_stroke state ≡ code ∷ []

abbrev pub HasNoStroke : NumberingView → ℕ → Type 0
HasNoStroke v number = (code : ℕ) → IsStrokeInto v number code → ⊥

pub record IsHitOf (v : NumberingView) (number : ℕ) (h : Hit) : Type 0 where
  pub state : State
  pub number_is : state_of_number v.entries v.words number ≡ Some state
  pub entry : h.entry < length v.entries
  pub hit : IsHit v.entries state h.entry h.place

abbrev pub HasNoHit : NumberingView → ℕ → Type 0
HasNoHit v number =
    (s : State) (e place : ℕ) → state_of_number v.entries v.words number ≡ Some s
    → IsHit v.entries s e place → ⊥
