-- How an open hit finishes.
--     IsOpenState entries words s        the numbers stand for a state that is an open hit
--     HasNoFinish entries words s        no strokes finish the state
--     IsFinishOf entries words s f       the fewest strokes that finish it, and the first word that so few end
use Rattle.std.specs.Prelude.{ℕ, ◌<◌, ◌≤◌, ◌≡◌, ◌≢◌, List, [], ◌++◌, length, Option, Some, None}
use Rattle.steno_rules.specs.Outlines.{outline_of}
use Rattle.steno_rules.specs.Segments.{last_piece}
use Rattle.steno_rules.specs.States.{State}
use Rattle.closure_state.specs.declared.state.State as nodes
use Rattle.closure_state.specs.NodeStates.{IsNodeState, state_at}
use Rattle.settled_laws.specs.OpenHits.{CanFinish, IsOpenHit}
use Rattle.settled_pairs.specs.declared.finishes.Finish.{Finish}

pub record IsOpenState (entries words : List (List ℕ)) (s : nodes.State) : Type 0 where
  pub state : IsNodeState entries words s
  pub entry : ℕ
  pub place : ℕ
  pub hit : IsOpenHit entries (state_at entries s) entry place

abbrev pub HasNoFinish : List (List ℕ) → List (List ℕ) → State → Type 0
HasNoFinish entries words s = (e z : List ℕ) → last_piece entries s.u ≡ Some e → CanFinish entries words s e z → ⊥

-- w is the first word that n strokes end while the piece e stays
pub record IsFirstEnded (entries words : List (List ℕ)) (s : State) (e : List ℕ) (n w : ℕ) : Type 0 where
  pub z : List ℕ
  pub can : CanFinish entries words s e z
  pub strokes : length z ≡ n
  pub entry : w < length entries
  pub is : outline_of entries w ≡ s.v ++ z
  pub first : (other : ℕ) (y : List ℕ) → other < length entries → outline_of entries other ≡ s.v ++ y → CanFinish entries words s e y → length y ≡ n → w ≤ other

-- no word is open and nothing is left to write, or that word is ended
abbrev pub EndsBy : List (List ℕ) → List (List ℕ) → State → List ℕ → ℕ → Option ℕ → Type 0
EndsBy entries words s e n None = (s.v ≡ []) × (n ≡ 0)
EndsBy entries words s e n (Some w) = (s.v ≢ []) × IsFirstEnded entries words s e n w

-- the last piece e stays with these strokes, and with no fewer
pub record IsFinishBy (entries words : List (List ℕ)) (s : State) (e : List ℕ) (f : Finish) : Type 0 where
  pub ends : EndsBy entries words s e f.strokes f.word
  pub least : (y : List ℕ) → CanFinish entries words s e y → f.strokes ≤ length y

abbrev pub IsFinishOf : List (List ℕ) → List (List ℕ) → State → Finish → Type 0
IsFinishOf entries words s f = (e : List ℕ) → last_piece entries s.u ≡ Some e → IsFinishBy entries words s e f
