-- Open hits, at which a word may be open, and how they finish: by the strokes that end the open word, so that the piece stays.
use Rattle.std.specs.Prelude.{ℕ, ◌+◌, ◌-◌, ◌≤◌, ◌≡◌, ◌≢◌, true, List, [], ◌++◌, length, Some, ◌⊎◌}
use Rattle.steno_rules.specs.Outlines.{outline_of, is_word}
use Rattle.steno_rules.specs.Segments.{last_piece}
use Rattle.steno_rules.specs.States.{State, Walk, IsHitMark}
use Rattle.translation_laws.specs.Pieces.{HasPiece}

-- a hit with a word that may be open
pub record IsOpenHit (entries : List (List ℕ)) (s : State) (e place : ℕ) : Type 0 where
  pub piece : last_piece entries s.u ≡ Some (outline_of entries e)
  pub mark : IsHitMark s.mark (length (outline_of entries e)) place

-- the open word and then z are a word, and after z the piece e stands where it stood
pub record FinishesWord (entries words : List (List ℕ)) (s : State) (e z : List ℕ) : Type 0 where
  pub word : is_word words (s.v ++ z) ≡ true
  pub piece : HasPiece entries (s.u ++ z) e (length s.u - length e)

-- how a state can finish: at once where no word is open, or else by such a list
abbrev pub CanFinish : List (List ℕ) → List (List ℕ) → State → List ℕ → List ℕ → Type 0
CanFinish entries words s e z = ((s.v ≡ []) × (z ≡ [])) ⊎ ((s.v ≢ []) × FinishesWord entries words s e z)

-- an open hit that can finish by z is reached by n moves
pub record IsReachedHit (entries words : List (List ℕ)) (e place n : ℕ) (z : List ℕ) : Type 0 where
  pub state : State
  pub walk : Walk entries words n state
  pub hit : IsOpenHit entries state e place
  pub can : CanFinish entries words state (outline_of entries e) z

-- n is the least sum of moves and strokes of a finish
pub record IsLeastReached (entries words : List (List ℕ)) (e place n : ℕ) : Type 0 where
  pub moves : ℕ
  pub z : List ℕ
  pub is : IsReachedHit entries words e place moves z
  pub sum : moves + length z ≡ n
  pub least : (k : ℕ) (y : List ℕ) → IsReachedHit entries words e place k y → n ≤ k + length y
