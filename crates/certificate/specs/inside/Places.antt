-- The first and the last place of a byte in a list.
use Rattle.std.specs.Prelude.{ℕ, ◌+◌, ◌≡◌, ◌<◌, List, ◌∷◌, ◌++◌, false, length, take, drop}
use Rattle.text_rules.specs.Lines.{has_byte}

-- the byte stands at this place
pub record IsPlace (byte : ℕ) (bytes : List ℕ) (place : ℕ) : Type 0 where
  pub within : place < length bytes
  pub split : bytes ≡ take place bytes ++ byte ∷ drop (place + 1) bytes

-- and nowhere before
pub record IsFirstPlace (byte : ℕ) (bytes : List ℕ) (place : ℕ) : Type 0 where
  pub here : IsPlace byte bytes place
  pub before : has_byte byte (take place bytes) ≡ false

-- and nowhere behind
pub record IsLastPlace (byte : ℕ) (bytes : List ℕ) (place : ℕ) : Type 0 where
  pub here : IsPlace byte bytes place
  pub behind : has_byte byte (drop (place + 1) bytes) ≡ false
