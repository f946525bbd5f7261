-- Pairs of an entry and an inner place that stay: the entry is a piece of some sequence of words, wherever in it, and swallows a
-- boundary between two of the words at that place.
use Rattle.std.specs.Prelude.{ℕ, ◌+◌, ◌<◌, ◌≤◌, ◌≡◌, List, length}
use Rattle.steno_rules.specs.Outlines.{outline_of}
use Rattle.steno_rules.specs.Conflicts.{outlines_of, joined_strokes, AreWordNumbers, IsCut}
use Rattle.translation_laws.specs.Pieces.{HasPiece}

-- the entry e is a piece of the strokes of ws, and a boundary between two of ws lies `place` strokes after its start
pub record Stays (entries : List (List ℕ)) (ws : List ℕ) (e place : ℕ) : Type 0 where
  pub start : ℕ
  pub piece : HasPiece entries (joined_strokes entries ws) (outline_of entries e) start
  pub after_start : 0 < place
  pub before_end : place < length (outline_of entries e)
  pub boundary : IsCut (outlines_of entries ws) (start + place)

-- some words have it
pub record SettledPair (entries words : List (List ℕ)) (e place : ℕ) : Type 0 where
  pub ws : List ℕ
  pub are_words : AreWordNumbers entries words ws
  pub stays : Stays entries ws e place

-- n is the least number of strokes of a settled pair: some words of n strokes have it, and no words of fewer
pub record IsLeastSettled (entries words : List (List ℕ)) (e place n : ℕ) : Type 0 where
  pub ws : List ℕ
  pub are_words : AreWordNumbers entries words ws
  pub stays : Stays entries ws e place
  pub strokes : length (joined_strokes entries ws) ≡ n
  pub least : (others : List ℕ) → AreWordNumbers entries words others → Stays entries others e place → n ≤ length (joined_strokes entries others)
