-- Two readings as their callers see them, and what is found of words.
--     AreBothNumbers entries r               the numbers of both are those of entries
--     AreFewest entries words r              two readings by words, of fewest strokes and in their order
--     AreChosenTwo entries words table r     which of these they are
--     ParsedAs entries words table found     none is found exactly where the words are free, and else these
use Rattle.std.specs.Prelude.{ℕ, ◌≡◌, ◌↔◌, List, map, Option, Some, None, IfSome}
use Rattle.steno_rules.specs.Conflicts.{AreEntryNumbers, AreWordNumbers, outlines_of}
use Rattle.steno_rules.specs.Outlines.{entry_number}
use Rattle.reading_laws.specs.ChosenReadings.{AreShortest, Halves, chosen_halves}
use Rattle.reading_laws.specs.Readings.{IsFree}

-- how many strokes they have, and the numbers of the entries of both
pub record ReadingsView : Type 0 where
  pub strokes : ℕ
  pub first : List ℕ
  pub second : List ℕ

-- the numbers of both are those of entries
pub record AreBothNumbers (entries : List (List ℕ)) (r : ReadingsView) : Type 0 where
  pub first : AreEntryNumbers entries r.first
  pub second : AreEntryNumbers entries r.second

-- they are readings by words, of fewest strokes and in their order
pub record AreFewest (entries words : List (List ℕ)) (r : ReadingsView) : Type 0 where
  pub first_words : AreWordNumbers entries words r.first
  pub second_words : AreWordNumbers entries words r.second
  pub shortest : AreShortest words (outlines_of entries r.first) (outlines_of entries r.second) r.strokes

-- these are the numbers of the words
abbrev pub AreNumbersOfWords : List (List ℕ) → List ℕ → List (List ℕ) → Type 0
AreNumbersOfWords entries numbers ws = map Some numbers ≡ map (entry_number entries) ws

-- they are those of the walk to the end, back by the settled words of the table
pub record AreChosenTwo (entries words : List (List ℕ)) (table : List ℕ) (r : ReadingsView) : Type 0 where
  pub first_are : AreNumbersOfWords entries r.first (Halves.first (chosen_halves entries words table r.strokes))
  pub second_are : AreNumbersOfWords entries r.second (Halves.second (chosen_halves entries words table r.strokes))

-- none is found exactly where the words are free, and else the chosen ones of the shortest two readings
pub record ParsedAs (entries words : List (List ℕ)) (table : List ℕ) (found : Option ReadingsView) : Type 0 where
  pub free : (found ≡ None) ↔ IsFree words
  pub fewest : IfSome found (AreFewest entries words)
  pub chosen : IfSome found (AreChosenTwo entries words table)
