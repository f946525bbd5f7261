-- The text that says whether the words are free.
--     parse_text outlines states rounds found    three counts, and what was found
use Rattle.std.specs.Prelude.{ℕ, List, [], ◌∷◌, ◌++◌, length, Option, Some, None, codes, decimal}
use Rattle.text_rules.specs.Lines.{line}
use Rattle.report.specs.Reports.{number_line, words_text}
use Rattle.free_parse.specs.FoundReadings.{ReadingsView}

-- the counts of entries, of reached numbers and of rounds
abbrev pub counts_text : List (List ℕ) → ℕ → ℕ → List ℕ
counts_text outlines states rounds =
    number_line (codes "entries") (length outlines)
    ++ (number_line (codes "states") states
    ++ number_line (codes "rounds") rounds)

-- the line of a reading, which begins with this name
abbrev pub reading_line : List ℕ → List (List ℕ) → List ℕ → List ℕ
reading_line name outlines words = line (name ∷ words_text outlines words ∷ [])

-- the strokes of two readings, and the words of both
abbrev pub readings_text : List (List ℕ) → ReadingsView → List ℕ
readings_text outlines r =
    line (codes "free" ∷ codes "no" ∷ codes "strokes" ∷ decimal r.strokes ∷ [])
    ++ (reading_line (codes "first") outlines r.first
    ++ reading_line (codes "second") outlines r.second)

-- the words are free, or these are two readings
abbrev pub free_text : List (List ℕ) → Option ReadingsView → List ℕ
free_text outlines None = line (codes "free" ∷ codes "yes" ∷ [])
free_text outlines (Some r) = readings_text outlines r

abbrev pub parse_text : List (List ℕ) → ℕ → ℕ → Option ReadingsView → List ℕ
parse_text outlines states rounds found =
    counts_text outlines states rounds ++ free_text outlines found
