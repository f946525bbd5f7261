-- The report of an audit.
--     report_text stack summary rows         its whole text: seven counts, the skipped keys, and three lines a row
--     settled_text stack summary rows        the same of the pairs that stay
--     summary_text stack summary relaxed     the counts of a search over generated words
use Rattle.std.specs.Prelude.{ℕ, List, [], ◌∷◌, ◌++◌, length, map, flat_map, sum_by, Option, Some, None, codes, decimal, slice_index_or}
use Rattle.std.specs.List.{enumerate_from}
use Rattle.steno_rules.specs.Outlines.{outline_of, entry_number}
use Rattle.steno_rules.specs.Segments.{segments}
use Rattle.steno_rules.specs.Conflicts.{joined_strokes}
use Rattle.longest_match.specs.Rows.{Row}
use Rattle.text_rules.specs.Lines.{line, barred}
use Rattle.text_rules.specs.Quoted.{quoted}
use Rattle.steno_order.specs.Canonical.{canonical_text}
use Rattle.dict_stack.specs.Stacks.{StackView}
use Rattle.dict_stack.specs.Appearances.{strokes_of_all}
use Rattle.report.specs.declared.reports.Summary.{Summary}

-- a line with a name and a number
abbrev pub number_line : List ℕ → ℕ → List ℕ
number_line name n = line (name ∷ decimal n ∷ [])

-- the canonical text of an entry's outline
abbrev pub outline_text : List (List ℕ) → ℕ → List ℕ
outline_text outlines entry = canonical_text (outline_of outlines entry)

-- the outlines of words, with bars between them
abbrev pub words_text : List (List ℕ) → List ℕ → List ℕ
words_text outlines words = barred (map (outline_text outlines) words)

-- a piece is shown as its translation, or as the stroke that has none
abbrev pub shown : StackView → List ℕ → Option ℕ → List ℕ
shown stack piece (Some entry) = quoted (slice_index_or stack.texts entry [])
shown stack piece None = canonical_text piece

-- these pieces, with bars between them
abbrev pub pieces_shown : StackView → List (List ℕ) → List ℕ
pieces_shown stack pieces =
    barred (map (λ piece. shown stack piece (entry_number stack.outlines piece)) pieces)

-- what comes out where the words are written: the pieces of their joined strokes
abbrev pub shown_text : StackView → List ℕ → List ℕ
shown_text stack words =
    pieces_shown stack (segments stack.outlines (joined_strokes stack.outlines words))

-- the line of a row's pair, which begins with this name
abbrev pub pair_line : List ℕ → List (List ℕ) → Row → List ℕ
pair_line name outlines row =
    line (name ∷ outline_text outlines row.entry ∷ codes "place" ∷ decimal row.place
    ∷ codes "strokes" ∷ decimal row.strokes ∷ [])

-- the three lines of a row, the first of which begins with this name
abbrev pub row_text : List ℕ → StackView → Row → List ℕ
row_text name stack row =
    pair_line name stack.outlines row
    ++ (line (codes "words" ∷ words_text stack.outlines row.words ∷ [])
    ++ line (codes "shows" ∷ shown_text stack row.words ∷ []))

-- the line of a skipped key, with the number of its dictionary
abbrev pub skipped_line : ℕ → List ℕ → List ℕ
skipped_line number key = line (codes "skipped-key" ∷ decimal number ∷ quoted key ∷ [])

-- the lines of the skipped keys of these dictionaries, the first of which has this number
abbrev pub skipped_from : ℕ → List (List (List ℕ)) → List ℕ
skipped_from number dictionaries =
    flat_map (λ d. flat_map (skipped_line d.0) d.1) (enumerate_from number dictionaries)

-- a line for each skipped key of the stack; dictionaries are counted from 1
abbrev pub skipped_text : StackView → List ℕ
skipped_text stack = skipped_from 1 stack.skipped

-- the first seven lines, of which the last begins with this name
abbrev pub head_text : List ℕ → StackView → Summary → List ℕ
head_text name stack summary =
    number_line (codes "entries") (length stack.outlines)
    ++ (number_line (codes "skipped") (sum_by length stack.skipped)
    ++ (number_line (codes "folded") stack.folded
    ++ (number_line (codes "strokes") (length (strokes_of_all stack.outlines))
    ++ (number_line (codes "states") summary.states
    ++ (number_line (codes "rounds") summary.rounds
    ++ number_line name summary.conflicts)))))

-- the rows, the first line of each beginning with this name
abbrev pub rows_text : List ℕ → StackView → List Row → List ℕ
rows_text name stack rows = flat_map (row_text name stack) rows

-- a report of pairs: the name of their count, and the name with which the first line of each begins
abbrev pub pairs_text : List ℕ → List ℕ → StackView → Summary → List Row → List ℕ
pairs_text many one stack summary rows =
    head_text many stack summary ++ (skipped_text stack ++ rows_text one stack rows)

-- the report of an audit
abbrev pub report_text : StackView → Summary → List Row → List ℕ
report_text stack summary rows = pairs_text (codes "conflicts") (codes "conflict") stack summary rows

-- the report of the pairs that stay
abbrev pub settled_text : StackView → Summary → List Row → List ℕ
settled_text stack summary rows = pairs_text (codes "settled") (codes "settled") stack summary rows

-- the counts alone, and how many moves the search made
abbrev pub summary_text : StackView → Summary → ℕ → List ℕ
summary_text stack summary relaxed =
    head_text (codes "conflicts") stack summary ++ number_line (codes "relaxed") relaxed
