-- Whether the words of a row show its pair, as a test.
use Rattle.std.specs.Prelude.{ℕ, ◌+◌, ◌-◌, List, length, take, Bool, false, ◌&&◌, ◌==◌, nat_lt, nat_eq, Option, Some, None}
use Rattle.std.specs.List.{list_any, concat, range_with_len}
use Rattle.std.specs.Cmp.Lexicographic.{pointwise}
use Rattle.steno_rules.specs.Outlines.{outline_of}
use Rattle.steno_rules.specs.Segments.{last_piece}
use Rattle.steno_rules.specs.Conflicts.{outlines_of, joined_strokes}

-- a boundary between two of the outlines lies after n strokes
abbrev pub has_cut : List (List ℕ) → ℕ → Bool
has_cut outlines n = list_any (λ i. n == length (concat (take i outlines))) (range_with_len 1 (length outlines - 1))

-- the piece is this outline
abbrev pub is_piece : Option (List ℕ) → List ℕ → Bool
is_piece None outline = false
is_piece (Some piece) outline = pointwise nat_eq piece outline

-- the words show the place in the entry
abbrev pub words_show : List (List ℕ) → List ℕ → ℕ → ℕ → Bool
words_show entries words e place =
    is_piece (last_piece entries (joined_strokes entries words)) (outline_of entries e)
    && nat_lt 0 place && nat_lt place (length (outline_of entries e))
    && has_cut (outlines_of entries words) (length (joined_strokes entries words) - length (outline_of entries e) + place)
