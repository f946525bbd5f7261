-- The lines that say what becomes of each boundary.
--     covers_text entries covers     a line for each, numbered from 1 on
use Rattle.std.specs.Prelude.{ℕ, ◌+◌, List, [], ◌∷◌, ◌++◌, codes, decimal}
use Rattle.steno_rules.specs.Outlines.{outline_of}
use Rattle.text_rules.specs.Lines.{line}
use Rattle.steno_order.specs.Canonical.{canonical_text}
use Rattle.typed_view.specs.declared.boundaries.Cover.{Cover}
use Rattle.typed_view.specs.declared.boundaries.Cover.TheVariants.{Kept, Crossed}

-- the line of the boundary of this number
abbrev pub cover_line : List (List ℕ) → ℕ → Cover → List ℕ
cover_line entries number Kept = line (codes "boundary" ∷ decimal number ∷ codes "kept" ∷ [])
cover_line entries number (Crossed entry place) =
    line (codes "boundary" ∷ decimal number ∷ codes "crossed" ∷ canonical_text (outline_of entries entry)
    ∷ codes "place" ∷ decimal place ∷ [])

-- the lines of boundaries of which the first has this number
abbrev pub lines_from : List (List ℕ) → ℕ → List Cover → List ℕ
lines_from entries number [] = []
lines_from entries number (cover ∷ covers) =
    cover_line entries number cover ++ lines_from entries (number + 1) covers

abbrev pub covers_text : List (List ℕ) → List Cover → List ℕ
covers_text entries covers = lines_from entries 1 covers
