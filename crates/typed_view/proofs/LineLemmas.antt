-- The lines of boundaries, one after another.
use Rattle.std.proofs.Common.{ℕ, ◌≡◌, ◌+◌, ◌<◌, ◌∙◌, List, ◌++◌, ap, sym, drop, get_or, length}
use Rattle.std.proofs.lemmas.List.{drop_more}
use Rattle.typed_view.specs.CoverLines.{cover_line, lines_from}
use Rattle.typed_view.specs.declared.boundaries.Cover.{Cover}

-- the next of the lines that are left
pub next_line : (entries : List (List ℕ)) (covers : List Cover) (i : ℕ) (d cover : Cover) → i < length covers → cover ≡ get_or covers i d
    → lines_from entries (i + 1) (drop i covers) ≡ cover_line entries (i + 1) cover ++ lines_from entries (i + 1 + 1) (drop (i + 1) covers)
next_line entries covers i d cover inside is =
    ap (lines_from entries (i + 1)) (drop_more covers i d inside)
    ∙ ap (λ (c : Cover). cover_line entries (i + 1) c ++ lines_from entries (i + 1 + 1) (drop (i + 1) covers)) (sym is)
