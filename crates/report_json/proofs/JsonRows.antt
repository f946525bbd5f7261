-- The rows of a report that is made of a stack.
use Rattle.std.proofs.Common.{ℕ, ◌≡◌, ◌+◌, ◌<◌, ◌^◌, ◌∙◌, List, [], ◌∷◌, ◌++◌, All, ap, ap₂, sym, subst, arith, get_or, length, map, take}
use Rattle.std.proofs.lemmas.List.{length-map, map-append, take_more}
use Rattle.std.proofs.lemmas.List.Elements.{All-get_or, All-map, All-weaker}
use Rattle.steno_rules.specs.Outlines.{IsOutline, outline_of}
use Rattle.steno_rules.specs.Conflicts.{AreEntryNumbers, outlines_of}
use Rattle.longest_match.specs.Rows.{IsSmall, Row}
use Rattle.report_json.specs.JsonReports.{IsInner, IsJsonRow, JsonRowView, json_row}

-- the words' outlines are outlines
words_are : (outlines : List (List ℕ)) (words : List ℕ) → All IsOutline outlines → AreEntryNumbers outlines words → All IsOutline (outlines_of outlines words)
words_are outlines words are numbers =
    All-map IsOutline (outline_of outlines) words
    (All-weaker (λ w. w < length outlines) (λ w. IsOutline (outline_of outlines w)) (λ w below. All-get_or IsOutline outlines w [] below are) words numbers)

-- a row that was made of these parts
pub made_row : (outlines : List (List ℕ)) (row : Row) (made : JsonRowView) → All IsOutline outlines → IsSmall outlines row → IsInner row
    → made.outline ≡ outline_of outlines row.entry → made.place ≡ row.place → made.words ≡ outlines_of outlines row.words → made.strokes < 2 ^ 32 → IsJsonRow made
made_row outlines row made are small inner outline place words fits = record {
  outline = subst IsOutline (sym outline) (All-get_or IsOutline outlines row.entry [] small.entry are);
  inner = omega (arith, inner.at_least, place);
  place = omega (arith, inner.at_most, place);
  strokes = fits;
  some_word = omega (arith, small.some, ap length words, length-map row.words (outline_of outlines));
  words = subst (All IsOutline) (sym words) (words_are outlines row.words are small.words);
}

-- one more row
pub next_rows : (outlines : List (List ℕ)) (conflicts : List Row) (i : ℕ) (conflict : Row) (rows next : List JsonRowView) (made : JsonRowView) → i < length conflicts
    → conflict ≡ get_or conflicts i conflict → rows ≡ map (json_row outlines) (take i conflicts) → made ≡ json_row outlines conflict → next ≡ rows ++ made ∷ []
    → next ≡ map (json_row outlines) (take (i + 1) conflicts)
next_rows outlines conflicts i conflict rows next made inside at so_far is more =
    more ∙ ap₂ (λ (l : List JsonRowView) (row : JsonRowView). l ++ row ∷ []) so_far (is ∙ ap (json_row outlines) at)
    ∙ sym (ap (map (json_row outlines)) (take_more conflicts i conflict inside) ∙ map-append (json_row outlines) (take i conflicts) (get_or conflicts i conflict ∷ []))
