-- Reports with one value are the same.
use Rattle.std.proofs.Common.{ℕ, ◌≡◌, ◌∙◌, List, [], ◌∷◌, All, ap, refl, map}
use Rattle.std.proofs.lemmas.List.Elements.{All-head, All-tail}
use Rattle.serde_json.specs.Data.{Data}
use Rattle.steno_rules.specs.Outlines.{IsOutline}
use Rattle.steno_order.specs.Canonical.{canonical_text}
use Rattle.report_json.specs.JsonReports.{IsJsonReport, IsJsonRow, JsonReportView, JsonRowView, number_value, outline_value, report_value, row_value}
use Rattle.report_json.specs.inside.Readings.{rows_value, words_value}
use Rattle.report_json.proofs.CanonicalTexts.{same_strokes, spelt}
use Rattle.report_json.proofs.PartsOf.{report_parts_of, row_parts_of}
use Rattle.report_json.proofs.Refusals.{array_same}

pub same_numbers : (m n : ℕ) → number_value m ≡ number_value n → m ≡ n
same_numbers m n e = cc

same_outlines : (a b : List ℕ) → IsOutline a → IsOutline b → outline_value a ≡ outline_value b → a ≡ b
same_outlines a b is_a is_b e =
    let texts : canonical_text a ≡ canonical_text b = cc in
    same_strokes (canonical_text a) b a (spelt (canonical_text a) a is_a refl) is_b texts

same_lists : {A : Type 0} (Is : A → Type 0) (made : A → Data) (each : (a b : A) → Is a → Is b → made a ≡ made b → a ≡ b) (xs ys : List A) → All Is xs → All Is ys
    → map made xs ≡ map made ys → xs ≡ ys
same_lists Is made each [] [] are_xs are_ys e = refl
same_lists Is made each [] (y ∷ ys) are_xs are_ys e = absurd (apart e)
  where
    apart : [] ≡ made y ∷ map made ys → ⊥
    apart e = cc
same_lists Is made each (x ∷ xs) [] are_xs are_ys e = absurd (apart e)
  where
    apart : made x ∷ map made xs ≡ [] → ⊥
    apart e = cc
same_lists {A} Is made each (x ∷ xs) (y ∷ ys) are_xs are_ys e =
    let first : made x ≡ made y = cc in
    let rest : map made xs ≡ map made ys = cc in
    ap (λ (l : List A). x ∷ l) (same_lists Is made each xs ys (All-tail Is x xs are_xs) (All-tail Is y ys are_ys) rest)
    ∙ ap (λ (a : A). a ∷ ys) (each x y (All-head Is x xs are_xs) (All-head Is y ys are_ys) first)

same_rows : (a b : JsonRowView) → IsJsonRow a → IsJsonRow b → row_value a ≡ row_value b → a ≡ b
same_rows a b is_a is_b e =
    let parts = row_parts_of (outline_value a.outline) (number_value a.place) (number_value a.strokes) (words_value a.words) b e in
    let outline = same_outlines a.outline b.outline is_a.outline is_b.outline parts.of_outline in
    let place = same_numbers a.place b.place parts.of_place in
    let strokes = same_numbers a.strokes b.strokes parts.of_strokes in
    let words = same_lists IsOutline outline_value same_outlines a.words b.words is_a.words is_b.words (array_same (map outline_value a.words) (map outline_value b.words) parts.of_words) in
    λ i. record { outline = outline i; place = place i; strokes = strokes i; words = words i }

pub same_reports : (a b : JsonReportView) → IsJsonReport a → IsJsonReport b → report_value a ≡ report_value b → a ≡ b
same_reports a b is_a is_b e =
    let parts = report_parts_of (rows_value a.rows) (number_value a.entries) (number_value a.folded) (number_value a.rounds) (number_value a.skipped) (number_value a.states) (number_value a.strokes) b e in
    let rows = same_lists IsJsonRow row_value same_rows a.rows b.rows is_a.rows is_b.rows (array_same (map row_value a.rows) (map row_value b.rows) parts.of_rows) in
    let entries = same_numbers a.entries b.entries parts.of_entries in
    let folded = same_numbers a.folded b.folded parts.of_folded in
    let rounds = same_numbers a.rounds b.rounds parts.of_rounds in
    let skipped = same_numbers a.skipped b.skipped parts.of_skipped in
    let states = same_numbers a.states b.states parts.of_states in
    let strokes = same_numbers a.strokes b.strokes parts.of_strokes in
    λ i. record { entries = entries i; folded = folded i; rounds = rounds i; skipped = skipped i; states = states i; strokes = strokes i; rows = rows i }
