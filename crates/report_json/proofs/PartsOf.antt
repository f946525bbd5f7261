-- A row and a report have the parts of their values.
use Rattle.std.proofs.Common.{ℕ, ◌≡◌, ◌∙◌, List, All, ap, sym, arith, length, map, Result, Ok, Err, IfErr}
use Rattle.serde_json.specs.Data.{Data, array}
use Rattle.serde_json.specs.View.{items_of}
use Rattle.std.proofs.lemmas.List.{length-map}
use Rattle.report_json.proofs.Refusals.{HasPart, array_same, refused_by}
use Rattle.steno_rules.specs.Outlines.{IsOutline}
use Rattle.report_json.specs.JsonReports.{IsJsonReport, IsJsonRow, JsonReportView, JsonRowView, number_value, outline_value, report_value, row_value}
use Rattle.report_json.specs.declared.faults.JsonFault.{JsonFault}
use Rattle.report_json.specs.inside.Readings.{AreRowWords, IsPartRefused, IsWithin, report_object, row_object, rows_value, words_value}

-- the values are those of the row's members
pub record AreRowParts (outline place strokes words : Data) (of : JsonRowView) : Type 0 where
  pub of_outline : outline ≡ outline_value of.outline
  pub of_place : place ≡ number_value of.place
  pub of_strokes : strokes ≡ number_value of.strokes
  pub of_words : words ≡ words_value of.words

pub row_parts_of : (outline place strokes words : Data) (of : JsonRowView) → row_object outline place strokes words ≡ row_value of → AreRowParts outline place strokes words of
row_parts_of outline place strokes words of e = record {
  of_outline = cc;
  of_place = cc;
  of_strokes = cc;
  of_words = cc;
}

pub row_has_outline : (outline place strokes words : Data) → HasPart IsOutline IsJsonRow outline_value row_value outline (row_object outline place strokes words)
row_has_outline outline place strokes words = λ of is e. (of.outline, (is.outline, (row_parts_of outline place strokes words of e).of_outline))

pub row_has_place : (outline place strokes words : Data) → HasPart (IsWithin 1 63) IsJsonRow number_value row_value place (row_object outline place strokes words)
row_has_place outline place strokes words = λ of is e. (of.place, (record { at_least = omega (arith, is.inner); at_most = omega (arith, is.place) }, (row_parts_of outline place strokes words of e).of_place))

pub row_has_strokes : (outline place strokes words : Data) → HasPart (IsWithin 0 4294967295) IsJsonRow number_value row_value strokes (row_object outline place strokes words)
row_has_strokes outline place strokes words = λ of is e. (of.strokes, (record { at_least = omega arith; at_most = omega (arith, is.strokes) }, (row_parts_of outline place strokes words of e).of_strokes))

pub row_has_words : (outline place strokes words : Data) → HasPart AreRowWords IsJsonRow words_value row_value words (row_object outline place strokes words)
row_has_words outline place strokes words = λ of is e. (of.words, (record { some = is.some_word; are = is.words }, (row_parts_of outline place strokes words of e).of_words))

-- the values are those of the report's members
pub record AreReportParts (conflicts entries folded rounds skipped states strokes : Data) (of : JsonReportView) : Type 0 where
  pub of_rows : conflicts ≡ rows_value of.rows
  pub of_entries : entries ≡ number_value of.entries
  pub of_folded : folded ≡ number_value of.folded
  pub of_rounds : rounds ≡ number_value of.rounds
  pub of_skipped : skipped ≡ number_value of.skipped
  pub of_states : states ≡ number_value of.states
  pub of_strokes : strokes ≡ number_value of.strokes

pub report_parts_of : (conflicts entries folded rounds skipped states strokes : Data) (of : JsonReportView) → report_object conflicts entries folded rounds skipped states strokes ≡ report_value of → AreReportParts conflicts entries folded rounds skipped states strokes of
report_parts_of conflicts entries folded rounds skipped states strokes of e = record {
  of_rows = cc;
  of_entries = cc;
  of_folded = cc;
  of_rounds = cc;
  of_skipped = cc;
  of_states = cc;
  of_strokes = cc;
}

pub report_has_rows : (conflicts entries folded rounds skipped states strokes : Data) → HasPart (All IsJsonRow) IsJsonReport rows_value report_value conflicts (report_object conflicts entries folded rounds skipped states strokes)
report_has_rows conflicts entries folded rounds skipped states strokes = λ of is e. (of.rows, (is.rows, (report_parts_of conflicts entries folded rounds skipped states strokes of e).of_rows))

pub report_has_entries : (conflicts entries folded rounds skipped states strokes : Data) → HasPart (IsWithin 0 4294967295) IsJsonReport number_value report_value entries (report_object conflicts entries folded rounds skipped states strokes)
report_has_entries conflicts entries folded rounds skipped states strokes = λ of is e. (of.entries, (record { at_least = omega arith; at_most = omega (arith, is.entries) }, (report_parts_of conflicts entries folded rounds skipped states strokes of e).of_entries))

pub report_has_folded : (conflicts entries folded rounds skipped states strokes : Data) → HasPart (IsWithin 0 18446744073709551615) IsJsonReport number_value report_value folded (report_object conflicts entries folded rounds skipped states strokes)
report_has_folded conflicts entries folded rounds skipped states strokes = λ of is e. (of.folded, (record { at_least = omega arith; at_most = omega (arith, is.folded) }, (report_parts_of conflicts entries folded rounds skipped states strokes of e).of_folded))

pub report_has_rounds : (conflicts entries folded rounds skipped states strokes : Data) → HasPart (IsWithin 0 4294967295) IsJsonReport number_value report_value rounds (report_object conflicts entries folded rounds skipped states strokes)
report_has_rounds conflicts entries folded rounds skipped states strokes = λ of is e. (of.rounds, (record { at_least = omega arith; at_most = omega (arith, is.rounds) }, (report_parts_of conflicts entries folded rounds skipped states strokes of e).of_rounds))

pub report_has_skipped : (conflicts entries folded rounds skipped states strokes : Data) → HasPart (IsWithin 0 18446744073709551615) IsJsonReport number_value report_value skipped (report_object conflicts entries folded rounds skipped states strokes)
report_has_skipped conflicts entries folded rounds skipped states strokes = λ of is e. (of.skipped, (record { at_least = omega arith; at_most = omega (arith, is.skipped) }, (report_parts_of conflicts entries folded rounds skipped states strokes of e).of_skipped))

pub report_has_states : (conflicts entries folded rounds skipped states strokes : Data) → HasPart (IsWithin 0 4294967295) IsJsonReport number_value report_value states (report_object conflicts entries folded rounds skipped states strokes)
report_has_states conflicts entries folded rounds skipped states strokes = λ of is e. (of.states, (record { at_least = omega arith; at_most = omega (arith, is.states) }, (report_parts_of conflicts entries folded rounds skipped states strokes of e).of_states))

pub report_has_strokes : (conflicts entries folded rounds skipped states strokes : Data) → HasPart (IsWithin 0 4294967295) IsJsonReport number_value report_value strokes (report_object conflicts entries folded rounds skipped states strokes)
report_has_strokes conflicts entries folded rounds skipped states strokes = λ of is e. (of.strokes, (record { at_least = omega arith; at_most = omega (arith, is.strokes) }, (report_parts_of conflicts entries folded rounds skipped states strokes of e).of_strokes))

-- ---- arrays

pub words_have_outlines : (value : Data) (values : List Data) → value ≡ array (items_of values) → HasPart (All IsOutline) AreRowWords (map outline_value) words_value values value
words_have_outlines value values at = λ words is e. (words, (is.are, array_same values (map outline_value words) (sym at ∙ e)))

-- an empty array has no words
pub no_words : (value : Data) (values : List Data) (found : List (List ℕ)) → value ≡ array (items_of values) → values ≡ map outline_value found → length found ≡ 0
    → (words : List (List ℕ)) → AreRowWords words → value ≡ words_value words → ⊥
no_words value values found at made empty words is e =
    let same = array_same values (map outline_value words) (sym at ∙ e) in
    absurd (omega (arith, is.some, empty, ap length same, ap length made, length-map found outline_value, length-map words outline_value))

-- where the values are no rows, the array isn't one of rows
pub rows_refused : {R : Type 0} (value : Data) (values : List Data) (result : Result R JsonFault) → value ≡ array (items_of values)
    → IfErr result (IsPartRefused (All IsJsonRow) (map row_value) values) → IfErr result (IsPartRefused (All IsJsonRow) rows_value value)
rows_refused value values (Ok rows) at h = tt
rows_refused value values (Err fault) at h =
    refused_by (All IsJsonRow) (All IsJsonRow) (map row_value) rows_value values value fault (λ rows are e. (rows, (are, array_same values (map row_value rows) (sym at ∙ e)))) h
