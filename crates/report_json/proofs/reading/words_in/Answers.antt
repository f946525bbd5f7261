use Rattle.std.proofs.Common.{◌≡◌, ◌∙◌, All, ap, sym, map}
use Rattle.std.proofs.lemmas.Bool.Decides.{Decides-eqb}
use Rattle.std.proofs.lemmas.Result.{err_from_is_err_and}
use Rattle.serde_json.specs.Data.{array}
use Rattle.serde_json.specs.View.{items_of, view}
use Rattle.serde_json.proofs.Views.{view-Array}
use Rattle.steno_rules.specs.Outlines.{IsOutline}
use Rattle.report_json.specs.JsonReports.{outline_value}
use Rattle.report_json.specs.inside.Readings.{AreRowWords, words_value}
use Rattle.report_json.proofs.PartsOf.{no_words, words_have_outlines}
use Rattle.report_json.proofs.Refusals.{exit_by}
use Rattle.report_json.proofs.reading.words_in.Goals as goal

pub returns-in_err-words-in-Array-clause-err : goal.returns-in_err-words-in-Array-clause-err
returns-in_err-words-in-Array-clause-err c =
    let values = map view c.deref.result.now in
    let at : view c.args.value.now ≡ array (items_of values) = ap view c.in-Array.is ∙ view-Array c.in-Array.values ∙ ap (λ l. array (items_of (map view l))) (sym c.deref.ensures.value) in
    let p = err_from_is_err_and c.from_residual.result c.from_residual.ensures.1 in
    exit_by (All IsOutline) AreRowWords (map outline_value) words_value values (view c.args.value.now) _ p.0 _ p.1 p.2
    (words_have_outlines (view c.args.value.now) values at) c.in_err-words-in-Array.ensures.err

pub returns-then-is_empty-clause-err : goal.returns-then-is_empty-clause-err
returns-then-is_empty-clause-err c =
    let values = map view c.deref.result.now in
    let at : view c.args.value.now ≡ array (items_of values) = ap view c.in-Array.is ∙ view-Array c.in-Array.values ∙ ap (λ l. array (items_of (map view l))) (sym c.deref.ensures.value) in
    let empty = (Decides-eqb _ 0).0 (sym c.if-is_empty.ensures) in
    no_words (view c.args.value.now) values c.in_ok-words-in-Array.words.items at c.in_ok-words-in-Array.ensures.ok (sym c.in_ok-words-in-Array.words.ok.0 ∙ empty)
