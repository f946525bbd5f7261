use Rattle.std.proofs.lemmas.Result.{err_from_is_err_and}
use Rattle.serde_json.specs.View.{view}
use Rattle.steno_rules.specs.Outlines.{IsOutline}
use Rattle.report_json.specs.JsonReports.{IsJsonRow, number_value, outline_value, row_value}
use Rattle.report_json.specs.inside.Readings.{AreRowWords, IsWithin, row_object, words_value}
use Rattle.report_json.proofs.PartsOf.{row_has_outline, row_has_place, row_has_strokes, row_has_words}
use Rattle.report_json.proofs.Refusals.{exit_by}
use Rattle.report_json.proofs.reading.row_of.Goals as goal

pub returns-in_err-outline-clause-err : goal.returns-in_err-outline-clause-err
returns-in_err-outline-clause-err c =
    let p = err_from_is_err_and c.from_residual.result c.from_residual.ensures.1 in
    exit_by IsOutline IsJsonRow outline_value row_value _ (row_object (view c.args.parts.now.outline.now) (view c.args.parts.now.place.now) (view c.args.parts.now.strokes.now) (view c.args.parts.now.words.now)) _ p.0 _ p.1 p.2
    (row_has_outline (view c.args.parts.now.outline.now) (view c.args.parts.now.place.now) (view c.args.parts.now.strokes.now) (view c.args.parts.now.words.now)) c.in_err-outline.ensures.err

pub returns-in_err-place-clause-err : goal.returns-in_err-place-clause-err
returns-in_err-place-clause-err c =
    let p = err_from_is_err_and c.from_residual-in_err-place.result c.from_residual-in_err-place.ensures.1 in
    exit_by (IsWithin 1 63) IsJsonRow number_value row_value _ (row_object (view c.args.parts.now.outline.now) (view c.args.parts.now.place.now) (view c.args.parts.now.strokes.now) (view c.args.parts.now.words.now)) _ p.0 _ p.1 p.2
    (row_has_place (view c.args.parts.now.outline.now) (view c.args.parts.now.place.now) (view c.args.parts.now.strokes.now) (view c.args.parts.now.words.now)) c.in_err-place.ensures.err

pub returns-in_err-strokes-clause-err : goal.returns-in_err-strokes-clause-err
returns-in_err-strokes-clause-err c =
    let p = err_from_is_err_and c.from_residual-in_err-strokes.result c.from_residual-in_err-strokes.ensures.1 in
    exit_by (IsWithin 0 4294967295) IsJsonRow number_value row_value _ (row_object (view c.args.parts.now.outline.now) (view c.args.parts.now.place.now) (view c.args.parts.now.strokes.now) (view c.args.parts.now.words.now)) _ p.0 _ p.1 p.2
    (row_has_strokes (view c.args.parts.now.outline.now) (view c.args.parts.now.place.now) (view c.args.parts.now.strokes.now) (view c.args.parts.now.words.now)) c.in_err-strokes.ensures.err

pub returns-in_err-words-clause-err : goal.returns-in_err-words-clause-err
returns-in_err-words-clause-err c =
    let p = err_from_is_err_and c.from_residual-in_err-words.result c.from_residual-in_err-words.ensures.1 in
    exit_by AreRowWords IsJsonRow words_value row_value _ (row_object (view c.args.parts.now.outline.now) (view c.args.parts.now.place.now) (view c.args.parts.now.strokes.now) (view c.args.parts.now.words.now)) _ p.0 _ p.1 p.2
    (row_has_words (view c.args.parts.now.outline.now) (view c.args.parts.now.place.now) (view c.args.parts.now.strokes.now) (view c.args.parts.now.words.now)) c.in_err-words.ensures.err
