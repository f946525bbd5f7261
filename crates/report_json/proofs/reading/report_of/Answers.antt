use Rattle.std.proofs.Common.{All}
use Rattle.std.proofs.lemmas.Result.{err_from_is_err_and}
use Rattle.serde_json.specs.View.{view}
use Rattle.report_json.specs.JsonReports.{IsJsonReport, IsJsonRow, number_value, report_value}
use Rattle.report_json.specs.inside.Readings.{IsWithin, report_object, rows_value}
use Rattle.report_json.proofs.PartsOf.{report_has_rows, report_has_entries, report_has_folded, report_has_rounds, report_has_skipped, report_has_states, report_has_strokes}
use Rattle.report_json.proofs.Refusals.{exit_by}
use Rattle.report_json.proofs.reading.report_of.Goals as goal

pub returns-in_err-rows-clause-err : goal.returns-in_err-rows-clause-err
returns-in_err-rows-clause-err c =
    let p = err_from_is_err_and c.from_residual.result c.from_residual.ensures.1 in
    exit_by (All IsJsonRow) IsJsonReport rows_value report_value _ (report_object (view c.args.parts.now.conflicts.now) (view c.args.parts.now.entries.now) (view c.args.parts.now.folded.now) (view c.args.parts.now.rounds.now) (view c.args.parts.now.skipped.now) (view c.args.parts.now.states.now) (view c.args.parts.now.strokes.now)) _ p.0 _ p.1 p.2
    (report_has_rows (view c.args.parts.now.conflicts.now) (view c.args.parts.now.entries.now) (view c.args.parts.now.folded.now) (view c.args.parts.now.rounds.now) (view c.args.parts.now.skipped.now) (view c.args.parts.now.states.now) (view c.args.parts.now.strokes.now)) c.in_err-rows.ensures.err

pub returns-in_err-entries-clause-err : goal.returns-in_err-entries-clause-err
returns-in_err-entries-clause-err c =
    let p = err_from_is_err_and c.from_residual-in_err-entries.result c.from_residual-in_err-entries.ensures.1 in
    exit_by (IsWithin 0 4294967295) IsJsonReport number_value report_value _ (report_object (view c.args.parts.now.conflicts.now) (view c.args.parts.now.entries.now) (view c.args.parts.now.folded.now) (view c.args.parts.now.rounds.now) (view c.args.parts.now.skipped.now) (view c.args.parts.now.states.now) (view c.args.parts.now.strokes.now)) _ p.0 _ p.1 p.2
    (report_has_entries (view c.args.parts.now.conflicts.now) (view c.args.parts.now.entries.now) (view c.args.parts.now.folded.now) (view c.args.parts.now.rounds.now) (view c.args.parts.now.skipped.now) (view c.args.parts.now.states.now) (view c.args.parts.now.strokes.now)) c.in_err-entries.ensures.err

pub returns-in_err-folded-clause-err : goal.returns-in_err-folded-clause-err
returns-in_err-folded-clause-err c =
    let p = err_from_is_err_and c.from_residual-in_err-folded.result c.from_residual-in_err-folded.ensures.1 in
    exit_by (IsWithin 0 18446744073709551615) IsJsonReport number_value report_value _ (report_object (view c.args.parts.now.conflicts.now) (view c.args.parts.now.entries.now) (view c.args.parts.now.folded.now) (view c.args.parts.now.rounds.now) (view c.args.parts.now.skipped.now) (view c.args.parts.now.states.now) (view c.args.parts.now.strokes.now)) _ p.0 _ p.1 p.2
    (report_has_folded (view c.args.parts.now.conflicts.now) (view c.args.parts.now.entries.now) (view c.args.parts.now.folded.now) (view c.args.parts.now.rounds.now) (view c.args.parts.now.skipped.now) (view c.args.parts.now.states.now) (view c.args.parts.now.strokes.now)) c.in_err-folded.ensures.err

pub returns-in_err-rounds-clause-err : goal.returns-in_err-rounds-clause-err
returns-in_err-rounds-clause-err c =
    let p = err_from_is_err_and c.from_residual-in_err-rounds.result c.from_residual-in_err-rounds.ensures.1 in
    exit_by (IsWithin 0 4294967295) IsJsonReport number_value report_value _ (report_object (view c.args.parts.now.conflicts.now) (view c.args.parts.now.entries.now) (view c.args.parts.now.folded.now) (view c.args.parts.now.rounds.now) (view c.args.parts.now.skipped.now) (view c.args.parts.now.states.now) (view c.args.parts.now.strokes.now)) _ p.0 _ p.1 p.2
    (report_has_rounds (view c.args.parts.now.conflicts.now) (view c.args.parts.now.entries.now) (view c.args.parts.now.folded.now) (view c.args.parts.now.rounds.now) (view c.args.parts.now.skipped.now) (view c.args.parts.now.states.now) (view c.args.parts.now.strokes.now)) c.in_err-rounds.ensures.err

pub returns-in_err-skipped-clause-err : goal.returns-in_err-skipped-clause-err
returns-in_err-skipped-clause-err c =
    let p = err_from_is_err_and c.from_residual-in_err-skipped.result c.from_residual-in_err-skipped.ensures.1 in
    exit_by (IsWithin 0 18446744073709551615) IsJsonReport number_value report_value _ (report_object (view c.args.parts.now.conflicts.now) (view c.args.parts.now.entries.now) (view c.args.parts.now.folded.now) (view c.args.parts.now.rounds.now) (view c.args.parts.now.skipped.now) (view c.args.parts.now.states.now) (view c.args.parts.now.strokes.now)) _ p.0 _ p.1 p.2
    (report_has_skipped (view c.args.parts.now.conflicts.now) (view c.args.parts.now.entries.now) (view c.args.parts.now.folded.now) (view c.args.parts.now.rounds.now) (view c.args.parts.now.skipped.now) (view c.args.parts.now.states.now) (view c.args.parts.now.strokes.now)) c.in_err-skipped.ensures.err

pub returns-in_err-states-clause-err : goal.returns-in_err-states-clause-err
returns-in_err-states-clause-err c =
    let p = err_from_is_err_and c.from_residual-in_err-states.result c.from_residual-in_err-states.ensures.1 in
    exit_by (IsWithin 0 4294967295) IsJsonReport number_value report_value _ (report_object (view c.args.parts.now.conflicts.now) (view c.args.parts.now.entries.now) (view c.args.parts.now.folded.now) (view c.args.parts.now.rounds.now) (view c.args.parts.now.skipped.now) (view c.args.parts.now.states.now) (view c.args.parts.now.strokes.now)) _ p.0 _ p.1 p.2
    (report_has_states (view c.args.parts.now.conflicts.now) (view c.args.parts.now.entries.now) (view c.args.parts.now.folded.now) (view c.args.parts.now.rounds.now) (view c.args.parts.now.skipped.now) (view c.args.parts.now.states.now) (view c.args.parts.now.strokes.now)) c.in_err-states.ensures.err

pub returns-in_err-strokes-clause-err : goal.returns-in_err-strokes-clause-err
returns-in_err-strokes-clause-err c =
    let p = err_from_is_err_and c.from_residual-in_err-strokes.result c.from_residual-in_err-strokes.ensures.1 in
    exit_by (IsWithin 0 4294967295) IsJsonReport number_value report_value _ (report_object (view c.args.parts.now.conflicts.now) (view c.args.parts.now.entries.now) (view c.args.parts.now.folded.now) (view c.args.parts.now.rounds.now) (view c.args.parts.now.skipped.now) (view c.args.parts.now.states.now) (view c.args.parts.now.strokes.now)) _ p.0 _ p.1 p.2
    (report_has_strokes (view c.args.parts.now.conflicts.now) (view c.args.parts.now.entries.now) (view c.args.parts.now.folded.now) (view c.args.parts.now.rounds.now) (view c.args.parts.now.skipped.now) (view c.args.parts.now.states.now) (view c.args.parts.now.strokes.now)) c.in_err-strokes.ensures.err
