use Rattle.std.proofs.Common.{◌+◌, arith, drop, flat_map}
use Rattle.std.proofs.lemmas.List.{at_drop_all}
use Rattle.std.proofs.lemmas.Result.{err_from_is_err_and}
use Rattle.pages.proofs.PageSteps.{adding_more, adds_early, adds_whole, next_part}
use Rattle.brief_trial.specs.Trials.{with_brief}
use Rattle.brief_trial.specs.TrialTexts.{conflict_line}
use Rattle.brief_trial.proofs.writing.write_conflicts.Goals as goal

pub returns-in_err-write_conflict : goal.returns-in_err-write_conflict
returns-in_err-write_conflict g c =
    let text = conflict_line (with_brief c.args.stack.now.outlines c.args.trial.now.brief) in
    let rows = c.args.rows.now in
    let i = c.loop-row.row-index in
    let row = c.row-item.result in
    let next = next_part text rows i row row _ _ (omega arith) c.row-item.is c.loop-row.invariant in
    let p = err_from_is_err_and c.from_residual.result c.from_residual.ensures.1 in
    adds_early _ _ _ _ (text row) (flat_map text (drop (i + 1) rows)) _ _ p.0 next c.in_err-write_conflict.ensures p.1 p.2

pub loop-row-preserved : goal.loop-row-preserved
loop-row-preserved g c =
    let text = conflict_line (with_brief c.args.stack.now.outlines c.args.trial.now.brief) in
    let rows = c.args.rows.now in
    let i = c.loop-row.row-index in
    let row = c.row-item.result in
    let next = next_part text rows i row row _ _ (omega arith) c.row-item.is c.loop-row.invariant in
    adding_more _ _ _ _ (text row) (flat_map text (drop (i + 1) rows)) tt next c.in_ok-write_conflict.ensures

pub returns : goal.returns
returns g c =
    let text = conflict_line (with_brief c.args.stack.now.outlines c.args.trial.now.brief) in
    adds_whole _ _ _ _ tt (at_drop_all (flat_map text) c.args.rows.now c.loop-row.row-index (omega arith)) c.loop-row.invariant
