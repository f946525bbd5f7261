use Rattle.std.proofs.Common.{refl}
use Rattle.std.proofs.lemmas.Result.{err_from_is_err_and}
use Rattle.conflict_example.specs.Chosen.{words_in_stack}
use Rattle.report_json.proofs.InnerPlaces.{inner_places}
use Rattle.audit_top.specs.Audited.{PrintsConflicts}
use Rattle.audit_top.specs.inside.Forms.{made_in}
use Rattle.audit_top.proofs.Reports.{conflicts-are}
use Rattle.audit_top.proofs.Stops.{put-stopped, put-whole}
use Rattle.audit_top.proofs.audit.print_conflicts.Goals as goal

pub returns-in_err-write_found : goal.returns-in_err-write_found
returns-in_err-write_found g c =
    let stack = c.args.stack.now in
    let searched = c.args.searched.now in
    let rows = c.args.rows.now in
    let p = err_from_is_err_and c.from_residual.result c.from_residual.ensures.1 in
    let may = conflicts-are (made_in c.args.form) stack searched rows c.requires.exact c.requires.chosen c.requires.search in
    put-stopped (PrintsConflicts (made_in c.args.form) stack) _ _ (made_in c.args.form stack searched rows) _ _ p.0 may c.in_err-write_found.ensures p.1 p.2

pub returns : goal.returns
returns g c =
    let stack = c.args.stack.now in
    let searched = c.args.searched.now in
    let rows = c.args.rows.now in
    let may = conflicts-are (made_in c.args.form) stack searched rows c.requires.exact c.requires.chosen c.requires.search in
    put-whole (PrintsConflicts (made_in c.args.form) stack) _ _ (made_in c.args.form stack searched rows) _ may c.status_of.ensures refl c.in_ok-write_found.ensures.all (c.in_ok-write_found.ensures.steady refl)

pub write_found-requires-clause-inner : goal.write_found-requires-clause-inner
write_found-requires-clause-inner g c =
    let stack = c.args.stack.now in
    inner_places stack.outlines (words_in_stack stack) c.args.rows.now c.requires.outlines c.requires.exact
