use Rattle.std.proofs.Common.{length, refl}
use Rattle.std.proofs.lemmas.Result.{err_from_is_err_and}
use Rattle.report.specs.Reports.{settled_text}
use Rattle.report.specs.declared.reports.Summary.{Summary}
use Rattle.audit_top.specs.Audited.{summary_by, summary_of}
use Rattle.audit_top.specs.Kept.{IsSettled, settled_result}
use Rattle.audit_top.proofs.Keeping.{pairs-are}
use Rattle.audit_top.proofs.Reports.{put-counts, summary-is}
use Rattle.audit_top.proofs.Stops.{put-stopped, put-whole}
use Rattle.audit_top.proofs.settled.print_pairs.Goals as goal

pub returns-in_err-write_settled : goal.returns-in_err-write_settled
returns-in_err-write_settled g c =
    let stack = c.args.stack.now in
    let searched = c.args.searched.now in
    let rows = c.args.rows.now in
    let p = err_from_is_err_and c.from_residual.result c.from_residual.ensures.1 in
    let is = summary-is searched rows c.reached.result c.rounds.result (length rows) c.words.result.now c.words.ensures c.reached.ensures c.rounds.ensures refl in
    let put = put-counts (λ (s : Summary). settled_text stack s rows) _ _ _ _ _ (summary_by c.reached.result c.rounds.result (length rows)) (summary_of searched rows) is c.in_err-write_settled.ensures in
    let may = pairs-are stack searched rows c.requires.exact c.requires.conflicts c.requires.chosen c.requires.search in
    put-stopped (IsSettled stack) _ _ (settled_result stack searched rows) _ _ p.0 may put p.1 p.2

pub returns : goal.returns
returns g c =
    let stack = c.args.stack.now in
    let searched = c.args.searched.now in
    let rows = c.args.rows.now in
    let is = summary-is searched rows c.reached.result c.rounds.result (length rows) c.words.result.now c.words.ensures c.reached.ensures c.rounds.ensures refl in
    let put = put-counts (λ (s : Summary). settled_text stack s rows) _ _ _ _ _ (summary_by c.reached.result c.rounds.result (length rows)) (summary_of searched rows) is c.in_ok-write_settled.ensures in
    let may = pairs-are stack searched rows c.requires.exact c.requires.conflicts c.requires.chosen c.requires.search in
    put-whole (IsSettled stack) _ _ (settled_result stack searched rows) _ may c.status_of.ensures refl put.all (put.steady refl)
