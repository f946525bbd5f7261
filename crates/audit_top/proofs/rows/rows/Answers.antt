use Rattle.std.proofs.Common.{Global, Some, Vec, ℕ, ap, sym, Err, false, true≢false}
use Rattle.std.proofs.lemmas.Result.{err_from_is_err_and}
use Rattle.report.specs.Refusals.{file_failed}
use Rattle.commands.specs.Commands.{rows as rows_of}
use Rattle.audit_top.specs.Listed.{IsRows}
use Rattle.audit_top.specs.inside.Answers.{reads_only}
use Rattle.audit_top.proofs.Listing.{is-rows, opens-read, opens-unread, read-goes, unread}
use Rattle.audit_top.proofs.OtherFiles.{alone-answer}
use Rattle.audit_top.proofs.rows.rows.Goals as goal

pub returns-in_err-bytes : goal.returns-in_err-bytes
returns-in_err-bytes g c =
    let file = c.args.file.now in
    let e = c.in_err-bytes.ensures in
    let fault = c.in_err-bytes.field-0.0 in
    let p = err_from_is_err_and c.from_residual.result c.from_residual.ensures.1 in
    alone-answer (Some (rows_of file)) (file_failed 1) (reads_only file) IsRows (is-rows file) _ _ _ _ _
    (unread (Vec ℕ Global) file _ _ _ fault _ _ (λ is. e.too_long (ap Err is)) (opens-unread (Vec ℕ Global) file fault _ _ e.leaves e.opened e.latest e.later (λ is. e.failed (ap Err is)) e.steady) p.1 p.2)

pub returns : goal.returns
returns g c =
    let file = c.args.file.now in
    let e = c.in_ok-bytes.ensures in
    alone-answer (Some (rows_of file)) (file_failed 1) (reads_only file) IsRows (is-rows file) _ _ _ _ _
    (read-goes file c.deref.result.now c.in_ok-bytes.bytes.items _ _ _ _ _ c.deref.ensures.value e.bytes (opens-read file false _ _ e.leaves e.opened e.latest e.later (λ f. absurd (true≢false (sym f))) e.steady) c.list_rows.ensures)
