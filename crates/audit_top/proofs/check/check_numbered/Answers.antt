use Rattle.std.proofs.Common.{Some, refl}
use Rattle.std.proofs.lemmas.Result.{err_from_is_err_and}
use Rattle.report.specs.Refusals.{certificate_failed}
use Rattle.certificate_laws.specs.Checks.{accepted}
use Rattle.audit_top.specs.Checked.{IsCheck, check_result}
use Rattle.audit_top.proofs.Certificates.{accepted-is, check-stopped}
use Rattle.audit_top.proofs.OtherFiles.{reading-goes}
use Rattle.audit_top.proofs.Stacks.{some_file}
use Rattle.audit_top.proofs.Stops.{put-stopped, put-whole}
use Rattle.audit_top.proofs.check.check_numbered.Goals as goal

pub returns-in_err-done : goal.returns-in_err-done
returns-in_err-done g c =
    let p = err_from_is_err_and c.from_residual.result c.from_residual.ensures.1 in
    check-stopped c.args.certificate.now c.args.stack.now _ _ _ c.in_err-done.field-0.0 _ _ c.in_err-done.ensures.fault c.in_err-done.ensures.opens p.1 p.2

pub returns-in_err-write_accepted : goal.returns-in_err-write_accepted
returns-in_err-write_accepted g c =
    let stack = c.args.stack.now in
    let name = c.args.certificate.now in
    let held = (g.F.Files.view c.args.files.now).held in
    let n = c.in_ok-done.done.conflicts in
    let p = err_from_is_err_and c.from_residual-in_err-write_accepted.result c.from_residual-in_err-write_accepted.ensures.1 in
    let may = accepted-is held name stack n c.in_ok-done.ensures.done in
    reading-goes certificate_failed _ name (λ file. IsCheck file stack) _ _ _ _ _ c.in_ok-done.ensures.opens
    (put-stopped (IsCheck (some_file held (Some name)) stack) _ _ (check_result (accepted n)) _ _ p.0 may c.in_err-write_accepted.ensures p.1 p.2)

pub returns : goal.returns
returns g c =
    let stack = c.args.stack.now in
    let name = c.args.certificate.now in
    let held = (g.F.Files.view c.args.files.now).held in
    let n = c.in_ok-done.done.conflicts in
    let may = accepted-is held name stack n c.in_ok-done.ensures.done in
    reading-goes certificate_failed _ name (λ file. IsCheck file stack) _ _ _ _ _ c.in_ok-done.ensures.opens
    (put-whole (IsCheck (some_file held (Some name)) stack) _ _ (check_result (accepted n)) _ may refl refl c.in_ok-write_accepted.ensures.all (c.in_ok-write_accepted.ensures.steady refl))
