use Rattle.std.proofs.Common.{Some, refl}
use Rattle.std.proofs.lemmas.Result.{err_from_is_err_and}
use Rattle.report.specs.Refusals.{certificate_failed}
use Rattle.commands.specs.Commands.{upgrade as upgrade_of}
use Rattle.audit_top.specs.Upgraded.{IsUpgrade}
use Rattle.audit_top.proofs.OtherFiles.{alone-answer}
use Rattle.audit_top.proofs.Upgrading.{both_named, is-upgrade, upgrade-cut, upgrade-stopped, upgrade-whole}
use Rattle.audit_top.proofs.upgrade.upgrade.Goals as goal

pub returns-in_err-done : goal.returns-in_err-done
returns-in_err-done g c =
    let source = c.args.certificate.now in
    let target = c.args.target.now in
    let e = c.in_err-done.ensures in
    let p = err_from_is_err_and c.from_residual.result c.from_residual.ensures.1 in
    alone-answer (Some (upgrade_of source target)) certificate_failed (both_named source target) (IsUpgrade target) (is-upgrade source target) _ _ _ _ _
    (upgrade-stopped source target _ _ _ c.in_err-done.field-0.0 _ _ e.fault e.refused e.part e.opens p.1 p.2)

pub returns-in_err-write_upgraded : goal.returns-in_err-write_upgraded
returns-in_err-write_upgraded g c =
    let source = c.args.certificate.now in
    let target = c.args.target.now in
    let e = c.in_ok-done.ensures in
    let p = err_from_is_err_and c.from_residual-in_err-write_upgraded.result c.from_residual-in_err-write_upgraded.ensures.1 in
    alone-answer (Some (upgrade_of source target)) certificate_failed (both_named source target) (IsUpgrade target) (is-upgrade source target) _ _ _ _ _
    (upgrade-cut source target _ _ _ _ c.in_ok-done.done.conflicts _ _ p.0 e.done e.written e.opens c.in_err-write_upgraded.ensures p.1 p.2)

pub returns : goal.returns
returns g c =
    let source = c.args.certificate.now in
    let target = c.args.target.now in
    let e = c.in_ok-done.ensures in
    alone-answer (Some (upgrade_of source target)) certificate_failed (both_named source target) (IsUpgrade target) (is-upgrade source target) _ _ _ _ _
    (upgrade-whole source target _ _ _ _ c.in_ok-done.done.conflicts _ e.done e.written e.opens refl c.in_ok-write_upgraded.ensures.all (c.in_ok-write_upgraded.ensures.steady refl))
