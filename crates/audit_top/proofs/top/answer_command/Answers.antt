use Rattle.std.proofs.Common.{Some, refl}
use Rattle.commands.specs.Commands.{audit_generated}
use Rattle.audit_top.specs.Audited.{IsAuditGenerated}
use Rattle.audit_top.proofs.Stacks.{without-files}
use Rattle.audit_top.proofs.top.answer_command.Goals as goal

pub returns-in-AuditGenerated : goal.returns-in-AuditGenerated
returns-in-AuditGenerated g c =
    let start = c.in-AuditGenerated.start in
    let count = c.in-AuditGenerated.count in
    let workers = c.in-AuditGenerated.workers in
    rw c.in-AuditGenerated.is (without-files (IsAuditGenerated start count) (Some (audit_generated start count workers)) (g.F.Files.view c.args.files.now) _ _ _ refl refl (λ inputs r is. is) c.audit_generated.ensures)
