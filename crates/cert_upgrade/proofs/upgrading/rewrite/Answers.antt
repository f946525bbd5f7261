use Rattle.std.proofs.Common.{subst}
use Rattle.audit_certificate.specs.Written.{lines_text}
use Rattle.cert_upgrade.specs.inside.Puts.{IsCutOff}
use Rattle.cert_upgrade.proofs.AddedLines.{upgrade_part}
use Rattle.cert_upgrade.proofs.upgrading.rewrite.Goals as goal

pub returns-in-Ok-clause-part : goal.returns-in-Ok-clause-part
returns-in-Ok-clause-part g c =
    upgrade_part c.args.source.now c.args.target.now c.in-Ok.lines.items c.in-Ok.conflicts (g.F.Files.view c.args.files.now).held (g.F.Files.view c.read.new.files).held (g.F.Files.view c.write.new.files).held c.in-Ok.ensures.read c.in-Ok.ensures.opens.leaves.held
    (subst (λ ls. IsCutOff c.args.target.now (lines_text ls) (g.F.Files.view c.read.new.files).held (g.F.Files.view c.write.new.files).held) c.deref.ensures.value c.in-Err-write.ensures.cut)
