use Rattle.std.proofs.Common.{refl}
use Rattle.audit_certificate.specs.Written.{lines_text}
use Rattle.cert_upgrade.proofs.AddedLines.{cut_failed}
use Rattle.cert_upgrade.proofs.writing.write.Goals as goal

pub returns-in-Err-end-clause-cut : goal.returns-in-Err-end-clause-cut
returns-in-Err-end-clause-cut g c =
    let b = c.in-Ok.ensures in
    cut_failed c.write_lines-written.result c.args.name.now (lines_text c.args.lines.now) _ _ (g.F.Files.view c.args.files.now) (g.F.Files.view c.begin.new.files) (g.F.Files.view c.write_lines-written.new.files) (g.F.Files.view c.end.new.files)
    (record { writing = b.begins.writing; emptied = b.emptied; opened = b.begins.opened; latest = b.begins.latest; faults = b.begins.steady refl }) c.write_lines-written.ensures c.in-Err-end.ensures.ends.held
