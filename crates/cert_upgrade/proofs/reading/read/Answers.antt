use Rattle.cert_upgrade.proofs.AddedLines.{fault_told}
use Rattle.cert_upgrade.proofs.reading.read.Goals as goal

pub returns-clause-fault : goal.returns-clause-fault
returns-clause-fault g c = fault_told c.read_lines.result (g.F.Files.view c.args.files.now).held c.args.name.now c.in-Ok.reader (g.F.Files.view c.begin.new.files) c.in-Ok.ensures.reader c.in-Ok.ensures.opened.rest c.read_lines.ensures.fault
