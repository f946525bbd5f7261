use Rattle.std.proofs.Common.{◌-◌}
use Rattle.cert_upgrade.proofs.UpperReading.{IsReadingUpper}
use Rattle.cert_upgrade.proofs.top.read_upper.Given as goal

abbrev pub invariant-loop-line : goal.invariant-loop-line
invariant-loop-line g l = IsReadingUpper l.fn.reader l.reader (g.F.Files.view l.fn.files) (g.F.Files.view l.files) l.upper

abbrev pub decreases-loop-line : goal.decreases-loop-line
decreases-loop-line g l = 1073741824 - l.reader.lines
