use Rattle.std.proofs.Common.{◌-◌}
use Rattle.cert_upgrade.proofs.RowReading.{IsReadingRows}
use Rattle.cert_upgrade.proofs.rows.read_rows.Given as goal

abbrev pub invariant-loop-row : goal.invariant-loop-row
invariant-loop-row g l =
    IsReadingRows l.fn.reader l.reader (g.F.Files.view l.fn.files) (g.F.Files.view l.files) l.fn.lines.items l.lines.items l.count (l.count - l.row)
