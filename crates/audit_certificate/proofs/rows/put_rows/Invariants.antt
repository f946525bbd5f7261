use Rattle.std.proofs.Common.{take}
use Rattle.audit_certificate.specs.inside.Puts.{PutsAll, row_lines}
use Rattle.audit_certificate.proofs.rows.put_rows.Given as goal

-- the rows so far were added
abbrev pub invariant-loop-row : goal.invariant-loop-row
invariant-loop-row g l =
    PutsAll (row_lines (take l.row-index l.rows)) l.fn.writer l.writer (g.F.Files.view l.fn.files) (g.F.Files.view l.files)
