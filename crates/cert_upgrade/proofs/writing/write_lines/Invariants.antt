use Rattle.std.proofs.Common.{take}
use Rattle.audit_certificate.specs.Written.{lines_text}
use Rattle.cert_upgrade.specs.inside.Puts.{PutsWhole}
use Rattle.cert_upgrade.proofs.writing.write_lines.Given as goal

-- the lines so far were added
abbrev pub invariant-loop-line : goal.invariant-loop-line
invariant-loop-line g l =
    PutsWhole (lines_text (take l.line-index l.lines)) l.fn.writer l.writer (g.F.Files.view l.fn.files) (g.F.Files.view l.files)
