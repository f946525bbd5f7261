use Rattle.std.proofs.Common.{◌-◌, length}
use Rattle.audit_certificate.proofs.RunSteps.{RunsPut}
use Rattle.audit_certificate.proofs.runs.put_runs.Given as goal

-- the runs so far were added
abbrev pub invariant-loop-at : goal.invariant-loop-at
invariant-loop-at g l = RunsPut l.words l.at l.fn.writer l.writer (g.F.Files.view l.fn.files) (g.F.Files.view l.files)

abbrev pub decreases-loop-at : goal.decreases-loop-at
decreases-loop-at g l = length l.words - l.at
