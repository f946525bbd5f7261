use Rattle.std.proofs.Common.{◌-◌, length}
use Rattle.audit_certificate.specs.inside.RunEnds.{IsRunPart}
use Rattle.audit_certificate.proofs.runs.run_end.Given as goal

-- the states so far have the distance
abbrev pub invariant-loop-end : goal.invariant-loop-end
invariant-loop-end l = IsRunPart l.words l.first l.distance l.end

abbrev pub decreases-loop-end : goal.decreases-loop-end
decreases-loop-end l = length l.words - l.end
