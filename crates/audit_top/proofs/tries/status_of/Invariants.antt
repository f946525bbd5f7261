use Rattle.std.proofs.Common.{◌≡◌, false, take}
use Rattle.std.specs.List.{list_any}
use Rattle.audit_top.specs.Tried.{has_conflict}
use Rattle.audit_top.proofs.tries.status_of.Given as goal

-- none of the trials so far has a conflict
abbrev pub invariant-loop-trial : goal.invariant-loop-trial
invariant-loop-trial l = list_any has_conflict (take l.trial-index l.trials) ≡ false
