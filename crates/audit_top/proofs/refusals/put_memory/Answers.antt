use Rattle.std.proofs.Common.{refl}
use Rattle.audit_top.proofs.Stops.{memory-line}
use Rattle.audit_top.proofs.refusals.put_memory.Goals as goal

pub returns-in-Ok : goal.returns-in-Ok
returns-in-Ok g c = memory-line _ _ c.in-Ok.ensures.all (c.in-Ok.ensures.steady refl)
