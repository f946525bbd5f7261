use Rattle.std.proofs.Common.{ap, inr}
use Rattle.steal_batches.proofs.StepLemmas.{gets}
use Rattle.steal_batches.specs.declared.hand.Hand.{Hand}
use Rattle.steal_batches.proofs.thief.BatchThief.attempt.Goals as goal

pub steal_as-requires-clause-takes : goal.steal_as-requires-clause-takes
steal_as-requires-clause-takes c = let i = c.self.invariant in gets _ _ (inr (ap (λ (h : Hand). h.owns) i.2, ap (λ (h : Hand). h.live) i.2))
