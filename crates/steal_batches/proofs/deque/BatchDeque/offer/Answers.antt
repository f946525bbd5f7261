use Rattle.std.proofs.Common.{ap}
use Rattle.steal_batches.proofs.StepLemmas.{pushes}
use Rattle.steal_batches.specs.declared.hand.Hand.{Hand}
use Rattle.steal_batches.proofs.deque.BatchDeque.offer.Goals as goal

pub push_as-requires-clause-pushes : goal.push_as-requires-clause-pushes
push_as-requires-clause-pushes c = let i = c.self.invariant in pushes _ _ _ (ap (λ (h : Hand). h.owns) i.1) (ap (λ (h : Hand). h.live) i.1)
