use Rattle.std.proofs.Common.{ap}
use Rattle.steal_batches.proofs.StepLemmas.{merges}
use Rattle.steal_batches.specs.declared.hand.Hand.{Hand}
use Rattle.steal_batches.proofs.deque.BatchDeque.take_back.Goals as goal

pub absorb-requires-clause-rule : goal.absorb-requires-clause-rule
absorb-requires-clause-rule c = let i = c.self.invariant in let t = c.thief.invariant in merges _ _ _ _ (ap (λ (h : Hand). h.owns) i.1) (ap (λ (h : Hand). h.owns) t.2) (ap (λ (h : Hand). h.live) t.2)
