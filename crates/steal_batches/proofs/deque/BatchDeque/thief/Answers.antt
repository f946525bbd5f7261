use Rattle.std.proofs.Common.{ap}
use Rattle.steal_batches.proofs.StepLemmas.{forks}
use Rattle.steal_batches.specs.declared.hand.Hand.{Hand}
use Rattle.steal_batches.proofs.deque.BatchDeque.thief.Goals as goal

pub another-pass-requires : goal.another-pass-requires
another-pass-requires c = let i = c.self.invariant in forks _ _ (ap (λ (h : Hand). h.owns) i.1)
