use Rattle.std.proofs.Common.{◌≡◌, length}
use Rattle.steal_batches.proofs.tests.full_deque.Given as goal

abbrev pub invariant-loop-batch : goal.invariant-loop-batch
invariant-loop-batch l = (l.deque.room ≡ 64) × (l.deque.thieves ≡ 0) × (length l.deque.offered ≡ l.batch)
