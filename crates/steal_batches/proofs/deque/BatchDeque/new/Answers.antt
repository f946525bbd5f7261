use Rattle.steal_batches.proofs.StepLemmas.{begins}
use Rattle.steal_batches.proofs.deque.BatchDeque.new.Goals as goal

pub fifo_as-requires : goal.fifo_as-requires
fifo_as-requires c = begins
