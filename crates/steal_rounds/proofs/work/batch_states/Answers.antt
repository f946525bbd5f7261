use Rattle.std.proofs.Common.{arith}
use Rattle.steal_rounds.proofs.Takings.{batch_end}
use Rattle.steal_rounds.proofs.work.batch_states.Goals as goal

pub returns-then-frontier-from-le64-clause-states : goal.returns-then-frontier-from-le64-clause-states
returns-then-frontier-from-le64-clause-states c = batch_end c.args.frontier.now c.args.batch (omega arith)
