use Rattle.reading_laws.proofs.ForkNumberLemmas.{fork_targets-Contains, fork_targets-over}
use Rattle.reading_laws.proofs.fork_moves.Goals as goal

pub returns : goal.returns
returns c = record { are = fork_targets-Contains; over = fork_targets-over }
