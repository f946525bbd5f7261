use Rattle.reading_laws.proofs.ForkNumberLemmas.{Reaches-ForkWalk, fork_at-number, fork_number-below, length-fork_lists, row_of_fork, walk-node}
use Rattle.reading_laws.proofs.FewForks.{few_forks}
use Rattle.reading_laws.proofs.fork_graph.Goals as goal

pub returns : goal.returns
returns c = record {
  count = length-fork_lists;
  row = row_of_fork;
  back = λ entries words n s are walk. let node = (walk-node entries words n s are walk).0 in (fork_at-number entries s node, fork_number-below entries s node);
  walks = Reaches-ForkWalk;
  few = few_forks;
}
