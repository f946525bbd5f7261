use Rattle.settled_pairs.proofs.SumLemmas.{open_by_closed}
use Rattle.settled_pairs.proofs.sums.open_hit.Goals as goal

pub returns : goal.returns
returns c = open_by_closed c.args.trie.now c.args.state.now c.hit.result c.hit.ensures
