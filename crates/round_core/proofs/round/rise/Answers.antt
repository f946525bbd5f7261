use Rattle.round_core.proofs.Sorting.{sorts}
use Rattle.round_core.proofs.round.rise.Goals as goal

pub returns-clause-items : goal.returns-clause-items
returns-clause-items c = sorts c.args.front.now.items c.sort_unstable.new.self.items c.sort_unstable.ensures.permutation c.sort_unstable.ensures.sorted
