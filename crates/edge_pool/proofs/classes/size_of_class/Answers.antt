use Rattle.std.proofs.Common.{arith}
use Rattle.edge_pool.proofs.ClassLemmas.{size_bound}
use Rattle.edge_pool.proofs.classes.size_of_class.Goals as goal

pub returns-clause-bound : goal.returns-clause-bound
returns-clause-bound c = omega (arith, size_bound c.args.class c.requires)
