use Rattle.std.proofs.Common.{arith}
use Rattle.round_core.proofs.Samples.{lists_count}
use Rattle.round_core.proofs.tests.RegularStepGraph.start.Goals as goal

pub returns-clause-below : goal.returns-clause-below
returns-clause-below c = let g = c.args.self.now in let count = lists_count g.count g.degree g.factor g.turn g.shift in let below = g.bound.1 in omega (arith, count, below)
