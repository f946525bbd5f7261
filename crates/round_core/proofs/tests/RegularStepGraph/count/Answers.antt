use Rattle.std.proofs.Common.{sym, arith}
use Rattle.round_core.proofs.Samples.{lists_count, target_below}
use Rattle.round_core.proofs.tests.RegularStepGraph.count.Goals as goal

pub returns-clause-count : goal.returns-clause-count
returns-clause-count c = let g = c.args.self.now in sym (lists_count g.count g.degree g.factor g.turn g.shift)

pub returns-clause-most : goal.returns-clause-most
returns-clause-most c = let g = c.args.self.now in let count = lists_count g.count g.degree g.factor g.turn g.shift in let most = g.bound.0 in omega (arith, count, most)

pub returns-clause-targets : goal.returns-clause-targets
returns-clause-targets c = let g = c.args.self.now in target_below g.count g.degree g.factor g.turn g.shift
