use Rattle.std.proofs.Common.{length, sym, ap, arith}
use Rattle.round_core.proofs.Samples.{lists_count, row_at, row_length}
use Rattle.round_core.proofs.tests.RegularStepGraph.first.Goals as goal

pub returns-clause-whole : goal.returns-clause-whole
returns-clause-whole c =
    let g = c.args.self.now in let count = lists_count g.count g.degree g.factor g.turn g.shift in let below = c.requires in
    sym (row_at g.count g.degree g.factor g.turn g.shift c.args.state (omega (arith, count, below)))

pub returns-clause-few : goal.returns-clause-few
returns-clause-few c =
    let g = c.args.self.now in let count = lists_count g.count g.degree g.factor g.turn g.shift in let below = c.requires in
    let row = ap length (row_at g.count g.degree g.factor g.turn g.shift c.args.state (omega (arith, count, below))) in
    let degree = row_length g.count g.degree g.factor g.turn g.shift c.args.state in
    let few = g.bound.2 in omega (arith, row, degree, few)

pub returns-clause-mine : goal.returns-clause-mine
returns-clause-mine c =
    let g = c.args.self.now in let count = lists_count g.count g.degree g.factor g.turn g.shift in let below = c.requires in
    (omega (arith, count, below), omega arith)
