use Rattle.std.proofs.Common.{ap, arith}
use Rattle.steno_rules.specs.StateNumbers.{number_count}
use Rattle.steno_rules.specs.States.{kept_targets}
use Rattle.closure_laws.proofs.GraphLemmas.{length-lists}
use Rattle.state_numbering.specs.Numberings.{NumberingView}
use Rattle.state_numbering.proofs.graph.ClosureGraphStepGraph.next.Goals as goal

pub returns-in-Some-next-clause-below : goal.returns-in-Some-next-clause-below
returns-in-Some-next-clause-below c =
    let g = c.args.self.now in
    omega (arith, c.number.ensures.below, ap (λ (v : NumberingView). number_count v.entries) c.self.view_is, length-lists g.entries g.words (kept_targets g.entries g.words))
