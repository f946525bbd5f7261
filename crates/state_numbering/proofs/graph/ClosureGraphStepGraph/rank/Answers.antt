use Rattle.std.proofs.Common.{ap, subst, arith}
use Rattle.steno_rules.specs.StateNumbers.{number_count}
use Rattle.steno_rules.specs.States.{kept_targets}
use Rattle.closure_laws.proofs.GraphLemmas.{length-lists}
use Rattle.state_numbering.specs.Numberings.{NumberingView}
use Rattle.state_numbering.specs.ByNumber.{IsOpenWordOf}
use Rattle.state_numbering.proofs.graph.ClosureGraphStepGraph.rank.Goals as goal

pub open_word-requires : goal.open_word-requires
open_word-requires c =
    let g = c.args.self.now in
    omega (arith, c.requires, ap (λ (v : NumberingView). number_count v.entries) c.self.view_is, length-lists g.entries g.words (kept_targets g.entries g.words))

pub returns : goal.returns
returns c = subst (λ (v : NumberingView). IsOpenWordOf v c.args.state c.open_word.result) c.self.view_is c.open_word.ensures
