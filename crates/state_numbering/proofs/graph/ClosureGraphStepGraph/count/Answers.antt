use Rattle.std.proofs.Common.{ap, sym, subst, ◌∙◌, arith}
use Rattle.steno_rules.specs.Outlines.{AreWords}
use Rattle.steno_rules.specs.StateNumbers.{number_count}
use Rattle.steno_rules.specs.States.{kept_targets}
use Rattle.closure_laws.proofs.GraphLemmas.{length-lists}
use Rattle.state_numbering.specs.Numberings.{NumberingView}
use Rattle.state_numbering.proofs.GraphRows.{target_below}
use Rattle.state_numbering.proofs.graph.ClosureGraphStepGraph.count.Goals as goal

pub returns-clause-count : goal.returns-clause-count
returns-clause-count c =
    let g = c.args.self.now in
    c.count.ensures.count ∙ ap (λ (v : NumberingView). number_count v.entries) c.self.view_is ∙ sym (length-lists g.entries g.words (kept_targets g.entries g.words))

pub returns-clause-most : goal.returns-clause-most
returns-clause-most c =
    let g = c.args.self.now in
    omega (arith, c.count.ensures.count, c.count.ensures.most, ap (λ (v : NumberingView). number_count v.entries) c.self.view_is, length-lists g.entries g.words (kept_targets g.entries g.words))

pub returns-clause-targets : goal.returns-clause-targets
returns-clause-targets c = let g = c.args.self.now in target_below g.entries g.words (subst (λ (v : NumberingView). AreWords v.entries v.words) c.self.view_is c.count.ensures.words)
