use Rattle.std.proofs.Common.{sym, ◌∙◌, ap, ◌+◌, arith}
use Rattle.reading_laws.proofs.ForkBounds.{fork_target-below}
use Rattle.reading_laws.proofs.ForkNumberLemmas.{length-fork_lists}
use Rattle.free_parse.proofs.graph.FreeGraphStepGraph.count.Goals as goal

pub returns-clause-count : goal.returns-clause-count
returns-clause-count c = let g = c.args.self.now in ap (λ k. k + 1) c.end.ensures.end ∙ sym (length-fork_lists g.entries g.words)

pub returns-clause-most : goal.returns-clause-most
returns-clause-most c = let g = c.args.self.now in omega (arith, c.end.ensures.end, c.end.ensures.few, length-fork_lists g.entries g.words)

pub returns-clause-targets : goal.returns-clause-targets
returns-clause-targets c = let g = c.args.self.now in fork_target-below g.entries g.words c.end.ensures.words
