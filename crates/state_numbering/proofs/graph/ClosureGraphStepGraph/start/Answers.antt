use Rattle.std.proofs.Common.{arith}
use Rattle.steno_rules.specs.States.{kept_targets}
use Rattle.closure_laws.proofs.GraphLemmas.{length-lists}
use Rattle.state_numbering.proofs.PartLemmas.{count_some}
use Rattle.state_numbering.proofs.graph.ClosureGraphStepGraph.start.Goals as goal

pub returns-clause-below : goal.returns-clause-below
returns-clause-below c = let g = c.args.self.now in omega (arith, length-lists g.entries g.words (kept_targets g.entries g.words), count_some g.entries)
