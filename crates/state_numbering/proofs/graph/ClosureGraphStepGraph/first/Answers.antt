use Rattle.state_numbering.proofs.GraphRows.{few_in_row, row_left}
use Rattle.state_numbering.proofs.graph.ClosureGraphStepGraph.first.Goals as goal

pub returns-clause-whole : goal.returns-clause-whole
returns-clause-whole c = row_left _ c.args.self.now c.args.state c.moves.result c.self.view_is c.requires c.moves.ensures.left

pub returns-clause-few : goal.returns-clause-few
returns-clause-few c = few_in_row _ c.args.self.now c.args.state c.moves.result c.self.view_is c.requires c.moves.ensures.left c.moves.ensures.few
