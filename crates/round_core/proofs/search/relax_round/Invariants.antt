use Rattle.std.proofs.Common.{◌≡◌, length, get_or}
use Rattle.round_core.proofs.Searches.{Passing, Making}
use Rattle.round_core.proofs.search.relax_round.Given as goal

abbrev pub invariant-loop-target : goal.invariant-loop-target
invariant-loop-target g l = record {
  owned : g.G.StepGraph.owns l.graph l.cursor;
  state : l.state ≡ get_or l.fn.queue.items l.at 0;
  making : Making (g.G.StepGraph.origin l.graph) (g.G.StepGraph.lists l.graph) l.distance l.begin l.at l.state l.fn.queue.items (g.G.StepGraph.left l.graph l.cursor) l.words.items l.queue.items l.moves;
}

abbrev pub decreases-loop-target : goal.decreases-loop-target
decreases-loop-target g l = length (g.G.StepGraph.left l.graph l.cursor)

abbrev pub invariant-loop-at : goal.invariant-loop-at
invariant-loop-at g l = Passing (g.G.StepGraph.origin l.graph) (g.G.StepGraph.lists l.graph) l.distance l.begin l.at l.fn.queue.items l.words.items l.queue.items l.moves
