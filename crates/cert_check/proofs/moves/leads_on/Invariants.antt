use Rattle.std.proofs.Common.{◌≡◌, length}
use Rattle.std.specs.List.{list_all}
use Rattle.graph_rules.specs.Graphs.{row}
use Rattle.cert_check.specs.inside.Places.{place_within}
use Rattle.cert_check.proofs.moves.leads_on.Given as goal

abbrev pub invariant-loop-target : goal.invariant-loop-target
invariant-loop-target g l = record {
  owned : g.G.StepGraph.owns l.graph l.cursor;
  same : list_all (place_within l.places l.most) (row (g.G.StepGraph.lists l.graph) l.state) ≡ list_all (place_within l.places l.most) (g.G.StepGraph.left l.graph l.cursor);
}

abbrev pub decreases-loop-target : goal.decreases-loop-target
decreases-loop-target g l = length (g.G.StepGraph.left l.graph l.cursor)
