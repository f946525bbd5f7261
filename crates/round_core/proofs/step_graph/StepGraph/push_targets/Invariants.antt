use Rattle.std.proofs.Common.{◌≡◌, ◌++◌, length}
use Rattle.graph_rules.specs.Graphs.{row}
use Rattle.round_core.proofs.step_graph.StepGraph.push_targets.Given as goal

abbrev pub invariant-loop-target : goal.invariant-loop-target
invariant-loop-target g l = record {
  owned : g.Self.StepGraph.owns l.self l.cursor;
  pushed : l.targets.items ++ g.Self.StepGraph.left l.self l.cursor ≡ l.initial.targets.items ++ row (g.Self.StepGraph.lists l.self) l.state;
}

abbrev pub decreases-loop-target : goal.decreases-loop-target
decreases-loop-target g l = length (g.Self.StepGraph.left l.self l.cursor)
