use Rattle.std.proofs.Common.{◌≡◌, ◌+◌, ◌++◌, [], length, map}
use Rattle.std.specs.List.{AllByRecursion}
use Rattle.graph_rules.specs.Graphs.{row}
use Rattle.steno_rules.specs.ClosureGraphs.{kept_lists}
use Rattle.steno_rules.specs.StateNumbers.{state_number}
use Rattle.closure_state.specs.NodeStates.{IsNodeState}
use Rattle.closure_state.specs.Waits.{waits}
use Rattle.state_numbering.specs.Cursors.{numbers_at}
use Rattle.state_numbering.proofs.graph.ClosureGraphStepGraph.push_targets.Given as goal

abbrev pub invariant-strokes : goal.invariant-strokes
invariant-strokes l = record {
  entries_are : l.moves.entries ≡ l.self.entries;
  words_are : l.moves.words ≡ l.self.words;
  pushed : l.targets.items ++ (numbers_at l.self.entries (waits l.waiting) ++ map (state_number l.self.entries) l.moves.left) ≡ l.initial.targets.items ++ row (kept_lists l.self.entries l.self.words) l.state;
  done : waits l.waiting ≡ [] → l.moves.left ≡ [];
  states : AllByRecursion (IsNodeState l.self.entries l.self.words) (waits l.waiting);
}

abbrev pub decreases-strokes : goal.decreases-strokes
decreases-strokes l = length (waits l.waiting) + length l.moves.left
