use Rattle.std.proofs.Common.{◌≡◌, ◌<◌, ◌≤◌, ◌-◌, ◌*◌, ◌+◌, ◌⊎◌, ℕ, length, take}
use Rattle.graph_rules.specs.Graphs.{IsBest}
use Rattle.round_core.specs.inside.InRounds.{IsReady, moves_of}
use Rattle.round_core.proofs.search.search_plain.Given as goal

abbrev pub invariant-loop-at : goal.invariant-loop-at
invariant-loop-at g l = record {
  ready : IsReady (g.G.StepGraph.origin l.graph) (g.G.StepGraph.lists l.graph) l.rounds l.at l.words.items l.queue.items;
  within : l.at ≤ length l.queue.items;
  few : l.rounds ≤ l.at;
  relaxed : l.relaxed ≡ moves_of (g.G.StepGraph.lists l.graph) (take l.at l.queue.items);
  last : ((l.at ≡ 0) × (0 < length l.queue.items)) ⊎ ((s : ℕ) × (n : ℕ) × (s < length (g.G.StepGraph.lists l.graph)) × IsBest (g.G.StepGraph.origin l.graph) (g.G.StepGraph.lists l.graph) s n × (n + 1 ≡ l.rounds));
  bound : l.relaxed ≤ l.at * 4294967296;
}

abbrev pub decreases-loop-at : goal.decreases-loop-at
decreases-loop-at g l = length (g.G.StepGraph.lists l.graph) - l.at
