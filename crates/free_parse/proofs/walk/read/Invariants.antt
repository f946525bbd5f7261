use Rattle.std.proofs.Common.{length}
use Rattle.free_parse.specs.inside.Forks.{IfNodesFork}
use Rattle.free_parse.proofs.WalkLemmas.{IsReading}
use Rattle.free_parse.proofs.walk.read.Given as goal

abbrev pub invariant-loop-number : goal.invariant-loop-number
invariant-loop-number l = record {
  reading : IsReading l.graph l.initial.path.items l.path.items l.at l.halves;
  nodes : IfNodesFork l.graph.entries l.at;
}

abbrev pub decreases-loop-number : goal.decreases-loop-number
decreases-loop-number l = length l.path.items
