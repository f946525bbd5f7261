use Rattle.std.proofs.Common.{take}
use Rattle.free_parse.proofs.EndingLemmas.{NoneEnds}
use Rattle.free_parse.proofs.graph.FreeGraph.ending.Given as goal

abbrev pub invariant-loop-pair : goal.invariant-loop-pair
invariant-loop-pair l = NoneEnds l.self.entries l.self.words l.longer l.shorter (take l.pair-index l.pair-items)
