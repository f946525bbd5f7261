use Rattle.pair_slots.proofs.Starts.{AreStartsSoFar}
use Rattle.pair_slots.proofs.starts_of.Given as goal

abbrev pub invariant-loop-outline : goal.invariant-loop-outline
invariant-loop-outline l = AreStartsSoFar l.outlines l.outline-index l.end l.starts.items
