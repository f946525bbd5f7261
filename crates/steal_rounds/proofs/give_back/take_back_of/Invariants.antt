use Rattle.steal_rounds.specs.inside.Records.{AreHeld, AreReturned}
use Rattle.steal_rounds.proofs.give_back.take_back_of.Given as goal

abbrev pub invariant-loop-worker : goal.invariant-loop-worker
invariant-loop-worker l = record {
  held : AreHeld l.victim l.worker l.crew.items;
  same : AreReturned l.initial.crew.items l.crew.items;
}
