use Rattle.steal_rounds.specs.inside.Records.{AreHeld, AreReturned}
use Rattle.steal_rounds.proofs.give_back.take_back_all.Given as goal

abbrev pub invariant-loop-victim : goal.invariant-loop-victim
invariant-loop-victim l = record {
  held : AreHeld l.victim 0 l.crew.items;
  same : AreReturned l.initial.crew.items l.crew.items;
}
