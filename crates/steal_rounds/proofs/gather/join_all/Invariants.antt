use Rattle.std.proofs.Common.{length}
use Rattle.steal_rounds.specs.inside.Moves.{IsLaterPass}
use Rattle.steal_rounds.proofs.Gathers.{Gathered}
use Rattle.steal_rounds.proofs.gather.join_all.Given as goal

abbrev pub invariant-loop-member : goal.invariant-loop-member
invariant-loop-member g l = record {
  goes : IsLaterPass l.table l.initial.pass l.pass;
  gathered : Gathered l.initial.crew.items l.crew.items l.pass.seen;
}

abbrev pub decreases-loop-member : goal.decreases-loop-member
decreases-loop-member g l = length l.crew.items
