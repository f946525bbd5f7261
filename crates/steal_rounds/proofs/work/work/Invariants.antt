use Rattle.steal_rounds.specs.inside.Crews.{Works}
use Rattle.steal_rounds.proofs.work.work.Given as goal

abbrev pub invariant-loop : goal.invariant-loop
invariant-loop g l = Works l.table l.distance l.frontier l.initial.member l.member
