use Rattle.steal_rounds.proofs.Turns.{Turning}
use Rattle.steal_rounds.proofs.give_back.work_rest.Given as goal

abbrev pub invariant-loop-worker : goal.invariant-loop-worker
invariant-loop-worker g l = Turning l.table l.distance l.frontier l.initial.crew.items l.crew.items l.worker
