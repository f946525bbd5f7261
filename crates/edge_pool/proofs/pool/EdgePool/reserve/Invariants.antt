use Rattle.edge_pool.proofs.LoopLemmas.{IsReserving}
use Rattle.edge_pool.proofs.pool.EdgePool.reserve.Given as goal

abbrev pub invariant-loop : goal.invariant-loop
invariant-loop l = IsReserving l.initial.self l.self l.class l.counter
