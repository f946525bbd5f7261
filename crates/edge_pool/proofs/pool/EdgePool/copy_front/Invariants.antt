use Rattle.std.proofs.Common.{◌≡◌}
use Rattle.edge_pool.proofs.LoopLemmas.{copied}
use Rattle.edge_pool.proofs.pool.EdgePool.copy_front.Given as goal

abbrev pub invariant-loop-place : goal.invariant-loop-place
invariant-loop-place l = l.self ≡ copied l.initial.self l.from l.to l.place
