use Rattle.std.proofs.Common.{arith}
use Rattle.edge_pool.proofs.StepLemmas.{uncut_sound}
use Rattle.edge_pool.proofs.pool.EdgePool.with_cells.Goals as goal

pub invariant_of-result : goal.invariant_of-result
invariant_of-result c = let e = c.new.ensures in rw e (uncut_sound _ (omega (arith, c.in_ok-vec.ensures.len, c.requires)))
