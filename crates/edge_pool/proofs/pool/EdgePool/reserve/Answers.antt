use Rattle.std.proofs.Common.{◌≡◌, length, subst}
use Rattle.edge_pool.specs.Pools.{Pool}
use Rattle.edge_pool.proofs.LoopLemmas.{reserving_none, reserving_more}
use Rattle.edge_pool.proofs.pool.EdgePool.reserve.Goals as goal

pub loop-init : goal.loop-init
loop-init c = reserving_none c.args.self.now c.class_of_len-class.result (subst (λ (v : Pool). length v.spare ≡ 23) c.self.view_is c.self.invariant.classes.1)

pub loop-preserved : goal.loop-preserved
loop-preserved c = reserving_more c.args.self.now c.loop.self c.cut_spare.new.self c.class_of_len-class.result c.loop.counter c.loop.invariant c.class_of_len-class.ensures.known c.cut_spare.ensures
