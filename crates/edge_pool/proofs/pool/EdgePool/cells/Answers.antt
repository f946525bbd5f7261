use Rattle.std.proofs.Common.{length, arith, ap}
use Rattle.edge_pool.proofs.PoolLemmas.{listed, shown_pairs}
use Rattle.edge_pool.proofs.pool.EdgePool.cells.Goals as goal

pub slice_bounds-result-end : goal.slice_bounds-result-end
slice_bounds-result-end c =
    let l = listed _ _ _ _ _ c.self.invariant _ c.self.view_is c.args.block.now c.requires in
    omega (arith, l.within, c.place-from.ensures, c.len.ensures, c.deref.ensures.len, ap length c.deref.ensures.value)

pub returns-clause-pairs : goal.returns-clause-pairs
returns-clause-pairs c =
    shown_pairs _ _ _ _ _ c.self.invariant _ c.self.view_is c.args.block.now c.requires c.deref.result.now c.place-from.result c.len.result c.deref.ensures.value c.place-from.ensures c.len.ensures
