use Rattle.std.proofs.Common.{refl, arith}
use Rattle.outline_trie.proofs.RoomLemmas.{weight_start, none_reserved, reserve_fits, reserve_more, cells_more}
use Rattle.outline_trie.proofs.room.reserve_all.Goals as goal

pub loop-class-init : goal.loop-class-init
loop-class-init c = rw c.requires.pool (record {
  blocks = none_reserved c.args.kinds.now;
  cells = omega (arith, weight_start c.args.kinds.now);
})

pub unreachable-requires : goal.unreachable-requires
unreachable-requires c =
    let fits = reserve_fits c.args.kinds.now c.loop-class.pool c.loop-class.class c.size_of_class.result _ c.loop-class.invariant.blocks c.loop-class.invariant.cells c.loop-class-test.true c.size_of_class.ensures.is refl in
    omega (arith, fits, c.in_default.ensures.full.0 refl)

pub loop-class-preserved : goal.loop-class-preserved
loop-class-preserved c = rw c.in-Ok.ensures.ok (record {
  blocks = reserve_more c.args.kinds.now c.loop-class.pool c.loop-class.class c.size_of_class.result _ c.loop-class.invariant.blocks c.loop-class.invariant.cells c.loop-class-test.true c.size_of_class.ensures.is refl;
  cells = cells_more c.args.kinds.now c.loop-class.pool c.loop-class.class c.size_of_class.result _ c.loop-class.invariant.blocks c.loop-class.invariant.cells c.loop-class-test.true c.size_of_class.ensures.is refl;
})
