use Rattle.std.proofs.Common.{◌*◌, get_or, ap, sym, arith}
use Rattle.outline_trie.proofs.RoomLemmas.{weight_start, weight_step, weight_within}
use Rattle.outline_trie.proofs.room.cells_of.Goals as goal

pub loop-class-init : goal.loop-class-init
loop-class-init c = sym (weight_start c.args.kinds.now)

pub overflow_mul-cells : goal.overflow_mul-cells
overflow_mul-cells c = omega (arith, weight_within c.args.kinds.now c.loop-class.class c.loop-class-test.true, c.requires.bound, ap (λ s. s * get_or c.args.kinds.now c.loop-class.class 0) c.size_of_class.ensures.is)

pub overflow_add-cells : goal.overflow_add-cells
overflow_add-cells c = omega (arith, weight_within c.args.kinds.now c.loop-class.class c.loop-class-test.true, c.requires.bound, c.loop-class.invariant, ap (λ s. s * get_or c.args.kinds.now c.loop-class.class 0) c.size_of_class.ensures.is)

pub loop-class-preserved : goal.loop-class-preserved
loop-class-preserved c = omega (arith, weight_step c.args.kinds.now c.loop-class.class, c.loop-class.invariant, ap (λ s. s * get_or c.args.kinds.now c.loop-class.class 0) c.size_of_class.ensures.is)
