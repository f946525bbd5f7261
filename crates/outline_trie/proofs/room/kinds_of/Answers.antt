use Rattle.outline_trie.proofs.RoomLemmas.{is_len, no_kinds, more_kinds, same_kinds, all_kinds}
use Rattle.outline_trie.proofs.room.kinds_of.Goals as goal
use Rattle.outline_trie.proofs.room.kinds_of.Goals.{then-count-gt0, else-count-gt0}
use Rattle.std.proofs.Common.{refl, arith}

pub loop-count-init : goal.loop-count-init
loop-count-init c = no_kinds c.args.counts.now

pub loop-count-preserved : goal.loop-count-preserved
loop-count-preserved c = elim c.if-count-gt0.branch [
  | then-count-gt0 w ↦ rw w.kinds-is (
      more_kinds c.args.counts.now c.loop-count.kinds c.loop-count.count-index w.class_of_len.result _ c.loop-count.invariant c.loop-count-test.true (is_len c.args.counts.now c.loop-count.count-index c.requires.total c.loop-count-test.true w.if-count-gt0.true)
      w.class_of_len.ensures.is w.class_of_len.ensures.known refl
      )
  | else-count-gt0 w ↦ rw w.kinds-is (same_kinds c.args.counts.now c.loop-count.kinds c.loop-count.count-index c.loop-count.invariant c.loop-count-test.true (omega (arith, w.if-count-gt0.false)))
]

pub returns-clause-kinds : goal.returns-clause-kinds
returns-clause-kinds c = (all_kinds c.args.counts.now c.loop-count.kinds c.loop-count.count-index c.loop-count.invariant c.loop-count-test.false).0

pub returns-clause-cells : goal.returns-clause-cells
returns-clause-cells c = (all_kinds c.args.counts.now c.loop-count.kinds c.loop-count.count-index c.loop-count.invariant c.loop-count-test.false).1
