use Rattle.std.proofs.Common.{length, ap, arith}
use Rattle.translator.proofs.CollectLemmas.{pieces_few}
use Rattle.translator.proofs.whole.collect.Goals as goal

pub push_reserved-requires : goal.push_reserved-requires
push_reserved-requires g c =
    omega (
      arith,
      c.truncate.ensures.len,
      c.truncate.ensures.capacity,
      ap length c.loop-stroke.invariant.found,
      pieces_few c.args.trie.now c.args.strokes.now c.loop-stroke.stroke-index (omega arith),
      c.loop-stroke.invariant.room,
    )
