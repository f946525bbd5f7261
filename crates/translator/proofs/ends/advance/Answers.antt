use Rattle.std.proofs.Common.{sym, ◌∙◌, arith}
use Rattle.outline_trie.proofs.LookLemmas.{root_inside}
use Rattle.translator.proofs.AdvanceLemmas.{advance_entry, growing_more}
use Rattle.translator.proofs.ends.advance.Goals as goal

pub returns-then-is_entry-clause-advance : goal.returns-then-is_entry-clause-advance
returns-then-is_entry-clause-advance g c =
    advance_entry c.args.trie.now c.args.stroke c.args.ends.now.items c.loop-place.ends.items c.loop-place.place c.loop-place.invariant.growing c.index.result.now c.grow-end.result c.truncate.new.self.items
    (omega arith) c.index.ensures c.grow-end.ensures.grown (sym c.is_entry.ensures ∙ c.if-is_entry.true) c.truncate.ensures.items

pub loop-place-preserved : goal.loop-place-preserved
loop-place-preserved g c = record {
  growing = growing_more c.args.trie.now c.args.stroke c.args.ends.now.items c.loop-place.ends.items c.loop-place.place c.loop-place.invariant.growing c.index.result.now c.grow-end.result
      (omega arith) c.index.ensures c.grow-end.ensures.grown (sym c.is_entry.ensures ∙ c.if-is_entry.false);
  capacity = c.loop-place.invariant.capacity;
  cost = omega (arith, c.loop-place.invariant.cost, c.grow-end.ensures.cost);
}

pub child_step-requires : goal.child_step-requires
child_step-requires g c = root_inside c.args.trie.now
