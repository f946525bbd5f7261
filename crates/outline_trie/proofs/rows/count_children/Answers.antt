use Rattle.std.proofs.Common.{◌+◌, get_or, ap, arith, refl}
use Rattle.std.proofs.lemmas.List.{get_or_read}
use Rattle.outline_trie.proofs.CountLemmas.{count_more}
use Rattle.outline_trie.proofs.rows.count_children.Goals as goal

pub loop-node-preserved : goal.loop-node-preserved
loop-node-preserved c =
    let inside = c.requires.below c.loop-node.node 0 c.loop-node-test.true in
    count_more c.args.parents.now c.loop-node.counts.items c.loop-node.node (get_or c.args.parents.now c.loop-node.node 0) (c.index_mut.result.now + 1)
    c.loop-node.invariant (omega arith) refl inside
    (ap (λ n. n + 1) (get_or_read c.loop-node.counts.items (get_or c.args.parents.now c.loop-node.node 0) _ (omega (arith, c.loop-node.invariant.long, inside)) c.index_mut.ensures.value 0))
