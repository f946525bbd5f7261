use Rattle.std.proofs.Common.{◌++◌, ◌∷◌, [], ◌+◌, length, replicate, ap, ap₂, sym, ◌∙◌, arith}
use Rattle.free_parse.proofs.PartLemmas.{length-owners, owners_more, part_within, starts_more}
use Rattle.free_parse.proofs.parts.parts_of.Goals as goal

pub overflow_cast-len : goal.overflow_cast-len
overflow_cast-len c =
    let node = c.loop-node.node in
    let inside = c.loop-node-test.true in
    let long = ap length c.loop-node.invariant.owners_are ∙ length-owners c.args.trie.now node (omega (arith, inside, c.node_count-node-end.ensures.count)) in
    let within = part_within c.args.trie.now node (omega (arith, inside, c.node_count-node-end.ensures.count)) in
    omega (arith, long, within, c.requires, c.len.ensures)

pub loop-node-preserved : goal.loop-node-preserved
loop-node-preserved c =
    let entries = c.args.trie.now in
    let node = c.loop-node.node in
    let h = c.loop-node.invariant in
    let inside = c.loop-node-test.true in
    let long = ap length h.owners_are ∙ length-owners entries node (omega (arith, inside, c.node_count-node-end.ensures.count)) in
    record {
      starts_are = c.in_ok-push.ensures.items ∙ ap₂ (λ xs k. xs ++ k ∷ []) h.starts_are (c.len.ensures ∙ c.loop-node.nodes.ok.0 ∙ long) ∙ sym (starts_more entries node);
      owners_are = c.in_ok-push_part.ensures ∙ ap₂ (λ xs k. xs ++ replicate (k + 1) node) h.owners_are c.depth.ensures.depth ∙ sym (owners_more entries node);
    }
