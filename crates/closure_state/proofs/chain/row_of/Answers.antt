use Rattle.std.proofs.Common.{◌≤◌, length, inl, inr}
use Rattle.outline_trie.specs.Tries.{node_strokes}
use Rattle.closure_state.proofs.ChainLemmas.{rest_of_children, children_from_start, rest_more, end_of}
use Rattle.closure_state.proofs.chain.row_of.Goals as goal

pub returns-clause-rest : goal.returns-clause-rest
returns-clause-rest c =
    let entries = c.args.trie.now in
    let end = end_of c.args.windows.now entries c.args.node c.shorter_end.result c.requires.windows c.requires.node c.if-node-eq0.false c.shorter_end.ensures.node c.shorter_end.ensures.end in
    let deep : c.args.depth ≤ length (node_strokes entries c.args.node) = elim c.requires.deep [ inl root ↦ absurd (c.if-node-eq0.false root) | inr far ↦ far ] in
    rest_more entries c.args.depth (node_strokes entries c.args.node) (node_strokes entries c.shorter_end.result) (node_strokes entries c.with_children-next.result) 0 c.children.result.now
    (rest_of_children entries c.args.depth c.args.node c.shorter_end.result 0 c.children.result.now (children_from_start entries c.args.node c.children.result.now c.children.ensures) end deep)
    c.with_children-next.ensures.alike
