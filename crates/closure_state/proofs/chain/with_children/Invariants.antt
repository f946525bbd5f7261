use Rattle.std.proofs.Common.{ℕ, length}
use Rattle.outline_trie.specs.Tries.{IsNode, node_strokes}
use Rattle.closure_state.specs.inside.Chains.{AreAlike}
use Rattle.closure_state.proofs.chain.with_children.Given as goal

abbrev pub invariant-loop-end : goal.invariant-loop-end
invariant-loop-end l = record {
  inside : IsNode l.trie l.end;
  alike : (c : ℕ) → AreAlike l.trie l.depth (node_strokes l.trie l.node) (node_strokes l.trie l.end) c;
}

abbrev pub decreases-loop-end : goal.decreases-loop-end
decreases-loop-end l = length (node_strokes l.trie l.end)
