use Rattle.std.proofs.Common.{ℕ, ◌≡◌, Some, length}
use Rattle.outline_trie.specs.Tries.{IsNode, node_strokes, child_of}
use Rattle.match_window.specs.Ends.{next_window}
use Rattle.closure_state.proofs.step.window_by.Given as goal

abbrev pub invariant-loop-end : goal.invariant-loop-end
invariant-loop-end l = record {
  inside : IsNode l.trie l.end;
  same : (code : ℕ) → child_of l.trie l.opened code ≡ Some l.child → next_window l.trie (node_strokes l.trie l.node) code ≡ next_window l.trie (node_strokes l.trie l.end) code;
}

abbrev pub decreases-loop-end : goal.decreases-loop-end
decreases-loop-end l = length (node_strokes l.trie l.end)
