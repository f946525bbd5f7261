use Rattle.outline_trie.proofs.CountLemmas.{IsCounted}
use Rattle.outline_trie.proofs.rows.count_children.Given as goal

abbrev pub invariant-loop-node : goal.invariant-loop-node
invariant-loop-node l = IsCounted l.parents l.counts.items l.node
