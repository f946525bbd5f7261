use Rattle.outline_trie.proofs.CountLemmas.{IsFilled}
use Rattle.outline_trie.proofs.rows.Rows.fill.Given as goal

abbrev pub invariant-loop-child : goal.invariant-loop-child
invariant-loop-child l = IsFilled l.parents l.strokes l.filled.items l.self l.child
