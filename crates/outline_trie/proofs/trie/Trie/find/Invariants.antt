use Rattle.outline_trie.proofs.LookLemmas.{IsFound}
use Rattle.outline_trie.proofs.trie.Trie.find.Given as goal

abbrev pub invariant-loop-stroke : goal.invariant-loop-stroke
invariant-loop-stroke l = IsFound l.self l.strokes l.stroke-index l.node
