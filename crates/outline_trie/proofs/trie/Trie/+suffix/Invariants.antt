use Rattle.outline_trie.proofs.trie.Trie.+suffix.Given as goal

abbrev pub decreases-suffix : goal.decreases-suffix
decreases-suffix l = l.len
