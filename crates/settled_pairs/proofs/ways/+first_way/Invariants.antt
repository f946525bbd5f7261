use Rattle.std.proofs.Common.{take}
use Rattle.steno_rules.specs.WordSets.{words_in}
use Rattle.outline_trie.specs.Tries.{node_strokes}
use Rattle.settled_pairs.proofs.WayLemmas.{NoWayAmong}
use Rattle.settled_pairs.proofs.ways.+first_way.Given as goal

abbrev pub decreases-first_way : goal.decreases-first_way
decreases-first_way l = l.left

-- no child so far has a way
abbrev pub invariant-loop-pair : goal.invariant-loop-pair
invariant-loop-pair l =
    NoWayAmong l.trie (words_in l.trie l.words) (node_strokes l.trie l.node) (node_strokes l.trie l.window) l.passed l.left (take l.pair-index l.pair-items)
