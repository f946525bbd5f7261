use Rattle.std.proofs.Common.{◌<◌, ℕ}
use Rattle.steno_rules.specs.WordSets.{words_in}
use Rattle.outline_trie.specs.Tries.{node_strokes}
use Rattle.settled_pairs.specs.inside.Ways.{HasNoWay}
use Rattle.settled_pairs.proofs.ending.nearest_way.Given as goal

-- no way is as short as those so far
abbrev pub invariant-loop-strokes : goal.invariant-loop-strokes
invariant-loop-strokes l =
    (left : ℕ) → left < l.strokes → HasNoWay l.trie (words_in l.trie l.words) (node_strokes l.trie l.node) (node_strokes l.trie l.window) 0 left
