use Rattle.std.proofs.Common.{◌≡◌, length}
use Rattle.steno_rules.specs.WordSets.{words_in}
use Rattle.settled_pairs.specs.inside.Near.{AreNear}
use Rattle.settled_pairs.proofs.near.near_of.Given as goal

-- nothing wrong is said so far
abbrev pub invariant-loop-done : goal.invariant-loop-done
invariant-loop-done l = record {
  long : length l.near.items ≡ l.count;
  near : AreNear l.trie (words_in l.trie l.words) l.near.items;
}
