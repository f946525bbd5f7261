use Rattle.std.proofs.Common.{◌≤◌}
use Rattle.steno_rules.specs.WordSets.{words_in}
use Rattle.settled_pairs.specs.inside.Sums.{AreFirstSums}
use Rattle.settled_pairs.proofs.sums.first_sums.Given as goal

-- the numbers so far are noted
abbrev pub invariant-loop-number : goal.invariant-loop-number
invariant-loop-number l = record {
  fits : l.number ≤ l.count;
  first : AreFirstSums l.trie (words_in l.trie l.words) l.number l.least.items;
}
