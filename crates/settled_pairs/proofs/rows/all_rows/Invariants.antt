use Rattle.std.proofs.Common.{◌≤◌, length}
use Rattle.steno_rules.specs.WordSets.{words_in}
use Rattle.settled_pairs.specs.inside.FoundRows.{AreRowsBefore}
use Rattle.settled_pairs.proofs.rows.all_rows.Given as goal

-- the entries so far have their rows
abbrev pub invariant-loop-entry : goal.invariant-loop-entry
invariant-loop-entry l = record {
  fits : l.entry ≤ length l.trie;
  rows : AreRowsBefore l.trie (words_in l.trie l.words) l.table l.entry 1 l.rows.items;
}
