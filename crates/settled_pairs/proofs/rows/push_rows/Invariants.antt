use Rattle.std.proofs.Common.{◌≤◌}
use Rattle.steno_rules.specs.WordSets.{words_in}
use Rattle.settled_pairs.specs.inside.FoundRows.{AreRowsBefore}
use Rattle.settled_pairs.proofs.rows.push_rows.Given as goal

-- the places so far have their rows
abbrev pub invariant-loop-place : goal.invariant-loop-place
invariant-loop-place l = record {
  some : 1 ≤ l.place;
  fits : l.place ≤ l.len;
  rows : AreRowsBefore l.trie (words_in l.trie l.words) l.table l.entry l.place l.rows.items;
}
