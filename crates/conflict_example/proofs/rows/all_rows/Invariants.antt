use Rattle.std.proofs.Common.{◌≤◌, length}
use Rattle.conflict_example.specs.inside.FoundRows.{AreRowsBetween}
use Rattle.conflict_example.proofs.rows.all_rows.Given as goal

-- the entries so far have their rows
abbrev pub invariant-loop-entry : goal.invariant-loop-entry
invariant-loop-entry l = record {
  fits : l.entry ≤ length l.numbering.entries;
  rows : AreRowsBetween l.numbering.entries l.numbering.words l.words 0 l.entry 1 l.rows.items;
}
