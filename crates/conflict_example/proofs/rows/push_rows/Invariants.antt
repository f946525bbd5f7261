use Rattle.std.proofs.Common.{ℕ, ◌≤◌}
use Rattle.conflict_example.specs.inside.FoundRows.{AreRowsBetween}
use Rattle.conflict_example.proofs.rows.push_rows.Given as goal

-- the places so far have their rows
abbrev pub invariant-loop-place : goal.invariant-loop-place
invariant-loop-place l = record {
  some : 1 ≤ l.place;
  fits : l.place ≤ l.len;
  rows : (from : ℕ) → from ≤ l.entry → AreRowsBetween l.numbering.entries l.numbering.words l.words from l.entry 1 l.fn.rows.items
      → AreRowsBetween l.numbering.entries l.numbering.words l.words from l.entry l.place l.rows.items;
}
