use Rattle.std.proofs.Common.{◌≤◌}
use Rattle.conflict_example.specs.inside.FirstHits.{AreFirst}
use Rattle.conflict_example.proofs.hits.first_hits.Given as goal

-- the numbers so far are noted
abbrev pub invariant-loop-number : goal.invariant-loop-number
invariant-loop-number l = record {
  fits : l.number ≤ l.count;
  first : AreFirst l.numbering.entries l.numbering.words l.number l.best.items;
}
