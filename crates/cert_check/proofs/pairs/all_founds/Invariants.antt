use Rattle.std.proofs.Common.{◌≡◌, ◌≤◌, length}
use Rattle.cert_check.specs.inside.LeastDistances.{founds_in}
use Rattle.cert_check.proofs.FoundLemmas.{pairs_before}
use Rattle.cert_check.proofs.pairs.all_founds.Given as goal

-- the entries so far have their pairs
abbrev pub invariant-loop-entry : goal.invariant-loop-entry
invariant-loop-entry l = record {
  fits : l.entry ≤ length l.stack.outlines;
  founds : l.founds.items ≡ founds_in l.stack.outlines l.slots (pairs_before l.stack.outlines l.entry);
}
