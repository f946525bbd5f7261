use Rattle.std.proofs.Common.{◌≡◌, ◌≤◌, ◌-◌, ◌++◌}
use Rattle.cert_check.specs.inside.LeastDistances.{founds_in}
use Rattle.cert_check.proofs.FoundLemmas.{first_pairs}
use Rattle.cert_check.proofs.pairs.push_founds.Given as goal

-- the places so far have their pairs
abbrev pub invariant-loop-place : goal.invariant-loop-place
invariant-loop-place l = record {
  some : 1 ≤ l.place;
  fits : l.place ≤ l.len;
  founds : l.founds.items ≡ l.fn.founds.items ++ founds_in l.stack.outlines l.slots (first_pairs l.entry (l.place - 1));
}
