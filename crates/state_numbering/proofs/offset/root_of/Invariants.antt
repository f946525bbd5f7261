use Rattle.std.proofs.Common.{◌≤◌}
use Rattle.steno_rules.specs.StateNumbers.{triangle}
use Rattle.state_numbering.proofs.offset.root_of.Given as goal

abbrev pub invariant-loop-root : goal.invariant-loop-root
invariant-loop-root l = triangle l.root ≤ l.sum
