use Rattle.std.proofs.Common.{◌≡◌}
use Rattle.round_core.proofs.tests.drive.Given as goal

abbrev pub invariant-loop-event : goal.invariant-loop-event
invariant-loop-event l = l.machine.lists ≡ l.fn.machine.lists

abbrev pub invariant-loop-round : goal.invariant-loop-round
invariant-loop-round l = l.machine.lists ≡ l.fn.machine.lists
