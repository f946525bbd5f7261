use Rattle.std.proofs.Common.{◌≡◌}
use Rattle.steal_batches.proofs.thief.BatchThief.steal.Given as goal

abbrev pub invariant-loop : goal.invariant-loop
invariant-loop g l = l.self ≡ l.initial.self
