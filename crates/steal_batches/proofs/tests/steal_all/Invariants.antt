use Rattle.std.proofs.Common.{◌≡◌}
use Rattle.steal_batches.proofs.tests.steal_all.Given as goal

abbrev pub invariant-loop-turn : goal.invariant-loop-turn
invariant-loop-turn g l = l.thief.victim ≡ l.initial.thief.victim
