use Rattle.std.proofs.Common.{◌≡◌}
use Rattle.steal_batches.proofs.tests.take_all.Given as goal

abbrev pub invariant-loop-turn : goal.invariant-loop-turn
invariant-loop-turn l = (l.deque.id ≡ l.initial.deque.id) × (l.deque.thieves ≡ l.initial.deque.thieves)
