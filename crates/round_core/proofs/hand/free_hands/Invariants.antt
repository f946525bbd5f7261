use Rattle.std.proofs.Common.{◌≡◌, None, replicate}
use Rattle.round_core.proofs.hand.free_hands.Given as goal

abbrev pub invariant-loop-worker : goal.invariant-loop-worker
invariant-loop-worker g l = l.hands.items ≡ replicate l.worker None
