use Rattle.std.proofs.Common.{◌≡◌, drop}
use Rattle.round_core.specs.Machines.{all_free}
use Rattle.round_core.proofs.hand.are_free_hands.Given as goal

abbrev pub invariant-loop-hand : goal.invariant-loop-hand
invariant-loop-hand g l = all_free (drop l.hand-index l.hands) ≡ all_free l.hands
