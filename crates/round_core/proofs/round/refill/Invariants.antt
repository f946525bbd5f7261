use Rattle.std.proofs.Common.{◌≡◌, ◌≤◌, true, replicate}
use Rattle.std.specs.Vec.{vec_capacity}
use Rattle.round_core.proofs.round.refill.Given as goal

abbrev pub invariant-loop-batch : goal.invariant-loop-batch
invariant-loop-batch l = record {
  items : l.untaken.items ≡ replicate l.batch true;
  room : l.count ≤ vec_capacity l.untaken;
  more : vec_capacity l.fn.untaken ≤ vec_capacity l.untaken;
}
