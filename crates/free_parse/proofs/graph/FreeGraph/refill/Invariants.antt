use Rattle.std.proofs.Common.{◌≡◌, [], length}
use Rattle.free_parse.specs.Cursors.{OwnsTargets, targets_left}
use Rattle.free_parse.specs.inside.Waits.{waits_for}
use Rattle.free_parse.proofs.graph.FreeGraph.refill.Given as goal

abbrev pub invariant-loop-pair : goal.invariant-loop-pair
invariant-loop-pair l = record {
  owns : OwnsTargets l.self l.cursor;
  empty : waits_for l.cursor.waiting ≡ [];
  left : targets_left l.self l.cursor ≡ targets_left l.self l.initial.cursor;
}

abbrev pub decreases-loop-pair : goal.decreases-loop-pair
decreases-loop-pair l = length l.cursor.row.now
