use Rattle.std.proofs.Common.{◌≡◌, ◌+◌}
use Rattle.outline_trie.specs.inside.Rooms.{weight, IsReserved}
use Rattle.outline_trie.proofs.room.reserve_all.Given as goal

abbrev pub invariant-loop-class : goal.invariant-loop-class
invariant-loop-class l = record {
  blocks : IsReserved l.kinds l.pool.spare l.class;
  cells : l.pool.uncut + weight l.kinds l.class ≡ weight l.kinds 23;
}
