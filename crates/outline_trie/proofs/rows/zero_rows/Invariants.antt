use Rattle.std.proofs.Common.{◌≡◌, ◌-◌, map, take, drop, length, vec_capacity}
use Rattle.edge_pool.specs.Pools.{zeros}
use Rattle.outline_trie.specs.inside.Rooms.{HasRoom}
use Rattle.outline_trie.specs.inside.RowsOf.{AreRows, rows_at}
use Rattle.outline_trie.proofs.rows.zero_rows.Given as goal

abbrev pub invariant-loop-count : goal.invariant-loop-count
invariant-loop-count l = record {
  rows : AreRows l.room.pool l.room.blocks.items l.room.indexes.items;
  are : rows_at l.room.pool l.room.blocks.items l.room.indexes.items ≡ map zeros (take l.count-index l.counts);
  room : HasRoom (drop l.count-index l.counts) l.room.pool (vec_capacity l.room.blocks - length l.room.blocks.items) (vec_capacity l.room.indexes - length l.room.indexes.items);
}
