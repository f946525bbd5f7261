use Rattle.std.proofs.Common.{◌++◌, ◌∷◌, [], get_or, map, take, ap, sym, ◌∙◌, arith}
use Rattle.std.proofs.lemmas.List.{map_push, take_more}
use Rattle.std.proofs.lemmas.List.Sums.{get_or-le-sum_by}
use Rattle.edge_pool.specs.Pools.{zeros}
use Rattle.outline_trie.proofs.RoomLemmas.{spare_there, room_more}
use Rattle.outline_trie.proofs.rows.zero_rows.Goals as goal

pub push_row-requires-clause-len : goal.push_row-requires-clause-len
push_row-requires-clause-len c = omega (arith, get_or-le-sum_by (λ x. x) c.args.counts.now c.loop-count.count-index 0 c.loop-count-test.true, c.requires.total)

pub push_row-requires-clause-spare : goal.push_row-requires-clause-spare
push_row-requires-clause-spare c = λ some. spare_there c.args.counts.now c.loop-count.count-index c.loop-count.room.pool _ _ c.loop-count.invariant.room c.loop-count-test.true some (push_row-requires-clause-len c)

pub loop-count-preserved : goal.loop-count-preserved
loop-count-preserved c = record {
  rows = c.push_row.ensures.rows;
  are =
      c.push_row.ensures.more ∙ ap (λ rows. rows ++ zeros (get_or c.args.counts.now c.loop-count.count-index 0) ∷ []) c.loop-count.invariant.are
      ∙ sym (ap (map zeros) (take_more c.args.counts.now c.loop-count.count-index 0 c.loop-count-test.true) ∙ map_push zeros (take c.loop-count.count-index c.args.counts.now) (get_or c.args.counts.now c.loop-count.count-index 0));
  room = room_more c.args.counts.now c.loop-count.count-index c.loop-count.room.pool _ _ c.loop-count.invariant.room c.loop-count-test.true c.push_row.new.self.pool _ _
      (omega (arith, get_or-le-sum_by (λ x. x) c.args.counts.now c.loop-count.count-index 0 c.loop-count-test.true, c.requires.total))
      c.push_row.ensures.spare (omega (arith, c.push_row.ensures.blocks, c.push_row.ensures.block_places)) (omega (arith, c.push_row.ensures.indexes, c.push_row.ensures.index_places));
}
