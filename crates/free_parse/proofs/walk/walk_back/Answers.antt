use Rattle.std.proofs.Common.{◌+◌, ◌-◌, slice_index, subst, sym}
use Rattle.closure_laws.specs.Examples.{source_of}
use Rattle.free_parse.proofs.WalkLemmas.{IsBack, back_below, back_more}
use Rattle.free_parse.proofs.walk.walk_back.Goals as goal

pub bounds-table-at : goal.bounds-table-at
bounds-table-at c = back_below c.args.graph.now c.args.table.now c.loop.at (c.args.distance - c.loop.counter) c.loop.invariant.walk

pub loop-preserved : goal.loop-preserved
loop-preserved c =
    subst (IsBack c.args.graph.now c.args.table.now c.args.number c.args.distance (c.loop.counter + 1) (source_of (slice_index c.args.table.now c.loop.at))) (sym c.in_ok-push.ensures.items)
    (back_more c.args.graph.now c.args.table.now c.args.number c.args.distance c.loop.counter c.loop.at c.loop.path.items c.loop-test.true c.loop.invariant)
