use Rattle.std.proofs.Common.{rules, ◌<◌, length, arith}
use Rattle.steal_rounds.proofs.Lists.{at_get}
use Rattle.steal_rounds.proofs.Turns.{turning_first, turning_old, turning_next, turning_all}
use Rattle.steal_rounds.proofs.give_back.work_rest.Goals as goal

pub loop-worker-init : goal.loop-worker-init
loop-worker-init g c = turning_first c.args.table.now c.args.distance c.args.frontier.now c.args.crew.now.items

pub work-requires-clause-pass : goal.work-requires-clause-pass
work-requires-clause-pass g c =
    let xs = c.loop-worker.crew.items in
    let below : c.loop-worker.worker < length xs = search rules in
    let at = at_get xs c.loop-worker.worker c.index_mut.result.now below c.index_mut.ensures.value in
    c.requires.passes c.loop-worker.worker c.index_mut.result.now (turning_old _ _ _ _ xs c.loop-worker.worker _ c.loop-worker.invariant at)

pub loop-worker-preserved : goal.loop-worker-preserved
loop-worker-preserved g c =
    let xs = c.loop-worker.crew.items in
    let below : c.loop-worker.worker < length xs = search rules in
    let at = at_get xs c.loop-worker.worker c.index_mut.result.now below c.index_mut.ensures.value in
    turning_next _ _ _ _ xs c.loop-worker.worker c.index_mut.result.now c.work.new.member c.loop-worker.invariant at c.work.ensures

pub returns : goal.returns
returns g c = turning_all c.args.table.now c.args.distance c.args.frontier.now c.args.crew.now.items c.loop-worker.crew.items c.loop-worker.worker (let n = c.loop-worker.invariant.count in omega (arith, c.loop-worker-test.false, c.loop-worker.auto.worker-end, c.len-worker-end.ensures, n, c.args.crew.now.ok.0)) c.loop-worker.invariant
