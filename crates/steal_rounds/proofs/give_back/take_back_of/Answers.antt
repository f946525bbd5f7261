use Rattle.std.proofs.Common.{ℕ, ◌+◌, arith, sym, subst}
use Rattle.steal_rounds.specs.inside.Records.{AreHeld}
use Rattle.steal_rounds.proofs.Returns.{skip_held, stage_held, returned_on}
use Rattle.steal_rounds.proofs.give_back.take_back_of.Goals as goal

pub loop-worker-preserved : goal.loop-worker-preserved
loop-worker-preserved c = record {
  held = c.take_back.ensures.held;
  same = returned_on _ _ _ c.loop-worker.invariant.same c.take_back.ensures.same;
}

pub loop-worker-preserved-then-worker-victim : goal.loop-worker-preserved-then-worker-victim
loop-worker-preserved-then-worker-victim c =
    let e = c.if-worker-victim.true in let xs = c.loop-worker.crew.items in
    record {
      held = subst (λ (w : ℕ). AreHeld c.args.victim (w + 1) xs) (sym e) (skip_held xs c.args.victim (subst (λ (w : ℕ). AreHeld c.args.victim w xs) e c.loop-worker.invariant.held));
      same = c.loop-worker.invariant.same;
    }

pub returns-clause-held : goal.returns-clause-held
returns-clause-held c = stage_held c.loop-worker.crew.items c.args.victim c.loop-worker.worker (let n = c.loop-worker.invariant.same.count in omega (arith, c.loop-worker-test.false, c.loop-worker.auto.worker-end, c.len-worker-end.ensures, n, c.args.crew.now.ok.0)) c.loop-worker.invariant.held
