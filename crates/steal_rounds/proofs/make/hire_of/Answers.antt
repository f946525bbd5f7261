use Rattle.std.proofs.Common.{arith, sym, subst, ◌∙◌, refl}
use Rattle.steal_rounds.specs.inside.Records.{AreHeld}
use Rattle.steal_rounds.proofs.Makes.{skip_hiring, next_victim}
use Rattle.steal_rounds.proofs.make.hire_of.Goals as goal

pub loop-worker-init : goal.loop-worker-init
loop-worker-init c =
    let e = c.len-worker.ensures in
    record {
      count = refl;
      below = omega (arith, e, c.args.crew.now.ok.0);
      blank = λ t p h. h;
      offered = λ b h. h;
      held = subst (λ w. AreHeld c.args.victim w c.args.crew.now.items) (omega (arith, e, c.args.crew.now.ok.0)) (next_victim c.args.crew.now.items c.args.victim c.requires.held);
    }

pub hire-requires : goal.hire-requires
hire-requires c =
    let i = c.loop-worker.invariant in let n = i.count in let b = i.below in let v = c.requires.below in let f = c.requires.few in let t = c.loop-worker-test.true in
    record {
      few = omega (arith, n, f);
      below = (omega (arith, n, v), omega (arith, b, t), c.if-worker-victim.false);
      held = subst (λ w. AreHeld c.args.victim w c.loop-worker.crew.items) (omega (arith, t)) i.held;
    }

pub loop-worker-preserved-then-worker-victim : goal.loop-worker-preserved-then-worker-victim
loop-worker-preserved-then-worker-victim c =
    let i = c.loop-worker.invariant in let e = c.if-worker-victim.true in let t = c.loop-worker-test.true in let xs = c.loop-worker.crew.items in
    record {
      count = i.count;
      below = let b = i.below in omega (arith, b);
      blank = i.blank;
      offered = i.offered;
      held = subst (λ w. AreHeld c.args.victim w xs) (sym e) (skip_hiring xs c.args.victim (subst (λ w. AreHeld c.args.victim w xs) (omega (arith, e, t)) i.held));
    }

pub loop-worker-preserved : goal.loop-worker-preserved
loop-worker-preserved c =
    let i = c.loop-worker.invariant in let h = c.in_ok-hire.ensures in
    record {
      count = h.count ∙ i.count;
      below = let b = i.below in let n = h.count in omega (arith, b, n);
      blank = λ t p k. h.blank t p (i.blank t p k);
      offered = λ b k. h.offered b (i.offered b k);
      held = h.held;
    }

pub returns-clause-held : goal.returns-clause-held
returns-clause-held c = subst (λ w. AreHeld c.args.victim w c.loop-worker.crew.items) (omega (arith, c.loop-worker-test.false)) c.loop-worker.invariant.held
