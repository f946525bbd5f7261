use Rattle.std.proofs.Common.{arith, subst, ◌∙◌, refl}
use Rattle.steal_rounds.specs.inside.Records.{AreHeld}
use Rattle.steal_rounds.proofs.Makes.{first_held}
use Rattle.steal_rounds.proofs.make.hire_all.Goals as goal

pub loop-victim-init : goal.loop-victim-init
loop-victim-init c =
    let e = c.len-victim.ensures in
    record {
      count = refl;
      below = omega (arith, e, c.args.crew.now.ok.0);
      blank = λ t p h. h;
      offered = λ b h. h;
      held = subst (λ v. AreHeld v 0 c.args.crew.now.items) (omega (arith, e, c.args.crew.now.ok.0)) (first_held c.args.crew.now.items c.requires.idle);
    }

pub hire_of-requires-clause-held : goal.hire_of-requires-clause-held
hire_of-requires-clause-held c = let t = c.loop-victim-test.true in subst (λ v. AreHeld v 0 c.loop-victim.crew.items) (omega (arith, t)) c.loop-victim.invariant.held

pub loop-victim-preserved : goal.loop-victim-preserved
loop-victim-preserved c =
    let i = c.loop-victim.invariant in let h = c.in_ok-hire_of.ensures in
    record {
      count = h.count ∙ i.count;
      below = let b = i.below in let n = h.count in omega (arith, b, n);
      blank = λ t p k. h.blank t p (i.blank t p k);
      offered = λ b k. h.offered b (i.offered b k);
      held = h.held;
    }

pub returns-clause-held : goal.returns-clause-held
returns-clause-held c = subst (λ v. AreHeld v 0 c.loop-victim.crew.items) (omega (arith, c.loop-victim-test.false)) c.loop-victim.invariant.held
