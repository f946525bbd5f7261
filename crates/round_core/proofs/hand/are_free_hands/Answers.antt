use Rattle.std.proofs.Common.{◌≡◌, length, sym, ap, arith, refl, ◌∙◌, drop, suc, ◌+◌}
use Rattle.std.proofs.lemmas.Option.{slice_get_read}
use Rattle.round_core.proofs.Enabled.{held_some, free_step, free_end}
use Rattle.round_core.specs.Machines.{all_free}
use Rattle.round_core.proofs.hand.are_free_hands.Goals as goal

pub returns-then-is_some : goal.returns-then-is_some
returns-then-is_some g c = sym (held_some c.args.hands.now c.loop-hand.hand-index c.hand-item.result (slice_get_read c.args.hands.now (length c.args.hands.now) c.loop-hand.hand-index c.hand-item.result refl c.loop-hand-test.true c.hand-item.is) (sym c.if-is_some.ensures))

pub loop-hand-preserved : goal.loop-hand-preserved
loop-hand-preserved g c = ap (λ n. all_free (drop n c.args.hands.now)) (let e : c.loop-hand.hand-index + 1 ≡ suc c.loop-hand.hand-index = omega arith in e)
    ∙ sym (free_step c.args.hands.now c.loop-hand.hand-index c.hand-item.result (slice_get_read c.args.hands.now (length c.args.hands.now) c.loop-hand.hand-index c.hand-item.result refl c.loop-hand-test.true c.hand-item.is) (sym c.if-is_some.ensures)) ∙ c.loop-hand.invariant

pub returns : goal.returns
returns g c = sym (free_end c.args.hands.now c.loop-hand.hand-index c.loop-hand-test.false) ∙ c.loop-hand.invariant
