use Rattle.std.proofs.Common.{arith, sym, ◌∙◌}
use Rattle.steno_order.proofs.Parts.{readings-begin}
use Rattle.steno_order.proofs.Loops.{refused, part_more, part_refused, part_none, part_some, last_none, last_some}
use Rattle.steno_order.proofs.reading.read_part.Goals as goal

pub loop-i-init : goal.loop-i-init
loop-i-init c = record { left = readings-begin c.args.text.now; next = omega arith }

pub loop-i-preserved : goal.loop-i-preserved
loop-i-preserved c = record { left = c.loop-i.invariant.left ∙ part_more c.loop-i.pressed c.in_ok-pressed.pressed c.args.text.now c.loop-i.i c.loop-i-test.true c.if-byte-eq47.false (sym c.in_ok-pressed.ensures.after); next = c.in_ok-pressed.ensures.next }

pub returns-in_err-stroke-clause-part : goal.returns-in_err-stroke-clause-part
returns-in_err-stroke-clause-part c =
    let r = part_none c.loop-i.pressed c.args.text.now c.loop-i.i c.loop-i-test.true c.if-byte-eq47.true c.in_err-stroke.ensures in
    refused _ _ _ c.from_residual.ensures (r.0, c.loop-i.invariant.left ∙ r.1)

pub returns-then-byte-eq47-clause-part : goal.returns-then-byte-eq47-clause-part
returns-then-byte-eq47-clause-part c = c.loop-i.invariant.left ∙ part_some c.loop-i.pressed c.args.text.now c.loop-i.i c.in_ok-stroke.field-0 c.loop-i-test.true c.if-byte-eq47.true c.in_ok-stroke.ensures

pub returns-in_err-pressed-clause-part : goal.returns-in_err-pressed-clause-part
returns-in_err-pressed-clause-part c =
    let r = part_refused c.loop-i.pressed c.args.text.now c.loop-i.i c.loop-i-test.true c.if-byte-eq47.false (sym c.in_err-pressed.ensures.after) in
    refused _ _ _ c.from_residual-in_err-pressed.ensures (r.0, c.loop-i.invariant.left ∙ r.1)

pub returns-in_err-stroke-2-clause-part : goal.returns-in_err-stroke-2-clause-part
returns-in_err-stroke-2-clause-part c =
    let r = last_none c.loop-i.pressed c.args.text.now c.loop-i.i c.loop-i-test.false c.in_err-stroke-2.ensures in
    refused _ _ _ c.from_residual-in_err-stroke-2.ensures (r.0, c.loop-i.invariant.left ∙ r.1)

pub returns-clause-part : goal.returns-clause-part
returns-clause-part c = c.loop-i.invariant.left ∙ last_some c.loop-i.pressed c.args.text.now c.loop-i.i c.in_ok-stroke-2.field-0 c.loop-i-test.false c.in_ok-stroke-2.ensures
