use Rattle.std.proofs.Common.{arith, sym, ap, ◌∙◌}
use Rattle.steno_order.specs.inside.Steps.{spelt_from}
use Rattle.steno_order.proofs.Steps.{nothing, stroke_of-steps}
use Rattle.steno_order.proofs.Loops.{stroke_is, spelt_more, spelt_refused, spelt_all}
use Rattle.steno_order.proofs.reading.read_stroke.Goals as goal

pub loop-byte-init : goal.loop-byte-init
loop-byte-init c = record { left = stroke_of-steps c.args.text.now ∙ ap (spelt_from nothing) (sym c.as_bytes-byte-items.ensures.value); next = omega arith }

pub returns-in_err-pressed : goal.returns-in_err-pressed
returns-in_err-pressed c = c.from_residual.ensures ∙ sym (c.loop-byte.invariant.left ∙ spelt_refused c.loop-byte.pressed c.as_bytes-byte-items.result.now c.loop-byte.byte-index c.loop-byte-test.true (sym c.in_err-pressed.ensures.after))

pub loop-byte-preserved : goal.loop-byte-preserved
loop-byte-preserved c = record { left = c.loop-byte.invariant.left ∙ spelt_more c.loop-byte.pressed c.in_ok-pressed.pressed c.as_bytes-byte-items.result.now c.loop-byte.byte-index c.loop-byte-test.true (sym c.in_ok-pressed.ensures.after); next = c.in_ok-pressed.ensures.next }

pub returns : goal.returns
returns c = stroke_is _ c.loop-byte.pressed.code c.stroke.ensures ∙ sym (c.loop-byte.invariant.left ∙ spelt_all c.loop-byte.pressed c.as_bytes-byte-items.result.now c.loop-byte.byte-index c.loop-byte-test.false)
