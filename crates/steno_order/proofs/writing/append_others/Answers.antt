use Rattle.std.specs.Prelude.{string_bytes, string_capacity, string_len}
use Rattle.steno_order.proofs.Writes.{one_listed}
use Rattle.steno_order.proofs.writing.append_others.Goals as goal

pub loop-stroke-preserved : goal.loop-stroke-preserved
loop-stroke-preserved c =
    one_listed c.args.strokes.now c.loop-stroke.stroke-index c.stroke-item.result (string_bytes c.args.text.now) (string_bytes c.loop-stroke.text) (string_bytes c.push_if.new.text) (string_bytes c.append.new.text)
    (string_len c.loop-stroke.text) (string_len c.push_if.new.text) (string_len c.append.new.text) (string_capacity c.loop-stroke.text) (string_capacity c.push_if.new.text) (string_capacity c.append.new.text)
    c.loop-stroke.invariant c.loop-stroke-test.true c.stroke-item.is
    c.push_if.ensures.bytes c.push_if.ensures.len c.push_if.ensures.capacity c.append.ensures.bytes c.append.ensures.len c.append.ensures.capacity
