use Rattle.std.proofs.Common.{◌≡◌, ◌≤◌, drop}
use Rattle.steno_order.specs.Reading.{stroke_of}
use Rattle.steno_order.specs.inside.Steps.{spelt_from}
use Rattle.steno_order.proofs.reading.read_stroke.Given as goal

abbrev pub invariant-loop-byte : goal.invariant-loop-byte
invariant-loop-byte l = record { left : stroke_of l.fn.text ≡ spelt_from l.pressed (drop l.byte-index l.byte-items); next : l.pressed.next ≤ 23 }
