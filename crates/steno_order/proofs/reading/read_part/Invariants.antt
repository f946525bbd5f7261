use Rattle.std.proofs.Common.{◌≡◌, ◌≤◌, drop}
use Rattle.steno_order.specs.Reading.{readings}
use Rattle.steno_order.specs.inside.Steps.{readings_from}
use Rattle.steno_order.proofs.reading.read_part.Given as goal

abbrev pub invariant-loop-i : goal.invariant-loop-i
invariant-loop-i l = record { left : readings l.fn.text ≡ readings_from l.pressed (drop l.i l.text); next : l.pressed.next ≤ 23 }
