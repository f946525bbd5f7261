use Rattle.std.specs.Prelude.{option_map}
use Rattle.steno_order.proofs.StrokesRead.{IsHeld, room}
use Rattle.steno_order.proofs.reading.read_outline.Given as goal

abbrev pub invariant-loop-rest : goal.invariant-loop-rest
invariant-loop-rest l = IsHeld l.fn.text l.strokes l.parts (option_map (λ rest. rest.now) l.rest)

abbrev pub decreases-loop-rest : goal.decreases-loop-rest
decreases-loop-rest l = room (option_map (λ rest. rest.now) l.rest)
