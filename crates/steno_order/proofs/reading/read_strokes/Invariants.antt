use Rattle.std.specs.Prelude.{option_map}
use Rattle.steno_order.proofs.StrokesRead.{IsRead, room}
use Rattle.steno_order.proofs.reading.read_strokes.Given as goal

abbrev pub invariant-loop-rest : goal.invariant-loop-rest
invariant-loop-rest l = IsRead l.fn.text l.strokes.items (option_map (λ rest. rest.now) l.rest)

abbrev pub decreases-loop-rest : goal.decreases-loop-rest
decreases-loop-rest l = room (option_map (λ rest. rest.now) l.rest)
