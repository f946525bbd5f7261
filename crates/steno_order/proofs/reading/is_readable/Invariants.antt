use Rattle.std.proofs.Common.{ℕ, List}
use Rattle.std.specs.Prelude.{option_map}
use Rattle.steno_order.proofs.StrokesRead.{IsRead, room}
use Rattle.steno_order.proofs.reading.is_readable.Given as goal

-- the parts so far spell some strokes
abbrev pub invariant-loop-rest : goal.invariant-loop-rest
invariant-loop-rest l = (strokes : List ℕ) × IsRead l.fn.text strokes (option_map (λ rest. rest.now) l.rest)

abbrev pub decreases-loop-rest : goal.decreases-loop-rest
decreases-loop-rest l = room (option_map (λ rest. rest.now) l.rest)
