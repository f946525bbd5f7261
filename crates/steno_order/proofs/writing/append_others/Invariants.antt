use Rattle.std.specs.Prelude.{string_bytes, string_capacity, string_len}
use Rattle.steno_order.proofs.Writes.{IsListing}
use Rattle.steno_order.proofs.writing.append_others.Given as goal

abbrev pub invariant-loop-stroke : goal.invariant-loop-stroke
invariant-loop-stroke l = IsListing l.strokes l.stroke-index (string_bytes l.initial.text) (string_bytes l.text) (string_len l.text) (string_capacity l.text)
