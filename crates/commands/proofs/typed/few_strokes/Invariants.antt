use Rattle.std.proofs.Common.{◌≡◌, ◌<◌, ◌^◌, map, string_bytes, take}
use Rattle.commands.specs.Commands.{strokes_written}
use Rattle.commands.proofs.typed.few_strokes.Given as goal

-- the strokes of the outlines so far, which are few
abbrev pub invariant-loop-outline : goal.invariant-loop-outline
invariant-loop-outline l = (l.strokes ≡ strokes_written (take l.outline-index (map string_bytes l.outlines))) × (l.strokes < 2 ^ 32)
