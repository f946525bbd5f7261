use Rattle.std.proofs.Common.{All, take}
use Rattle.steno_rules.specs.Outlines.{IsStroke}
use Rattle.stroke.proofs.outlines.are_strokes.Given as goal

-- the codes so far are those of strokes
abbrev pub invariant-loop-stroke : goal.invariant-loop-stroke
invariant-loop-stroke l = All IsStroke (take l.stroke-index l.strokes)
