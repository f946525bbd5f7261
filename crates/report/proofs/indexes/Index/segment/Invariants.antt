use Rattle.std.proofs.Common.{◌≡◌, ◌++◌, length}
use Rattle.stroke.specs.Pieces.{pieces as pieces_of}
use Rattle.report.proofs.indexes.Index.segment.Given as goal

-- the pieces so far and those of the rest are those of the strokes
abbrev pub invariant-loop-rest : goal.invariant-loop-rest
invariant-loop-rest l = l.pieces.items ++ pieces_of l.self.outlines l.rest ≡ pieces_of l.self.outlines l.strokes

abbrev pub decreases-loop-rest : goal.decreases-loop-rest
decreases-loop-rest l = length l.rest
