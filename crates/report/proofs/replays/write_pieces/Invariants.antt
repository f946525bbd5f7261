use Rattle.std.proofs.Common.{◌≡◌, drop, length}
use Rattle.std.specs.Prelude.{sum_by}
use Rattle.report.specs.Replays.{pieces_text}
use Rattle.pages.specs.Pages.{progress}
use Rattle.pages.proofs.PageSteps.{IsAdding}
use Rattle.report.proofs.replays.write_pieces.Given as goal

-- the pieces that are left are those of the strokes that are left
abbrev pub invariant-loop-piece : goal.invariant-loop-piece
invariant-loop-piece g l = record {
  adding : IsAdding (progress (g.S.Sink.text l.initial.sink) (g.S.Sink.faults l.initial.sink) l.initial.page.items)
      (progress (g.S.Sink.text l.sink) (g.S.Sink.faults l.sink) l.page.items)
      (pieces_text l.stack l.strokes l.pieces)
      (pieces_text l.stack l.rest (drop l.piece-index l.pieces));
  left : sum_by (λ p. p.len) (drop l.piece-index l.pieces) ≡ length l.rest;
}
