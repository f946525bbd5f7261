use Rattle.std.proofs.Common.{◌≡◌, ◌≢◌, ◌∙◌, [], ap, arith, length, List, ℕ}
use Rattle.steno_rules.specs.Segments.{first_piece}
use Rattle.stroke.specs.Pieces.{piece_of, pieces as pieces_of}
use Rattle.report.proofs.Chains.{pieces_joined}
use Rattle.report.proofs.indexes.Index.segment.Goals as goal

pub loop-rest-preserved : goal.loop-rest-preserved
loop-rest-preserved c =
    let entries = c.args.self.now.outlines in
    let rest = c.loop-rest.rest.now in
    let piece = c.first_piece-piece.result in
    let same : c.outlines.result.now ≡ entries = c.outlines.ensures.outlines ∙ ap (λ s. s.outlines) c.self.view_is in
    let is : piece ≡ piece_of entries (first_piece entries rest) = c.first_piece-piece.ensures ∙ ap (λ (es : List (List ℕ)). piece_of es (first_piece es rest)) same in
    let some : rest ≢ [] = λ e. absurd (grind (arith, c.is_empty.ensures, c.loop-rest-test.true, ap length e)) in
    rw (c.in_ok-push.ensures.items, c.split_at.ensures.back)
    (pieces_joined entries c.loop-rest.pieces.items rest piece (pieces_of entries c.args.strokes.now) some is c.loop-rest.invariant)
