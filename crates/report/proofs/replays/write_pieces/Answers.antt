use Rattle.std.proofs.Common.{◌++◌, ◌+◌, ◌∙◌, ap, ap₂, arith, drop, get_or, sym, List, ℕ, None}
use Rattle.std.specs.Prelude.{sum_by}
use Rattle.std.proofs.lemmas.List.{at_drop_all, drop_more}
use Rattle.std.proofs.lemmas.List.Sums.{sum_by-cons}
use Rattle.std.proofs.lemmas.Result.{err_from_is_err_and}
use Rattle.stroke.specs.declared.pieces.Piece.{Piece}
use Rattle.report.specs.Replays.{piece_line, pieces_text}
use Rattle.pages.proofs.PageSteps.{adding_as, adding_more, adds_early, adds_whole}
use Rattle.report.proofs.replays.write_pieces.Goals as goal

abbrev blank : Piece
blank = record { len = 0; entry = None }

pub loop-piece-preserved : goal.loop-piece-preserved
loop-piece-preserved g c =
    let stack = c.args.stack.now in
    let pieces = c.args.pieces.now in
    let i = c.loop-piece.piece-index in
    let piece : Piece = get_or pieces i blank in
    let rest = c.loop-piece.rest.now in
    let others : List ℕ = c.split_at.result.1.now in
    let whole = pieces_text stack c.args.strokes.now pieces in
    let added = piece_line stack c.split_at.result.0.now piece.entry in
    let left = pieces_text stack others (drop (i + 1) pieces) in
    let next = ap (pieces_text stack rest) (drop_more pieces i blank (omega arith))
    ∙ ap₂ (λ (a b : List ℕ). piece_line stack a piece.entry ++ pieces_text stack b (drop (i + 1) pieces)) (sym c.split_at.ensures.front) (sym c.split_at.ensures.back) in
    let sum = ap (sum_by (λ (p : Piece). p.len)) (drop_more pieces i blank (omega arith)) ∙ sum_by-cons (λ (p : Piece). p.len) piece (drop (i + 1) pieces) in
    record {
      adding = adding_more _ _ _ whole added left tt
          (adding_as _ _ whole (pieces_text stack rest (drop i pieces)) (added ++ left) next c.loop-piece.invariant.adding) c.in_ok-write_piece.ensures;
      left = omega (arith, sum, c.loop-piece.invariant.left, c.split_at.ensures.back_len);
    }

pub returns-in_err-write_piece : goal.returns-in_err-write_piece
returns-in_err-write_piece g c =
    let stack = c.args.stack.now in
    let pieces = c.args.pieces.now in
    let i = c.loop-piece.piece-index in
    let piece : Piece = get_or pieces i blank in
    let rest = c.loop-piece.rest.now in
    let others : List ℕ = c.split_at.result.1.now in
    let whole = pieces_text stack c.args.strokes.now pieces in
    let added = piece_line stack c.split_at.result.0.now piece.entry in
    let left = pieces_text stack others (drop (i + 1) pieces) in
    let next = ap (pieces_text stack rest) (drop_more pieces i blank (omega arith))
    ∙ ap₂ (λ (a b : List ℕ). piece_line stack a piece.entry ++ pieces_text stack b (drop (i + 1) pieces)) (sym c.split_at.ensures.front) (sym c.split_at.ensures.back) in
    let p = err_from_is_err_and c.from_residual.result c.from_residual.ensures.1 in
    adds_early _ _ _ whole added left _ _ p.0
    (adding_as _ _ whole (pieces_text stack rest (drop i pieces)) (added ++ left) next c.loop-piece.invariant.adding) c.in_err-write_piece.ensures p.1 p.2

pub returns : goal.returns
returns g c = adds_whole _ _ _ _ tt (at_drop_all (pieces_text c.args.stack.now c.loop-piece.rest.now) c.args.pieces.now c.loop-piece.piece-index (omega arith)) c.loop-piece.invariant.adding
