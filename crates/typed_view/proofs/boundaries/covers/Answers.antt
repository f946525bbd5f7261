use Rattle.std.proofs.Common.{ℕ, ◌≡◌, ◌+◌, ◌++◌, ◌∙◌, List, ap, ap₂, arith, drop, get_or, map, refl, take}
use Rattle.std.specs.Prelude.{sum}
use Rattle.std.proofs.lemmas.List.Sums.{sum_by_more}
use Rattle.stroke.specs.declared.pieces.Piece.{Piece}
use Rattle.typed_view.specs.Covers.{cover_at, ends_behind}
use Rattle.typed_view.specs.declared.boundaries.Cover.{Cover}
use Rattle.typed_view.proofs.PassedPieces.{next_end}
use Rattle.typed_view.proofs.boundaries.covers.Goals as goal

pub loop-part-preserved : goal.loop-part-preserved
loop-part-preserved c =
    let pieces : List Piece = c.args.pieces.now in
    let firsts : List ℕ = take c.saturating_sub.result c.args.parts.now in
    let i = c.loop-part.part-index in
    let part = get_or firsts i 0 in
    let before = sum (take i firsts) in
    let rest : List Piece = c.loop-part.rest.now in
    let others : List Piece = c.pieces_at.result.0.now in
    let at = c.loop-part.at in
    let left = c.pieces_at.result.1 in
    let more : sum (take (i + 1) firsts) ≡ before + part = sum_by_more (λ n. n) firsts i 0 (omega arith) in
    let cover : c.first_cover.result ≡ cover_at pieces (before + part) =
    c.first_cover.ensures ∙ ap (cover_at others) (omega arith) ∙ c.pieces_at.ensures.later 0 ∙ ap (cover_at rest) (omega arith) ∙ c.loop-part.invariant.later part in
    record {
      made = ap₂ (λ (l : List Cover) (n : ℕ). l ++ map (cover_at pieces) (ends_behind n (drop (i + 1) firsts))) c.in_ok-push.ensures.items more
          ∙ next_end pieces c.loop-part.covers.items firsts i before part c.first_cover.result (omega arith) refl cover
          ∙ c.loop-part.invariant.made;
      later = λ k. c.pieces_at.ensures.later k ∙ ap (cover_at rest) (omega arith) ∙ c.loop-part.invariant.later (part + k) ∙ ap (cover_at pieces) (omega (arith, more));
      less = omega (arith, more, c.loop-part.invariant.less, c.pieces_at.ensures.less);
    }
