use Rattle.std.proofs.Common.{◌∙◌, [], ap₂, sym, arith, append-nil, List, ℕ, Option}
use Rattle.steno_rules.specs.Outlines.{entry_number}
use Rattle.steno_rules.specs.Segments.{segments}
use Rattle.steno_rules.proofs.SegmentLemmas.{concat-segments}
use Rattle.report.specs.Reports.{shown}
use Rattle.report.proofs.Bars.{page_next}
use Rattle.report.proofs.NextPieces.{next_piece}
use Rattle.report.proofs.rows.push_pieces.Goals as goal

pub loop-place-init : goal.loop-place-init
loop-place-init c = record { page = sym (append-nil c.args.page.now.items); rest = sym (concat-segments c.args.index.now.outlines c.args.strokes.now) }

pub split_at-requires : goal.split_at-requires
split_at-requires c =
    (next_piece c.args.index.now.outlines c.args.strokes.now c.args.pieces.now c.loop-place.place _ c.loop-place.rest.now c.requires (omega arith) c.loop-place.invariant.rest).fits

pub push_piece-requires : goal.push_piece-requires
push_piece-requires c =
    (next_piece c.args.index.now.outlines c.args.strokes.now c.args.pieces.now c.loop-place.place _ c.loop-place.rest.now c.requires (omega arith) c.loop-place.invariant.rest).entry

pub loop-place-preserved : goal.loop-place-preserved
loop-place-preserved c =
    let stack = c.args.index.now in
    let segs = segments stack.outlines c.args.strokes.now in
    let i = c.loop-place.place in
    let next = next_piece stack.outlines c.args.strokes.now c.args.pieces.now i _ c.loop-place.rest.now c.requires (omega arith) c.loop-place.invariant.rest in
    let part = ap₂ (λ (p : List ℕ) (e : Option ℕ). shown stack p e) (c.split_at.ensures.front ∙ next.first) next.number in
    record {
      page = page_next (λ p. shown stack p (entry_number stack.outlines p)) segs i [] c.args.page.now.items c.loop-place.page.items c.push_bar.new.page.items
          c.push_piece.new.page.items _ next.inside c.loop-place.invariant.page c.in_ok-push_bar.ensures c.in_ok-push_piece.ensures part;
      rest = c.split_at.ensures.back ∙ next.others;
    }
