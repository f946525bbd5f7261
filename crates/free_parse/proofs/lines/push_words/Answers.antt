use Rattle.std.proofs.Common.{◌≡◌, ◌++◌, ◌∙◌, ap, arith, refl}
use Rattle.steno_order.specs.Canonical.{canonical_text}
use Rattle.report.specs.Reports.{outline_text}
use Rattle.report.specs.inside.Bars.{bar_at}
use Rattle.report.proofs.Bars.{page_next}
use Rattle.free_parse.proofs.BarLemmas.{bar_added, no_bar}
use Rattle.free_parse.proofs.lines.push_words.Goals.{then-place-gt0+in_ok-extend_from_slice, else-place-gt0}
use Rattle.free_parse.proofs.lines.push_words.Goals as goal

pub loop-place-preserved : goal.loop-place-preserved
loop-place-preserved c =
    let page = c.loop-place.page.items in
    let bar : c.if-place-gt0.page.items ≡ page ++ bar_at c.loop-place.place = elim c.if-place-gt0.branch [
      | then-place-gt0+in_ok-extend_from_slice w ↦ rw w.page-is (bar_added c.loop-place.place page w.extend_from_slice.new.self.items w.if-place-gt0.true w.in_ok-extend_from_slice.ensures.items)
      | else-place-gt0 w ↦ rw w.page-is (no_bar c.loop-place.place page page w.if-place-gt0.false refl)
    ] in
    page_next (outline_text c.args.stack.now.outlines) c.args.words.now c.loop-place.place 0 c.args.page.now.items page c.if-place-gt0.page.items
    c.push_outline.new.page.items (canonical_text c.strokes.result.now) (omega arith) c.loop-place.invariant bar c.in_ok-push_outline.ensures
    (ap canonical_text (c.strokes.ensures.strokes ∙ c.outline.ensures.outline))
