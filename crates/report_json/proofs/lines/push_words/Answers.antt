use Rattle.std.proofs.Common.{◌∙◌, ap, arith}
use Rattle.steno_order.specs.Canonical.{canonical_text}
use Rattle.report.proofs.Bars.{page_next}
use Rattle.report_json.proofs.lines.push_words.Goals as goal

pub loop-place-preserved : goal.loop-place-preserved
loop-place-preserved c =
    page_next canonical_text c.args.words.now c.loop-place.place c.index-words-place.result c.args.page.now.items c.loop-place.page.items c.push_bar.new.page.items
    c.push_outline.new.page.items (canonical_text c.strokes.result.now) (omega arith) c.loop-place.invariant c.in_ok-push_bar.ensures c.in_ok-push_outline.ensures
    (ap canonical_text (c.strokes.ensures.strokes ∙ c.index-words-place.is))
