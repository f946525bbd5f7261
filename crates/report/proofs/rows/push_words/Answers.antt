use Rattle.std.proofs.Common.{arith}
use Rattle.report.specs.Reports.{outline_text}
use Rattle.report.proofs.Bars.{page_next}
use Rattle.report.proofs.rows.push_words.Goals as goal

pub loop-place-preserved : goal.loop-place-preserved
loop-place-preserved c =
    page_next (outline_text c.args.index.now.outlines) c.args.words.now c.loop-place.place 0 c.args.page.now.items c.loop-place.page.items c.push_bar.new.page.items
    c.extend_from_slice.new.self.items c.outline.result.now (omega arith) c.loop-place.invariant c.in_ok-push_bar.ensures c.in_ok-extend_from_slice.ensures.items c.outline.ensures
