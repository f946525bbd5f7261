use Rattle.std.proofs.Common.{◌∙◌, ap, arith}
use Rattle.steno_order.specs.Canonical.{canonical_text}
use Rattle.report.specs.Reports.{outline_text}
use Rattle.report.proofs.Bars.{page_next}
use Rattle.brief_trial.specs.Trials.{with_brief}
use Rattle.brief_trial.proofs.writing.push_words.Goals as goal

pub loop-place-preserved : goal.loop-place-preserved
loop-place-preserved c =
    page_next (outline_text (with_brief c.args.stack.now.outlines c.args.trial.now.brief)) c.args.words.now c.loop-place.place 0 c.args.page.now.items c.loop-place.page.items c.push_bar.new.page.items
    c.push_outline.new.page.items (canonical_text c.strokes.result.now) (omega arith) c.loop-place.invariant c.in_ok-push_bar.ensures c.in_ok-push_outline.ensures
    (ap canonical_text (c.strokes.ensures.strokes ∙ c.trial_outline.ensures))
