use Rattle.std.proofs.Common.{◌++◌, ◌∙◌, ap, ap₂, sym, arith, get_or}
use Rattle.steno_rules.specs.Outlines.{outline_of}
use Rattle.longest_match.proofs.ShowSteps.{strokes_more}
use Rattle.report.proofs.rows.join.Goals as goal

pub loop-word-preserved : goal.loop-word-preserved
loop-word-preserved c =
    let i = c.loop-word.word-index in
    let word = get_or c.args.words.now i 0 in
    let outline = c.strokes.ensures.strokes ∙ c.outline.ensures.outline ∙ ap (λ s. outline_of s.outlines word) c.stack.ensures in
    c.in_ok-extend_from_slice.ensures.items ∙ ap₂ (λ a b. a ++ b) c.loop-word.invariant outline ∙ sym (strokes_more c.args.index.now.outlines c.args.words.now i (omega arith))
