use Rattle.std.proofs.Common.{◌≡◌, ◌+◌, ◌∙◌, ap, sym, length, get_or, true, false}
use Rattle.std.proofs.lemmas.List.{get_or_default, take_all}
use Rattle.steno_rules.specs.Outlines.{outline_of}
use Rattle.cert_check.specs.Verdicts.{closure_at}
use Rattle.cert_check.specs.inside.RowAnswers.{are_such_words}
use Rattle.cert_check.proofs.RowAnswers.{such_all, such_next, such_long, such_stranger, flag_word}
use Rattle.cert_check.proofs.rows.are_words_of.Goals as goal

pub returns : goal.returns
returns c =
    let closure = closure_at c.args.stack.now in
    sym (such_all closure c.args.words.now c.loop-word.word-index c.loop-word.sum c.from-most.result (take_all c.loop-word.word-index c.args.words.now c.loop-word-test.false) c.loop-word.invariant)
    ∙ ap (are_such_words closure c.args.words.now) c.from-most.ensures

pub loop-word-preserved : goal.loop-word-preserved
loop-word-preserved c =
    let closure = closure_at c.args.stack.now in
    let word = get_or c.args.words.now c.loop-word.word-index 0 in
    let long : length c.strokes.result.now ≡ length (outline_of c.args.stack.now.outlines word) = ap length (c.strokes.ensures.strokes ∙ c.outline.ensures.outline) in
    such_next closure c.args.words.now c.loop-word.word-index c.loop-word.sum c.from-most.result word (c.loop-word.sum + length c.strokes.result.now) c.loop-word-test.true
    (get_or_default c.args.words.now c.loop-word.word-index _ _ c.loop-word-test.true)
    (sym (flag_word closure c.words-flags.result.now word c.is_flagged.result c.is_flagged.ensures c.words-flags.ensures.words c.words-flags.ensures.each) ∙ c.if-not-is_flagged.false)
    (ap (λ n. c.loop-word.sum + n) long) c.if-sum-most.false c.loop-word.invariant

pub returns-then-not-is_flagged : goal.returns-then-not-is_flagged
returns-then-not-is_flagged c =
    let closure = closure_at c.args.stack.now in
    let word = get_or c.args.words.now c.loop-word.word-index 0 in
    sym (such_stranger closure c.args.words.now c.loop-word.word-index word c.args.strokes c.loop-word-test.true
    (get_or_default c.args.words.now c.loop-word.word-index _ _ c.loop-word-test.true)
    (sym (flag_word closure c.words-flags.result.now word c.is_flagged.result c.is_flagged.ensures c.words-flags.ensures.words c.words-flags.ensures.each) ∙ c.if-not-is_flagged.true))

pub returns-then-sum-most : goal.returns-then-sum-most
returns-then-sum-most c =
    let closure = closure_at c.args.stack.now in
    let word = get_or c.args.words.now c.loop-word.word-index 0 in
    let long : length c.strokes.result.now ≡ length (outline_of c.args.stack.now.outlines word) = ap length (c.strokes.ensures.strokes ∙ c.outline.ensures.outline) in
    sym (such_long closure c.args.words.now c.loop-word.word-index c.loop-word.sum c.from-most.result word (c.loop-word.sum + length c.strokes.result.now) c.loop-word-test.true
    (get_or_default c.args.words.now c.loop-word.word-index _ _ c.loop-word-test.true) (ap (λ n. c.loop-word.sum + n) long) c.if-sum-most.true c.loop-word.invariant
    ) ∙ ap (are_such_words closure c.args.words.now) c.from-most.ensures
