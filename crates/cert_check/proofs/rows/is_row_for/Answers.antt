use Rattle.std.proofs.Common.{◌∙◌, ap, sym, true, false}
use Rattle.cert_check.specs.Verdicts.{closure_at}
use Rattle.cert_check.specs.inside.RowAnswers.{are_such_words, is_of_pair}
use Rattle.cert_check.proofs.RowAnswers.{row_of_other, row_without_words, row_decided, such_few}
use Rattle.cert_check.proofs.rows.is_row_for.Goals as goal

pub returns-then-not-is_of_pair : goal.returns-then-not-is_of_pair
returns-then-not-is_of_pair c = row_of_other (closure_at c.args.stack.now) c.args.found c.args.row.now (sym c.is_of_pair.ensures ∙ c.if-not-is_of_pair.true)

pub returns-then-not-are_words_of : goal.returns-then-not-are_words_of
returns-then-not-are_words_of c =
    let closure = closure_at c.args.stack.now in
    row_without_words closure c.args.found c.args.row.now
    (ap (λ ws. are_such_words closure ws c.args.row.now.strokes) (sym c.words.ensures) ∙ (ap (are_such_words closure c.words.result.now) (sym c.strokes.ensures) ∙ (sym c.are_words_of.ensures ∙ c.if-not-are_words_of.true)))

pub shows-requires-clause-word_count : goal.shows-requires-clause-word_count
shows-requires-clause-word_count c =
    let closure = closure_at c.args.stack.now in
    such_few closure c.args.found c.args.row.now c.words-2.result.now c.outlines.ensures.are_entries c.words-2.ensures (sym c.is_of_pair.ensures ∙ c.if-not-is_of_pair.false)
    (ap (λ ws. are_such_words closure ws c.args.row.now.strokes) (sym c.words.ensures) ∙ (ap (are_such_words closure c.words.result.now) (sym c.strokes.ensures) ∙ (sym c.are_words_of.ensures ∙ c.if-not-are_words_of.false)))

pub returns : goal.returns
returns c =
    let closure = closure_at c.args.stack.now in
    row_decided closure c.args.found c.args.row.now c.shows.result c.outlines.result.now c.words-2.result.now c.outlines.ensures.outlines c.words-2.ensures (sym c.is_of_pair.ensures ∙ c.if-not-is_of_pair.false)
    (ap (λ ws. are_such_words closure ws c.args.row.now.strokes) (sym c.words.ensures) ∙ (ap (are_such_words closure c.words.result.now) (sym c.strokes.ensures) ∙ (sym c.are_words_of.ensures ∙ c.if-not-are_words_of.false))) c.shows.ensures
