use Rattle.std.proofs.Common.{arith, ap, length}
use Rattle.std.proofs.lemmas.Result.{IfOk-weaker}
use Rattle.conflict_example.specs.Chosen.{words_in_stack}
use Rattle.conflict_example.proofs.AtStack.{chosen_of, closure_of, exact_of, small_of}
use Rattle.conflict_example.proofs.rows.conflicts.Goals as goal

pub first_hits-requires-clause-closure : goal.first_hits-requires-clause-closure
first_hits-requires-clause-closure c =
    closure_of c.args.numbering.now c.args.words.now c.count-count.ensures.words
    (omega (arith, c.count-count.ensures.count, c.count-count.ensures.most)) c.requires.settled

pub all_rows-requires-clause-closure : goal.all_rows-requires-clause-closure
all_rows-requires-clause-closure c =
    closure_of c.args.numbering.now c.args.words.now c.count-count.ensures.words
    (omega (arith, c.count-count.ensures.count, c.count-count.ensures.most)) c.requires.settled

pub returns-clause-exact : goal.returns-clause-exact
returns-clause-exact c =
    IfOk-weaker c.all_rows.result _ _ (λ rows h. exact_of c.args.numbering.now c.args.stack.now c.args.words.now rows.items c.requires.entries c.requires.words h) c.all_rows.ensures

pub returns-clause-chosen : goal.returns-clause-chosen
returns-clause-chosen c =
    let v = c.args.numbering.now in
    IfOk-weaker c.all_rows.result _ _
    (λ rows h. chosen_of v c.args.stack.now.outlines (words_in_stack c.args.stack.now) c.args.words.now 0 (length v.entries) 1 rows.items c.requires.entries c.requires.words h) c.all_rows.ensures

pub returns-clause-small : goal.returns-clause-small
returns-clause-small c =
    let v = c.args.numbering.now in
    IfOk-weaker c.all_rows.result _ _
    (λ rows h. small_of v c.args.stack.now.outlines c.args.words.now 0 (length v.entries) rows.items c.requires.entries c.outlines.ensures.are_outlines c.outlines.ensures.few
    (omega (arith, ap length c.requires.entries)) h) c.all_rows.ensures
