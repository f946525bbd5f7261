use Rattle.std.proofs.Common.{◌∙◌, ap, set, true}
use Rattle.std.proofs.lemmas.Result.{err_from_is_err_and}
use Rattle.conflict_example.specs.Chosen.{words_in_stack}
use Rattle.brief_trial.proofs.MadeTrials.{held_stopped, held_whole, tried_err}
use Rattle.brief_trial.proofs.one.try_held.Goals as goal

pub returns-in_err-conflicts : goal.returns-in_err-conflicts
returns-in_err-conflicts c =
    let p = err_from_is_err_and c.from_residual-in_err-conflicts.result c.from_residual-in_err-conflicts.ensures.1 in
    let stack = c.args.stack.now in
    tried_err stack.outlines (words_in_stack stack) c.args.brief.now c.from_residual-in_err-conflicts.result p.0 c.in_err-conflicts.field-0.0 p.1 p.2
    (held_stopped stack.outlines c.outlines.result.now c.args.brief.now c.args.entry c.in_err-conflicts.field-0.0 c.outlines.ensures.are_entries.rising c.outlines.ensures.few c.requires
    c.outlines.ensures.outlines c.in_err-conflicts.ensures.cause)

pub returns : goal.returns
returns c =
    let stack = c.args.stack.now in
    held_whole stack.outlines stack.words c.outlines.result.now c.deref.result.now c.args.brief.now c.in_ok-copy.field-0 c.args.entry c.in_ok-conflicts.conflicts.items c.new.result
    c.words.ensures.each c.outlines.ensures.are_entries.rising c.outlines.ensures.few c.requires c.outlines.ensures.outlines
    (c.deref.ensures.value ∙ c.in_ok-words.ensures ∙ ap (λ l. set l c.args.entry true) c.words.ensures.words)
    c.in_ok-conflicts.ensures.found c.in_ok-conflicts.ensures.small c.in_ok-conflicts.ensures.within c.in_ok-copy.ensures c.new.ensures
