use Rattle.std.proofs.lemmas.Result.{err_from_is_err_and}
use Rattle.conflict_example.specs.Chosen.{words_in_stack}
use Rattle.brief_trial.specs.Limits.{IsTrialCause}
use Rattle.brief_trial.proofs.Adding.{if_err, passed_more, passed_stopped, take_drop}
use Rattle.brief_trial.proofs.briefs.try_briefs.Goals as goal

pub returns-in_err-try_group-clause-cause : goal.returns-in_err-try_group-clause-cause
returns-in_err-try_group-clause-cause g c =
    let stack = c.args.stack.now in
    let p = err_from_is_err_and c.from_residual-in_err-try_group.result c.from_residual-in_err-try_group.ensures.1 in
    if_err (IsTrialCause stack.outlines c.args.briefs.now) c.from_residual-in_err-try_group.result p.0 c.in_err-try_group.field-0.0 p.1 p.2
    (passed_stopped stack.outlines (words_in_stack stack) c.args.briefs.now c.loop-rest.rest.now c.split_at.result.0.now c.split_at.result.1.now c.loop-rest.trials.items c.in_err-try_group.field-0.0
    (take_drop c.loop-rest.rest.now c.split_at.result.0.now c.split_at.result.1.now c.min.result c.split_at.ensures.front c.split_at.ensures.back) c.loop-rest.invariant c.in_err-try_group.ensures.cause)

pub loop-rest-preserved : goal.loop-rest-preserved
loop-rest-preserved g c =
    let stack = c.args.stack.now in
    passed_more stack.outlines (words_in_stack stack) c.args.briefs.now c.loop-rest.rest.now c.split_at.result.0.now c.split_at.result.1.now c.loop-rest.trials.items c.try_group.new.trials.items
    (take_drop c.loop-rest.rest.now c.split_at.result.0.now c.split_at.result.1.now c.min.result c.split_at.ensures.front c.split_at.ensures.back) c.loop-rest.invariant c.in_ok-try_group.ensures.adds
