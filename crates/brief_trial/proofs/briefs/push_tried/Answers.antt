use Rattle.std.proofs.Common.{length, rules}
use Rattle.std.proofs.lemmas.Result.{err_from_is_err_and}
use Rattle.std.proofs.lemmas.Iterator.Consumers.{YieldsList-turn, YieldsList-end}
use Rattle.std.proofs.lemmas.Iterator.Adapters.{YieldsList-from_vec}
use Rattle.brief_trial.specs.Limits.{IsTrialCause}
use Rattle.brief_trial.proofs.Adding.{adding_end, adding_fault, adding_none, adding_turn, if_err}
use Rattle.brief_trial.proofs.briefs.push_tried.Goals as goal

pub loop-trial-init : goal.loop-trial-init
loop-trial-init c = λ entries words group all. adding_none entries words group c.args.trials.now.items c.args.tried.items all

pub returns-in_err-trial-clause-cause : goal.returns-in_err-trial-clause-cause
returns-in_err-trial-clause-cause c =
    let turn = YieldsList-turn (YieldsList-from_vec {s = c.into_iter-trial-iterator.result} c.args.tried.items (search rules) (search rules))
    c.loop-trial.yielded c.loop-trial.trial-iterator c.loop-trial.yielded_by c.next.result c.next.new.self c.in-Some.trial c.in-Some.is c.next.ensures.steps in
    let p = err_from_is_err_and c.from_residual.result c.from_residual.ensures.1 in
    λ entries words group all. if_err (IsTrialCause entries group) c.from_residual.result p.0 c.in_err-trial.field-0.0 p.1 p.2
    (adding_fault entries words group c.args.trials.now.items c.loop-trial.trials.items c.args.tried.items (length c.loop-trial.yielded) c.in-Some.trial c.in_err-trial.field-0.0 turn.0 turn.1
    c.in_err-trial.was (c.loop-trial.invariant entries words group all))

pub loop-trial-preserved : goal.loop-trial-preserved
loop-trial-preserved c =
    let turn = YieldsList-turn (YieldsList-from_vec {s = c.into_iter-trial-iterator.result} c.args.tried.items (search rules) (search rules))
    c.loop-trial.yielded c.loop-trial.trial-iterator c.loop-trial.yielded_by c.next.result c.next.new.self c.in-Some.trial c.in-Some.is c.next.ensures.steps in
    λ entries words group all. adding_turn entries words group c.args.trials.now.items c.loop-trial.trials.items c.push.new.trials.items c.args.tried.items c.loop-trial.yielded c.in-Some.trial
    c.in_ok-trial.field-0 turn.0 turn.1 c.in_ok-trial.was c.in_ok-push.ensures (c.loop-trial.invariant entries words group all)

pub returns-clause-adds : goal.returns-clause-adds
returns-clause-adds c =
    let end = YieldsList-end (YieldsList-from_vec {s = c.into_iter-trial-iterator.result} c.args.tried.items (search rules) (search rules))
    c.loop-trial.yielded c.loop-trial.trial-iterator c.loop-trial.yielded_by c.next.result c.next.new.self c.in-None.is c.next.ensures.steps in
    λ entries words group all. adding_end entries words group c.args.trials.now.items c.loop-trial.trials.items c.args.tried.items (length c.loop-trial.yielded) end.1
    (c.loop-trial.invariant entries words group all)
