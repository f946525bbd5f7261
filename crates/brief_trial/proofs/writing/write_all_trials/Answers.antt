use Rattle.std.proofs.Common.{◌+◌, arith, drop}
use Rattle.std.proofs.lemmas.List.{at_drop_all}
use Rattle.std.proofs.lemmas.Result.{err_from_is_err_and}
use Rattle.pages.proofs.PageSteps.{adding_more, adds_early, adds_whole, next_part}
use Rattle.brief_trial.specs.TrialTexts.{trial_text, trials_text}
use Rattle.brief_trial.proofs.writing.write_all_trials.Goals as goal

pub returns-in_err-write_trial : goal.returns-in_err-write_trial
returns-in_err-write_trial g c =
    let text = trial_text c.args.stack.now.outlines in
    let trials = c.args.trials.now in
    let i = c.loop-trial.trial-index in
    let trial = c.trial-item.result in
    let next = next_part text trials i trial trial _ _ (omega arith) c.trial-item.is c.loop-trial.invariant in
    let p = err_from_is_err_and c.from_residual.result c.from_residual.ensures.1 in
    adds_early _ _ _ _ (text trial) (trials_text c.args.stack.now.outlines (drop (i + 1) trials)) _ _ p.0 next c.in_err-write_trial.ensures p.1 p.2

pub loop-trial-preserved : goal.loop-trial-preserved
loop-trial-preserved g c =
    let text = trial_text c.args.stack.now.outlines in
    let trials = c.args.trials.now in
    let i = c.loop-trial.trial-index in
    let trial = c.trial-item.result in
    let next = next_part text trials i trial trial _ _ (omega arith) c.trial-item.is c.loop-trial.invariant in
    adding_more _ _ _ _ (text trial) (trials_text c.args.stack.now.outlines (drop (i + 1) trials)) tt next c.in_ok-write_trial.ensures

pub returns : goal.returns
returns g c = adds_whole _ _ _ _ tt (at_drop_all (trials_text c.args.stack.now.outlines) c.args.trials.now c.loop-trial.trial-index (omega arith)) c.loop-trial.invariant
