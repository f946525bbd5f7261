use Rattle.std.proofs.Common.{refl}
use Rattle.std.proofs.lemmas.Result.{err_from_is_err_and}
use Rattle.brief_trial.proofs.NumberedTrials.{numbered-trials}
use Rattle.conflict_example.specs.Chosen.{words_in_stack}
use Rattle.audit_top.specs.Tried.{TriesBriefs, try_result}
use Rattle.audit_top.proofs.Stops.{put-stopped, put-whole}
use Rattle.audit_top.proofs.Trying.{try-is}
use Rattle.audit_top.proofs.tries.print_trials.Goals as goal

pub write_trials-requires : goal.write_trials-requires
write_trials-requires g c =
    let stack = c.args.stack.now in
    numbered-trials stack.outlines (words_in_stack stack) c.args.briefs.now c.args.trials.now c.requires.tried c.requires.small

pub returns-in_err-write_trials : goal.returns-in_err-write_trials
returns-in_err-write_trials g c =
    let stack = c.args.stack.now in
    let briefs = c.args.briefs.now in
    let trials = c.args.trials.now in
    let p = err_from_is_err_and c.from_residual.result c.from_residual.ensures.1 in
    put-stopped (TriesBriefs briefs stack) _ _ (try_result stack trials) _ _ p.0 (try-is briefs stack trials c.requires.tried) c.in_err-write_trials.ensures p.1 p.2

pub returns : goal.returns
returns g c =
    let stack = c.args.stack.now in
    let briefs = c.args.briefs.now in
    let trials = c.args.trials.now in
    put-whole (TriesBriefs briefs stack) _ _ (try_result stack trials) _ (try-is briefs stack trials c.requires.tried) c.status_of.ensures refl c.in_ok-write_trials.ensures.all (c.in_ok-write_trials.ensures.steady refl)
