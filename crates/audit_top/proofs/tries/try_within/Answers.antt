use Rattle.std.proofs.lemmas.Result.{err_from_is_err_and}
use Rattle.audit_top.specs.Tried.{IsTry, TriesBriefs, briefs_limit}
use Rattle.audit_top.proofs.Stops.{answers-weaker, unless-none}
use Rattle.audit_top.proofs.Trying.{briefs-within, try-stopped}
use Rattle.audit_top.proofs.tries.try_within.Goals as goal

pub returns-in_err-trials : goal.returns-in_err-trials
returns-in_err-trials g c =
    let p = err_from_is_err_and c.from_residual.result c.from_residual.ensures.1 in
    try-stopped c.args.briefs.now c.args.stack.now _ _ p.0 c.in_err-trials.field-0.0 c.in_err-trials.ensures.cause p.1 p.2

pub returns : goal.returns
returns g c =
    let stack = c.args.stack.now in
    let briefs = c.args.briefs.now in
    answers-weaker (TriesBriefs briefs stack) (IsTry briefs stack) _ _ _
    (unless-none (briefs_limit briefs stack) (TriesBriefs briefs stack) (briefs-within briefs stack c.in_ok-trials.ensures.within)) c.print_trials.ensures
