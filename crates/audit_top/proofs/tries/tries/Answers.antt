use Rattle.std.proofs.Common.{map, refl, string_bytes}
use Rattle.std.proofs.lemmas.Result.{err_from_is_err_and}
use Rattle.audit_top.proofs.Stacks.{IsOver, is-try, over-fault, over-stack}
use Rattle.audit_top.proofs.tries.tries.Goals as goal

pub returns-in_err-stack : goal.returns-in_err-stack
returns-in_err-stack g c =
    let p = err_from_is_err_and c.from_residual.result c.from_residual.ensures.1 in
    let dicts = map string_bytes c.args.dicts.now in
    over-fault _ dicts (IsOver.base (is-try c.args.workers c.args.briefs.now dicts)) c.in_err-stack.field-0.0 _ _ _ _ p.0 c.in_err-stack.ensures.err c.read_stack.ensures.reads c.in_err-stack.ensures.steady p.1 p.2

pub returns : goal.returns
returns g c =
    let dicts = map string_bytes c.args.dicts.now in
    over-stack _ dicts _ _ (is-try c.args.workers c.args.briefs.now dicts) c.in_ok-stack.stack _ _ _ _ _ c.in_ok-stack.ensures.ok c.read_stack.ensures.reads (c.in_ok-stack.ensures.steady refl) c.try_stack.ensures
