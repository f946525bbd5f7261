use Rattle.std.proofs.lemmas.Result.{err_from_is_err_and}
use Rattle.audit_top.specs.Audited.{generated_stack}
use Rattle.audit_top.proofs.GeneratedStacks.{of-stack, stack-stopped}
use Rattle.audit_top.proofs.audit_generated.audit_generated.Goals as goal

pub returns-in_err-stack : goal.returns-in_err-stack
returns-in_err-stack g c =
    let p = err_from_is_err_and c.from_residual.result c.from_residual.ensures.1 in
    stack-stopped (generated_stack c.args.start c.args.count) _ _ p.0 c.in_err-stack.field-0.0 c.in_err-stack.ensures.err p.1 p.2

pub returns : goal.returns
returns g c = of-stack c.args.start c.args.count c.in_ok-stack.stack _ _ _ c.in_ok-stack.ensures.stack c.in_ok-stack.ensures.within c.audit_stack.ensures
