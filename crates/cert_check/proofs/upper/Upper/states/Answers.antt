use Rattle.std.proofs.Common.{arith, ◌∙◌, ap, cond, Some, None}
use Rattle.std.specs.Prelude.{◌==◌}
use Rattle.report.specs.declared.faults.Why.TheVariants as why
use Rattle.certificate_laws.specs.Closures.{closure_of}
use Rattle.cert_check.proofs.AnswerLemmas.{states_answers, early_failure}
use Rattle.cert_check.proofs.upper.Upper.states.Goals as goal

pub returns-clause-answers : goal.returns-clause-answers
returns-clause-answers c flags = states_answers (closure_of c.args.numbering.now.entries flags) c.args.self.now c.args.count c.failure_of.result
    (c.failure_of.ensures ∙ ap (λ n. cond (c.args.self.now.lines == 2) (cond (c.args.count == n) None (Some why.States)) (Some why.Form)) c.count.ensures.count)

pub returns-clause-early : goal.returns-clause-early
returns-clause-early c none = early_failure c.args.self.now.lines 2 _ why.States c.failure_of.result c.failure_of.ensures none (omega arith)
