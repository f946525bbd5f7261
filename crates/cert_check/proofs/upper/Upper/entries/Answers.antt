use Rattle.std.proofs.Common.{arith, ◌∙◌, ap, cond, Some, None}
use Rattle.std.specs.Prelude.{◌==◌}
use Rattle.report.specs.declared.faults.Why.TheVariants as why
use Rattle.certificate_laws.specs.Closures.{closure_of}
use Rattle.cert_check.proofs.AnswerLemmas.{entries_answers, early_failure}
use Rattle.cert_check.proofs.upper.Upper.entries.Goals as goal

pub returns-clause-answers : goal.returns-clause-answers
returns-clause-answers c flags = entries_answers (closure_of c.args.stack.now.outlines flags) c.args.self.now c.args.count c.failure_of.result
    (c.failure_of.ensures ∙ ap (λ n. cond (c.args.self.now.lines == 1) (cond (c.args.count == n) None (Some why.Entries)) (Some why.Form)) c.entry_count.ensures.count)

pub returns-clause-early : goal.returns-clause-early
returns-clause-early c none = early_failure c.args.self.now.lines 1 _ why.Entries c.failure_of.result c.failure_of.ensures none (omega arith)
