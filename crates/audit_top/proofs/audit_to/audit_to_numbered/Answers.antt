use Rattle.std.proofs.Common.{None}
use Rattle.std.proofs.lemmas.Result.{err_from_is_err_and}
use Rattle.report.specs.Refusals.{certificate_failed}
use Rattle.conflict_example.specs.Chosen.{words_in_stack}
use Rattle.audit_top.specs.Audited.{IsAuditTo}
use Rattle.audit_top.specs.inside.Answers.{writes_only}
use Rattle.audit_top.proofs.OtherFiles.{output-goes}
use Rattle.audit_top.proofs.Reports.{few-numbers, of-graph}
use Rattle.audit_top.proofs.Stops.{ran-out}
use Rattle.audit_top.proofs.audit_to.audit_to_numbered.Goals as goal

pub returns-in_err-searched : goal.returns-in_err-searched
returns-in_err-searched g c =
    let p = err_from_is_err_and c.from_residual.result c.from_residual.ensures.1 in
    output-goes certificate_failed None (writes_only c.args.certificate.now) (λ file. IsAuditTo c.args.certificate.now c.args.stack.now) _ _ _ _ (ran-out _ _ _ p.0 p.1 p.2)

pub returns-in_err-rows : goal.returns-in_err-rows
returns-in_err-rows g c =
    let p = err_from_is_err_and c.from_residual-in_err-rows.result c.from_residual-in_err-rows.ensures.1 in
    output-goes certificate_failed None (writes_only c.args.certificate.now) (λ file. IsAuditTo c.args.certificate.now c.args.stack.now) _ _ _ _ (ran-out _ _ _ p.0 p.1 p.2)

pub print_with_certificate-requires-clause-few : goal.print_with_certificate-requires-clause-few
print_with_certificate-requires-clause-few g c =
    let searched = of-graph c.args.stack.now c.new-graph.result c.args.numbering.now c.in_ok-searched.searched c.new-graph.ensures c.requires.entries c.requires.words c.in_ok-searched.ensures in
    few-numbers c.args.stack.now (words_in_stack c.args.stack.now) c.in_ok-searched.searched.words c.requires.within searched.words
