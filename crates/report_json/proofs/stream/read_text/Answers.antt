use Rattle.std.proofs.Common.{◌∙◌, ap, sym}
use Rattle.report_json.specs.inside.Tokens.{report_tokens}
use Rattle.report_json.proofs.TokensTaken.{read_of_tokens}
use Rattle.report_json.proofs.stream.read_text.Goals as goal

pub returns-in-None-clause-ok : goal.returns-in-None-clause-ok
returns-in-None-clause-ok c =
    read_of_tokens c.args.text.now c.in_ok-report.report c.utf8.text c.in_ok-report.ensures.is_report
    (sym c.in_ok-reader.ensures.ok ∙ c.in_ok-report.ensures.taken ∙ ap (report_tokens c.in_ok-report.report) c.in-None.ensures.value.0)
