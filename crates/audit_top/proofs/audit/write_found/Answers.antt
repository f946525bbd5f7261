use Rattle.std.proofs.Common.{length, refl}
use Rattle.report.specs.Reports.{report_text, summary_text}
use Rattle.report.specs.declared.reports.Summary.{Summary}
use Rattle.report_json.specs.JsonLines.{json_text}
use Rattle.report_json.specs.JsonReports.{json_report}
use Rattle.audit_top.specs.Audited.{summary_by, summary_of}
use Rattle.audit_top.proofs.Reports.{put-counts, summary-is}
use Rattle.audit_top.proofs.audit.write_found.Goals as goal

pub returns-in-Report : goal.returns-in-Report
returns-in-Report g c =
    let rows = c.args.rows.now in
    let is = summary-is c.args.searched.now rows c.reached.result c.rounds.result (length rows) c.words.result.now c.words.ensures c.reached.ensures c.rounds.ensures refl in
    rw c.in-Report.is (put-counts (λ (s : Summary). report_text c.args.stack.now s rows) _ _ _ _ _ (summary_by c.reached.result c.rounds.result (length rows)) (summary_of c.args.searched.now rows) is c.write_report.ensures)

pub returns-in-Summary : goal.returns-in-Summary
returns-in-Summary g c =
    let rows = c.args.rows.now in
    let is = summary-is c.args.searched.now rows c.reached.result c.rounds.result (length rows) c.words.result.now c.words.ensures c.reached.ensures c.rounds.ensures refl in
    rw (c.in-Summary.is, ← c.relaxed.ensures) (put-counts (λ (s : Summary). summary_text c.args.stack.now s c.relaxed.result) _ _ _ _ _ (summary_by c.reached.result c.rounds.result (length rows)) (summary_of c.args.searched.now rows) is c.write_summary.ensures)

pub returns-in-Json : goal.returns-in-Json
returns-in-Json g c =
    let rows = c.args.rows.now in
    let is = summary-is c.args.searched.now rows c.reached.result c.rounds.result (length rows) c.words.result.now c.words.ensures c.reached.ensures c.rounds.ensures refl in
    rw c.in-Json.is (put-counts (λ (s : Summary). json_text (json_report c.args.stack.now s rows)) _ _ _ _ _ (summary_by c.reached.result c.rounds.result (length rows)) (summary_of c.args.searched.now rows) is c.write_as_json.ensures)
