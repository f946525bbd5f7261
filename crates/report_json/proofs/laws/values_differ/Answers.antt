use Rattle.report_json.proofs.SameReports.{same_reports}
use Rattle.report_json.proofs.laws.values_differ.Goals as goal

pub returns : goal.returns
returns c = same_reports
