use Rattle.std.proofs.Common.{ap}
use Rattle.report_json.specs.JsonLines.{json_text}
use Rattle.audit_top.proofs.Puts.{puts-as}
use Rattle.audit_top.proofs.audit.write_as_json.Goals as goal

pub returns : goal.returns
returns g c = puts-as _ _ _ _ _ _ _ (ap json_text c.in_ok-report.ensures.report) c.write_json.ensures
