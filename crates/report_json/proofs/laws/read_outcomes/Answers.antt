use Rattle.report_json.proofs.Decided.{one_outcome, some_outcome}
use Rattle.report_json.proofs.laws.read_outcomes.Goals as goal

pub returns : goal.returns
returns c = record { some = some_outcome; one = one_outcome }
