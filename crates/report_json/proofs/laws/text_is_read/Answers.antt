use Rattle.report_json.proofs.ReadBack.{only_memory, reads_back, same_back}
use Rattle.report_json.proofs.laws.text_is_read.Goals as goal

pub returns : goal.returns
returns c = record { value = reads_back; same = same_back; memory = only_memory }
