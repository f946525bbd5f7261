use Rattle.report_json.proofs.RowTexts.{text_of_row}
use Rattle.report_json.proofs.writing.row_json.Goals as goal

pub returns : goal.returns
returns c = text_of_row c.to_vec.result c.in_ok-row_data.field-0 c.args.row.now c.in_ok-row_data.ensures c.to_vec.ensures.text
