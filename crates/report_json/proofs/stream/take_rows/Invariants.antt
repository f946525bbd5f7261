use Rattle.std.proofs.Common.{◌≡◌, All, length}
use Rattle.report_json.specs.JsonReports.{IsJsonRow}
use Rattle.report_json.specs.inside.Tokens.{each_token, row_tokens}
use Rattle.report_json.proofs.stream.take_rows.Given as goal

-- the rows so far
abbrev pub invariant-rows : goal.invariant-rows
invariant-rows l = record {
  taken : l.initial.reader ≡ each_token row_tokens l.rows.items l.reader;
  are : All IsJsonRow l.rows.items;
}

abbrev pub decreases-rows : goal.decreases-rows
decreases-rows l = length l.reader
