use Rattle.std.proofs.Common.{◌≡◌, All, map, take}
use Rattle.serde_json.specs.View.{view}
use Rattle.report_json.specs.JsonReports.{IsJsonRow, row_value}
use Rattle.report_json.proofs.reading.rows_of.Given as goal

abbrev pub invariant-loop-value : goal.invariant-loop-value
invariant-loop-value l = record {
  ok : map view (take l.value-index l.values) ≡ map row_value l.rows.items;
  are : All IsJsonRow l.rows.items;
}
