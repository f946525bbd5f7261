use Rattle.std.proofs.Common.{◌≡◌, All, map, take}
use Rattle.report_json.specs.JsonReports.{IsJsonRow, json_row}
use Rattle.report_json.proofs.making.rows.Given as goal

abbrev pub invariant-loop-conflict : goal.invariant-loop-conflict
invariant-loop-conflict l = record {
  rows : l.rows.items ≡ map (json_row l.outlines) (take l.conflict-index l.conflicts);
  are_rows : All IsJsonRow l.rows.items;
}
