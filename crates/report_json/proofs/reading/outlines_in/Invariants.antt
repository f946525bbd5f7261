use Rattle.std.proofs.Common.{◌≡◌, All, map, take}
use Rattle.serde_json.specs.View.{view}
use Rattle.steno_rules.specs.Outlines.{IsOutline}
use Rattle.report_json.specs.JsonReports.{outline_value}
use Rattle.report_json.proofs.reading.outlines_in.Given as goal

abbrev pub invariant-loop-value : goal.invariant-loop-value
invariant-loop-value l = record {
  ok : map view (take l.value-index l.values) ≡ map outline_value l.outlines.items;
  are : All IsOutline l.outlines.items;
}
