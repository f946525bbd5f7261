-- A report as JSON text, and the lines of its rows.
--     json_text report    the compact text of its value
--     listing_text report   two lines a row
use Rattle.std.specs.Prelude.{ℕ, List, [], ◌∷◌, ◌++◌, map, flat_map, codes, decimal}
use Rattle.serde_json.specs.Written.{compact_text}
use Rattle.text_rules.specs.Lines.{line, barred}
use Rattle.steno_order.specs.Canonical.{canonical_text}
use Rattle.report_json.specs.JsonReports.{JsonReportView, JsonRowView, report_value}

abbrev pub json_text : JsonReportView → List ℕ
json_text report = compact_text (report_value report)

abbrev pub row_listing : JsonRowView → List ℕ
row_listing row =
    line (codes "conflict" ∷ canonical_text row.outline ∷ codes "place" ∷ decimal row.place
    ∷ codes "strokes" ∷ decimal row.strokes ∷ [])
    ++ line (codes "words" ∷ barred (map canonical_text row.words) ∷ [])

abbrev pub listing_text : JsonReportView → List ℕ
listing_text report = flat_map row_listing report.rows
