-- A report's value without its conflicts, which stand first in the text.
use Rattle.std.specs.Prelude.{ℕ, List, [], ◌∷◌, ◌++◌, Bool, true, codes}
use Rattle.serde_json.specs.Data.{Data, Members, object, no_members, member}
use Rattle.serde_json.specs.Written.{comma_if, compact_text}
use Rattle.report_json.specs.JsonReports.{JsonReportView, JsonRowView, number_value, row_value}

-- the six numbers
abbrev pub rest_members : JsonReportView → Members
rest_members report =
    member (codes "entries") (number_value report.entries)
    (member (codes "folded") (number_value report.folded)
    (member (codes "rounds") (number_value report.rounds)
    (member (codes "skipped") (number_value report.skipped)
    (member (codes "states") (number_value report.states)
    (member (codes "strokes") (number_value report.strokes)
    no_members)))))

abbrev pub rest_value : JsonReportView → Data
rest_value report = object (rest_members report)

-- the text of a row, behind a comma where it isn't the first
abbrev pub item_text : Bool → JsonRowView → List ℕ
item_text later row = comma_if later ++ compact_text (row_value row)

-- the texts of rows, with commas between them, and one before the first where others stand before it
abbrev pub rows_left : Bool → List JsonRowView → List ℕ
rows_left later [] = []
rows_left later (row ∷ rows) = item_text later row ++ rows_left true rows
