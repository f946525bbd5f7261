-- A report as a JSON value.
--     json_report stack summary rows    the report of a stack, with these rows
--     IsJsonReport report               its numbers fit, and its outlines are outlines
--     report_value report               the value: of two reports with one value each is the other
use Rattle.std.specs.Prelude.{ℕ, ◌<◌, ◌≡◌, ◌^◌, List, length, map, sum_by, All, codes}
use Rattle.serde_json.specs.Data.{Data, number, unsigned, string, array, object, no_members, member}
use Rattle.serde_json.specs.View.{items_of}
use Rattle.steno_rules.specs.Outlines.{IsOutline, outline_of}
use Rattle.steno_order.specs.Canonical.{canonical_text}
use Rattle.dict_stack.specs.Appearances.{strokes_of_all}
use Rattle.dict_stack.specs.Stacks.{StackView}
use Rattle.longest_match.specs.Rows.{Row}
use Rattle.report.specs.declared.reports.Summary.{Summary}

-- a conflict: an outline, a place in it, and words of so many strokes
pub record JsonRowView : Type 0 where
  pub outline : List ℕ
  pub place : ℕ
  pub strokes : ℕ
  pub words : List (List ℕ)

pub record JsonReportView : Type 0 where
  pub entries : ℕ
  pub folded : ℕ
  pub rounds : ℕ
  pub skipped : ℕ
  pub states : ℕ
  pub strokes : ℕ
  pub rows : List JsonRowView

pub record IsJsonRow (row : JsonRowView) : Type 0 where
  pub outline : IsOutline row.outline
  pub inner : 0 < row.place
  pub place : row.place < 64
  pub strokes : row.strokes < 2 ^ 32
  pub some_word : 0 < length row.words
  pub words : All IsOutline row.words

pub record IsJsonReport (report : JsonReportView) : Type 0 where
  pub entries : report.entries < 2 ^ 32
  pub folded : report.folded < 2 ^ 64
  pub rounds : report.rounds < 2 ^ 32
  pub skipped : report.skipped < 2 ^ 64
  pub states : report.states < 2 ^ 32
  pub strokes : report.strokes < 2 ^ 32
  pub rows : All IsJsonRow report.rows

-- ---- of a stack

-- the place is that of a boundary inside an outline
pub record IsInner (row : Row) : Type 0 where
  pub at_least : 0 < row.place
  pub at_most : row.place < 64

abbrev pub json_row : List (List ℕ) → Row → JsonRowView
json_row outlines row = record {
  outline = outline_of outlines row.entry;
  place = row.place;
  strokes = row.strokes;
  words = map (outline_of outlines) row.words;
}

abbrev pub json_report : StackView → Summary → List Row → JsonReportView
json_report stack summary rows = record {
  entries = length stack.outlines;
  folded = stack.folded;
  rounds = summary.rounds;
  skipped = sum_by length stack.skipped;
  states = summary.states;
  strokes = length (strokes_of_all stack.outlines);
  rows = map (json_row stack.outlines) rows;
}

-- ---- the value

abbrev pub outline_value : List ℕ → Data
outline_value outline = string (canonical_text outline)

abbrev pub number_value : ℕ → Data
number_value n = number (unsigned n)

abbrev pub row_value : JsonRowView → Data
row_value row = object
    (member (codes "outline") (outline_value row.outline)
    (member (codes "place") (number_value row.place)
    (member (codes "strokes") (number_value row.strokes)
    (member (codes "words") (array (items_of (map outline_value row.words)))
    no_members))))

abbrev pub report_value : JsonReportView → Data
report_value report = object
    (member (codes "conflicts") (array (items_of (map row_value report.rows)))
    (member (codes "entries") (number_value report.entries)
    (member (codes "folded") (number_value report.folded)
    (member (codes "rounds") (number_value report.rounds)
    (member (codes "skipped") (number_value report.skipped)
    (member (codes "states") (number_value report.states)
    (member (codes "strokes") (number_value report.strokes)
    no_members)))))))

-- this value is that of a report
pub record IsReportValue (value : Data) : Type 0 where
  pub report : JsonReportView
  pub is_report : IsJsonReport report
  pub is : value ≡ report_value report
