use Rattle.std.proofs.Common.{drop, flat_map}
use Rattle.pages.specs.Pages.{progress}
use Rattle.pages.proofs.PageSteps.{IsAdding}
use Rattle.report_json.specs.JsonLines.{row_listing}
use Rattle.report_json.proofs.lines.write_lines.Given as goal

-- the rows that are left are to be written
abbrev pub invariant-loop-row : goal.invariant-loop-row
invariant-loop-row g l =
    IsAdding (progress (g.S.Sink.text l.initial.sink) (g.S.Sink.faults l.initial.sink) l.initial.page.items)
    (progress (g.S.Sink.text l.sink) (g.S.Sink.faults l.sink) l.page.items)
    (flat_map row_listing l.rows)
    (flat_map row_listing (drop l.row-index l.rows))
