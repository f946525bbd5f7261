use Rattle.std.proofs.Common.{drop}
use Rattle.report.specs.Reports.{rows_text}
use Rattle.pages.specs.Pages.{progress}
use Rattle.pages.proofs.PageSteps.{IsAdding}
use Rattle.report.proofs.rows.write_rows.Given as goal

-- the rows that are left are to be written
abbrev pub invariant-loop-row : goal.invariant-loop-row
invariant-loop-row g l =
    IsAdding (progress (g.S.Sink.text l.initial.sink) (g.S.Sink.faults l.initial.sink) l.initial.page.items)
    (progress (g.S.Sink.text l.sink) (g.S.Sink.faults l.sink) l.page.items)
    (rows_text l.name l.index l.rows)
    (rows_text l.name l.index (drop l.row-index l.rows))
