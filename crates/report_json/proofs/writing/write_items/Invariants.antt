use Rattle.std.proofs.Common.{drop, false, nat_lt}
use Rattle.pages.specs.Pages.{progress}
use Rattle.pages.proofs.PageSteps.{IsAdding}
use Rattle.report_json.specs.inside.Rests.{rows_left}
use Rattle.report_json.proofs.writing.write_items.Given as goal

-- the rows that are left are to be written
abbrev pub invariant-loop-i : goal.invariant-loop-i
invariant-loop-i g l =
    IsAdding (progress (g.S.Sink.text l.initial.sink) (g.S.Sink.faults l.initial.sink) l.initial.page.items)
    (progress (g.S.Sink.text l.sink) (g.S.Sink.faults l.sink) l.page.items)
    (rows_left false l.rows)
    (rows_left (nat_lt 0 l.i) (drop l.i l.rows))
