use Rattle.std.proofs.Common.{drop, flat_map}
use Rattle.report.specs.Reports.{skipped_line}
use Rattle.pages.specs.Pages.{progress}
use Rattle.pages.proofs.PageSteps.{IsAdding}
use Rattle.report.proofs.reports.write_keys.Given as goal

-- the keys that are left are to be written
abbrev pub invariant-loop-key : goal.invariant-loop-key
invariant-loop-key g l =
    IsAdding (progress (g.S.Sink.text l.initial.sink) (g.S.Sink.faults l.initial.sink) l.initial.page.items)
    (progress (g.S.Sink.text l.sink) (g.S.Sink.faults l.sink) l.page.items)
    (flat_map (skipped_line l.number) l.keys)
    (flat_map (skipped_line l.number) (drop l.key-index l.keys))
