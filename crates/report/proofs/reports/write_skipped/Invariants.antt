use Rattle.std.proofs.Common.{◌≤◌, ◌+◌, drop, length}
use Rattle.report.specs.Reports.{skipped_from, skipped_text}
use Rattle.pages.specs.Pages.{progress}
use Rattle.pages.proofs.PageSteps.{IsAdding}
use Rattle.report.proofs.reports.write_skipped.Given as goal

-- the dictionaries that are left are to be written
abbrev pub invariant-loop-dictionary : goal.invariant-loop-dictionary
invariant-loop-dictionary g l = record {
  fits : l.dictionary ≤ length l.stack.skipped;
  adding : IsAdding (progress (g.S.Sink.text l.initial.sink) (g.S.Sink.faults l.initial.sink) l.initial.page.items)
      (progress (g.S.Sink.text l.sink) (g.S.Sink.faults l.sink) l.page.items)
      (skipped_text l.stack)
      (skipped_from (l.dictionary + 1) (drop l.dictionary l.stack.skipped));
}
