use Rattle.std.proofs.Common.{drop, flat_map}
use Rattle.pages.specs.Pages.{progress}
use Rattle.pages.proofs.PageSteps.{IsAdding}
use Rattle.brief_trial.specs.Trials.{with_brief}
use Rattle.brief_trial.specs.TrialTexts.{conflict_line}
use Rattle.brief_trial.proofs.writing.write_conflicts.Given as goal

-- the conflicts that are left are to be written
abbrev pub invariant-loop-row : goal.invariant-loop-row
invariant-loop-row g l =
    IsAdding (progress (g.S.Sink.text l.initial.sink) (g.S.Sink.faults l.initial.sink) l.initial.page.items)
    (progress (g.S.Sink.text l.sink) (g.S.Sink.faults l.sink) l.page.items)
    (flat_map (conflict_line (with_brief l.stack.outlines l.trial.brief)) l.rows)
    (flat_map (conflict_line (with_brief l.stack.outlines l.trial.brief)) (drop l.row-index l.rows))
