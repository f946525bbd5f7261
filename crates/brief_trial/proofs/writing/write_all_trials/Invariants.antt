use Rattle.std.proofs.Common.{drop}
use Rattle.pages.specs.Pages.{progress}
use Rattle.pages.proofs.PageSteps.{IsAdding}
use Rattle.brief_trial.specs.TrialTexts.{trials_text}
use Rattle.brief_trial.proofs.writing.write_all_trials.Given as goal

-- the trials that are left are to be written
abbrev pub invariant-loop-trial : goal.invariant-loop-trial
invariant-loop-trial g l =
    IsAdding (progress (g.S.Sink.text l.initial.sink) (g.S.Sink.faults l.initial.sink) l.initial.page.items)
    (progress (g.S.Sink.text l.sink) (g.S.Sink.faults l.sink) l.page.items)
    (trials_text l.stack.outlines l.trials)
    (trials_text l.stack.outlines (drop l.trial-index l.trials))
