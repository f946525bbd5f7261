use Rattle.std.proofs.Common.{length}
use Rattle.conflict_example.specs.Chosen.{words_in_stack}
use Rattle.brief_trial.proofs.Adding.{IsPassed}
use Rattle.brief_trial.proofs.briefs.try_briefs.Given as goal

-- the briefs so far have their trials
abbrev pub invariant-loop-rest : goal.invariant-loop-rest
invariant-loop-rest g l = IsPassed l.stack.outlines (words_in_stack l.stack) l.briefs l.rest l.trials.items

abbrev pub decreases-loop-rest : goal.decreases-loop-rest
decreases-loop-rest g l = length l.rest
