use Rattle.std.proofs.Common.{ℕ, List, drop, length}
use Rattle.std.specs.List.{AllZip}
use Rattle.brief_trial.specs.inside.Adding.{IsTried}
use Rattle.brief_trial.proofs.Adding.{IsAdding}
use Rattle.brief_trial.proofs.briefs.push_tried.Given as goal

-- the trials so far were added
abbrev pub invariant-loop-trial : goal.invariant-loop-trial
invariant-loop-trial l =
    (entries words group : List (List ℕ)) → AllZip (IsTried entries words) group l.fn.tried.items
    → IsAdding entries words group l.fn.trials.items l.trials.items (drop (length l.yielded) l.fn.tried.items)
