-- Trials one after another.
--     IsTried entries words brief outcome           what comes of a brief: its trial, or why there is none
--     AddsTrials entries words briefs old new       the trials of these briefs came to the others
use Rattle.std.specs.Prelude.{ℕ, ◌≡◌, ◌++◌, List, All, None, Result, Ok, Err}
use Rattle.brief_trial.specs.Limits.{IsLimitOf, brief_limit, trial_limit}
use Rattle.brief_trial.specs.Trials.{AreTrials, IsSmallTrial, IsTrial, TrialView}
use Rattle.brief_trial.specs.declared.faults.TrialFault.{TrialFault}

-- the trial of a brief that passes no limit
pub record IsWholeTrial (entries words : List (List ℕ)) (brief : List ℕ) (trial : TrialView) : Type 0 where
  pub is : IsTrial entries words brief trial
  pub small : IsSmallTrial entries trial
  pub within : brief_limit entries brief ≡ None

abbrev pub IsTried : List (List ℕ) → List (List ℕ) → List ℕ → Result TrialView TrialFault → Type 0
IsTried entries words brief (Ok trial) = IsWholeTrial entries words brief trial
IsTried entries words brief (Err fault) = IsLimitOf (brief_limit entries brief) fault

pub record AddsTrials (entries words briefs : List (List ℕ)) (old new : List TrialView) : Type 0 where
  pub added : List TrialView
  pub all : new ≡ old ++ added
  pub are : AreTrials entries words briefs added
  pub small : All (IsSmallTrial entries) added
  pub within : trial_limit entries briefs ≡ None
