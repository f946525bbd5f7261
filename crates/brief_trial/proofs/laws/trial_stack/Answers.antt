use Rattle.brief_trial.proofs.TrialStacks.{with_members, with_rising}
use Rattle.brief_trial.proofs.laws.trial_stack.Goals as goal

pub returns : goal.returns
returns c = record { rising = with_rising; members = with_members }
