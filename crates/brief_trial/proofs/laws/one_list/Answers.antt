use Rattle.brief_trial.proofs.TrialsOnce.{trials_once}
use Rattle.brief_trial.proofs.laws.one_list.Goals as goal

pub returns : goal.returns
returns c = trials_once
