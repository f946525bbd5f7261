use Rattle.settled_laws.proofs.ChosenOpenLemmas.{chosen_open_once, chosen_open_least}
use Rattle.settled_laws.proofs.chosen_open_hits.Goals as goal

pub returns : goal.returns
returns c = record { once = chosen_open_once; least = chosen_open_least }
