use Rattle.settled_laws.proofs.ChosenOpenLemmas.{finished_words, finished_stays}
use Rattle.settled_laws.proofs.finished_examples.Goals as goal

pub returns : goal.returns
returns c = record { words = finished_words; stays = finished_stays }
