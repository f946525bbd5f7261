use Rattle.graph_rules.proofs.RelaxedLemmas.{words_stand}
use Rattle.graph_rules.proofs.standing_words.Goals as goal

pub returns : goal.returns
returns c = words_stand
