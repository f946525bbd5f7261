use Rattle.graph_rules.proofs.RelaxedLemmas.{relaxed_settled}
use Rattle.graph_rules.proofs.relaxed_words.Goals as goal

pub returns : goal.returns
returns c = relaxed_settled
