use Rattle.graph_rules.proofs.Distances.{best_below}
use Rattle.graph_rules.proofs.least_distances.Goals as goal

pub returns : goal.returns
returns c = best_below
