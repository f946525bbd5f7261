use Rattle.reading_laws.proofs.ForkLemmas.{IsFree-end, IsLeastTwo-end}
use Rattle.reading_laws.proofs.fork_walks.Goals as goal

pub returns : goal.returns
returns c = record { free = IsFree-end; least = IsLeastTwo-end }
