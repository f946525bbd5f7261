use Rattle.settled_laws.proofs.SettledLemmas.{Settled-hit, IsLeastSettled-hit, IsLeastSettled-number, least_of_conflict}
use Rattle.settled_laws.proofs.settled_pairs.Goals as goal

pub returns : goal.returns
returns c = record { pairs = Settled-hit; least = IsLeastSettled-hit; numbers = IsLeastSettled-number; conflicts = least_of_conflict }
