use Rattle.conflict_example.proofs.Walks.{IsListing}
use Rattle.conflict_example.proofs.examples.walk_back.Given as goal

abbrev pub invariant-loop : goal.invariant-loop
invariant-loop l = IsListing l.words l.number l.distance l.counter l.at l.path.items
