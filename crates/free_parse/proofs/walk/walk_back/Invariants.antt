use Rattle.free_parse.proofs.WalkLemmas.{IsBack}
use Rattle.free_parse.proofs.walk.walk_back.Given as goal

abbrev pub invariant-loop : goal.invariant-loop
invariant-loop l = IsBack l.graph l.table l.number l.distance l.counter l.at l.path.items
