use Rattle.std.proofs.Common.{◌≤◌, ◌-◌, length}
use Rattle.steal_rounds.specs.inside.Moves.{IsLaterPass}
use Rattle.steal_rounds.specs.inside.Fronts.{IsBeforeRound, IsCounted}
use Rattle.steal_rounds.proofs.searches.search_on.Given as goal

abbrev pub invariant-search : goal.invariant-search
invariant-search g l = record {
  goes : IsLaterPass l.table l.initial.pass l.pass;
  ready : IsBeforeRound l.table l.rounds l.frontier.items l.pass.seen;
  counted : IsCounted l.table l.rounds l.relaxed;
  below : l.rounds ≤ length l.table.lists;
}

abbrev pub decreases-search : goal.decreases-search
decreases-search g l = length l.table.lists - l.rounds
