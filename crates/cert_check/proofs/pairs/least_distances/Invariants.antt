use Rattle.std.proofs.Common.{◌≡◌, take, length}
use Rattle.pair_slots.specs.Slots.{first_slot}
use Rattle.cert_check.specs.inside.LeastDistances.{AreLeast, ForClosures}
use Rattle.cert_check.specs.inside.Places.{states_at}
use Rattle.cert_check.proofs.pairs.least_distances.Given as goal

-- the places so far are noted
abbrev pub invariant-loop-state : goal.invariant-loop-state
invariant-loop-state l = record {
  count : length l.slots.items ≡ first_slot l.numbering.entries (length l.numbering.entries);
  least : ForClosures l.numbering (λ closure. AreLeast closure (states_at (take l.state l.places)) l.slots.items);
}
