-- A conflict has fewer strokes than there are numbers of states, so a row of 2^26 strokes shows none.
use Rattle.std.proofs.Common.{ℕ, ◌<◌, List, arith}
use Rattle.graph_rules.proofs.Distances.{best_below}
use Rattle.steno_rules.specs.Outlines.{AreWords}
use Rattle.steno_rules.specs.Conflicts.{IsLeast}
use Rattle.steno_rules.specs.States.{IsLeastHit, kept_targets}
use Rattle.steno_rules.specs.StateNumbers.{number_count, state_number}
use Rattle.steno_rules.specs.ClosureGraphs.{kept_lists}
use Rattle.closure_laws.proofs.ConflictLemmas.{IsLeast-hit}
use Rattle.closure_laws.proofs.HitNumberLemmas.{best_of_walks}
use Rattle.closure_laws.proofs.StateLemmas.{IsState-Walk}
use Rattle.closure_laws.proofs.StateNumberLemmas.{shaped-below, shape_of_state}
use Rattle.closure_laws.proofs.GraphLemmas.{length-lists}

-- The fewest strokes of a conflict are fewer than the numbers of states.
pub least_below : (entries words : List (List ℕ)) (e place n : ℕ) → AreWords entries words → IsLeast entries words e place n → n < number_count entries
least_below entries words e place n are is =
    let hit : IsLeastHit entries words e place n = (IsLeast-hit entries words e place n are).0 is in
    let best = best_of_walks entries words hit.state n are hit.walk (λ k walk. hit.least k hit.state walk hit.hit) in
    let state = IsState-Walk entries words n hit.state hit.walk in
    let below = shaped-below entries hit.state (shape_of_state entries words hit.state are state) in
    let long = length-lists entries words (kept_targets entries words) in
    let less = best_below 0 (kept_lists entries words) (state_number entries hit.state) n (omega (arith, below, long)) best in
    omega (arith, less, long)
