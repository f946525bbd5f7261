-- What a search owes to its table.
--     HasGraph t origin lists      the table is of this graph
--     HasMove seen n s u           the move from s to u stands in the history, as a relax after n moves to s
--     HasMoves t seen              each move of each reached number stands in it, with the number's least distance
use Rattle.std.specs.Prelude.{◌≡◌, ℕ, List, Some, slice_get}
use Rattle.graph_rules.specs.Graphs.{HasTarget, IsBest, moved}
use Rattle.dist_table.specs.declared.call.Call.{Call}
use Rattle.dist_table.specs.Histories.{relax_call}
use Rattle.dist_table.specs.Tables.{TableView}

abbrev pub HasGraph : TableView → ℕ → List (List ℕ) → Type 0
HasGraph t origin lists = (t.origin ≡ origin) × (t.lists ≡ lists)

abbrev pub HasMove : List Call → ℕ → ℕ → ℕ → Type 0
HasMove seen n s u =
    (i : ℕ) × (pass : ℕ) × (reply : ℕ) × (slice_get seen i ≡ Some (relax_call pass u (moved n s) reply))

abbrev pub HasMoves : TableView → List Call → Type 0
HasMoves t seen =
    (s n u : ℕ) → IsBest t.origin t.lists s n → HasTarget t.lists s u → HasMove seen n s u
