-- Which moves stand in a history, and which numbers were noted.
use Rattle.std.specs.Prelude.{◌≡◌, ℕ, ◌*◌, ◌<◌, ◌≤◌, ◌⊎◌, true, List, length, Some, slice_get, take, drop}
use mathlib.Core.List.{IsPrefix}
use Rattle.graph_rules.specs.Graphs.{HasTarget, Stands, moved}
use Rattle.round_core.specs.Rounds.{Has}
use Rattle.dist_table.specs.declared.call.Call.{Call}
use Rattle.dist_table.specs.Histories.{call}
use Rattle.dist_table.specs.Tables.{TableView, PassView, IsSamePass}
use Rattle.dist_table.specs.Histories.{IsLegal}

-- the move from s to u, after k moves, stands in the history, and u was noted or its word was less already
abbrev pub Relaxed : TableView → ℕ → List Call → List ℕ → ℕ → ℕ → Type 0
Relaxed t k seen notes s u =
    (i : ℕ) × (n : ℕ) × (reply : ℕ) × (slice_get seen i ≡ Some (call n true u (moved k s) reply))
    × Stands t.origin t.lists u reply
    × ((reply < moved k s) ⊎ Has notes u)

-- each target is a number of the graph
abbrev pub HasInside : TableView → Type 0
HasInside t = (s u : ℕ) → HasTarget t.lists s u → u < length t.lists

-- each move of s was made
abbrev pub Spread : TableView → ℕ → List Call → List ℕ → ℕ → Type 0
Spread t k seen notes s = (u : ℕ) → HasTarget t.lists s u → Relaxed t k seen notes s u

-- the states of a batch
abbrev pub batch_states_of : List ℕ → ℕ → List ℕ
batch_states_of frontier b = take 64 (drop (64 * b) frontier)

-- each move of each state was made
abbrev pub Worked : TableView → ℕ → List Call → List ℕ → List ℕ → Type 0
Worked t k seen notes states = (i s : ℕ) → slice_get states i ≡ Some s → Spread t k seen notes s

-- the move from s to u was made after the first of the two histories, and no word of u was less
abbrev pub FoundBy : TableView → ℕ → List Call → List Call → ℕ → ℕ → Type 0
FoundBy t k old now s u =
    HasTarget t.lists s u
    × ((i : ℕ) × (n : ℕ) × (reply : ℕ)
    × (length old ≤ i)
    × (slice_get now i ≡ Some (call n true u (moved k s) reply))
    × (moved k s ≤ reply))

-- the same by one of the states
abbrev pub Found : TableView → ℕ → List ℕ → List Call → List Call → ℕ → Type 0
Found t k states old now u = (s : ℕ) × Has states s × FoundBy t k old now s u

-- what was noted more was found
abbrev pub AddsFound : TableView → ℕ → List ℕ → List Call → List Call → List ℕ → List ℕ → Type 0
AddsFound t k states old now before after =
    (u : ℕ) → Has after u → Has before u ⊎ Found t k states old now u

-- a pass of the table, whose history is legal
abbrev pub IsLegalPass : TableView → PassView → Type 0
IsLegalPass t p = (p.table ≡ t) × IsLegal t.origin t.lists p.seen

-- the pass is the table's still, has seen no less, and its history is legal
abbrev pub IsLaterPass : TableView → PassView → PassView → Type 0
IsLaterPass t p q = (q.table ≡ t) × IsSamePass p q × IsPrefix p.seen q.seen × IsLegal t.origin t.lists q.seen
