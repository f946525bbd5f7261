-- The rows of the conflicts before a pair, in the order of the pairs.
--     IsFoundRow entries words table row                        the row of a conflict, with its chosen example
--     AreRowsBetween entries words table from e place rows      the rows of all conflicts of entries from `from` on before the
--                                                               pair of e and the place
use Rattle.std.specs.Prelude.{ℕ, ◌≡◌, ◌<◌, ◌≤◌, ◌⊎◌, List, All, AllPairs, length}
use Rattle.steno_rules.specs.Conflicts.{Conflict}
use Rattle.longest_match.specs.Rows.{HasRow, IsBefore, IsShortest, IsSmall, Row}
use Rattle.conflict_example.specs.Chosen.{IsChosenRow}
use Rattle.pair_slots.specs.Slots.{slot_of}

pub record IsFoundRow (entries words : List (List ℕ)) (table : List ℕ) (row : Row) : Type 0 where
  pub shortest : IsShortest entries words row
  pub chosen : IsChosenRow entries words table row
  pub small : IsSmall entries row

-- the pair of f and other comes before that of e and the place
abbrev pub IsPairBefore : ℕ → ℕ → ℕ → ℕ → Type 0
IsPairBefore e place f other = (f < e) ⊎ ((f ≡ e) × (other < place))

-- the rows are those of all conflicts of the entries from `from` on before that pair
pub record AreRowsBetween (entries words : List (List ℕ)) (table : List ℕ) (from e place : ℕ)
    (rows : List Row) : Type 0 where
  pub each : All (IsFoundRow entries words table) rows
  pub since : All (λ row. from ≤ row.entry) rows
  pub before : All (λ row. IsPairBefore e place row.entry row.place) rows
  pub all : (f other : ℕ) → from ≤ f → IsPairBefore e place f other
      → Conflict entries words f other → HasRow rows f other
  pub in_order : AllPairs IsBefore rows
  pub few : length rows ≤ slot_of entries e place
