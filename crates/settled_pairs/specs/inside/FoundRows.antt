-- The rows of the pairs that stay before a pair, in the order of the pairs.
--     IsFoundPair entries words table row                   the row of a pair that stays, with its chosen example
--     AreRowsBefore entries words table e place rows       the rows of all pairs that stay before that of e and the place
use Rattle.std.specs.Prelude.{ℕ, ◌≤◌, List, All, AllPairs, length}
use Rattle.longest_match.specs.Rows.{HasRow, IsBefore, IsSmall, Row}
use Rattle.pair_slots.specs.Slots.{slot_of}
use Rattle.conflict_example.specs.inside.FoundRows.{IsPairBefore}
use Rattle.settled_laws.specs.SettledPairs.{SettledPair}
use Rattle.settled_pairs.specs.SettledRows.{IsChosenPair, IsShortestSettled}

pub record IsFoundPair (entries words : List (List ℕ)) (table : List ℕ) (row : Row) : Type 0 where
  pub shortest : IsShortestSettled entries words row
  pub chosen : IsChosenPair entries words table row
  pub small : IsSmall entries row

pub record AreRowsBefore (entries words : List (List ℕ)) (table : List ℕ) (e place : ℕ)
    (rows : List Row) : Type 0 where
  pub each : All (IsFoundPair entries words table) rows
  pub before : All (λ row. IsPairBefore e place row.entry row.place) rows
  pub all : (f other : ℕ) → IsPairBefore e place f other → SettledPair entries words f other
      → HasRow rows f other
  pub in_order : AllPairs IsBefore rows
  pub few : length rows ≤ slot_of entries e place
