-- The conflicts of one entry alone.
--     AreConflictsOf entries words entry rows     the rows are exactly its conflicts
use Rattle.std.specs.Prelude.{ℕ, ◌≡◌, ◌<◌, List, All, AllPairs}
use Rattle.steno_rules.specs.Conflicts.{Conflict}
use Rattle.longest_match.specs.Rows.{HasRow, IsShortest, Row}

-- the rows are exactly the conflicts of the entry: each of them, by rising place and once, with a shortest sequence of words
-- that shows it
pub record AreConflictsOf (entries words : List (List ℕ)) (entry : ℕ) (rows : List Row) : Type 0 where
  pub each : All (IsShortest entries words) rows
  pub of_entry : All (λ row. row.entry ≡ entry) rows
  pub all : (place : ℕ) → Conflict entries words entry place → HasRow rows entry place
  pub in_order : AllPairs (λ a b. a.place < b.place) rows
