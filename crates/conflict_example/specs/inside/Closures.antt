-- What the conflicts are found from.
--     IsClosure v table              the settled words of a numbering
--     IsWalkEnd table number n       a shortest walk of n moves ends at the number
use Rattle.std.specs.Prelude.{ℕ, ◌<◌, ◌≤◌, List, length}
use Rattle.graph_rules.specs.Graphs.{AreSettled, IsBest}
use Rattle.steno_rules.specs.ClosureGraphs.{kept_lists}
use Rattle.steno_rules.specs.Outlines.{AreEntries, AreWords}
use Rattle.steno_rules.specs.StateNumbers.{number_count}
use Rattle.state_numbering.specs.Causes.{most_states}
use Rattle.state_numbering.specs.Numberings.{NumberingView}

-- the words of the numbering are those of its entries, few enough, and the table has the settled words of its graph
pub record IsClosure (v : NumberingView) (table : List ℕ) : Type 0 where
  pub are_entries : AreEntries v.entries
  pub are_words : AreWords v.entries v.words
  pub few : number_count v.entries ≤ most_states
  pub settled : AreSettled 0 (kept_lists v.entries v.words) table

pub record IsWalkEnd (table : List ℕ) (number n : ℕ) : Type 0 where
  pub lists : List (List ℕ)
  pub few : length lists ≤ most_states
  pub settled : AreSettled 0 lists table
  pub below : number < length table
  pub best : IsBest 0 lists number n
