-- What two readings are made from.
use Rattle.std.specs.Prelude.{ℕ, ◌≤◌, List}
use Rattle.graph_rules.specs.Graphs.{AreSettled, IsBest, most_numbers}
use Rattle.steno_rules.specs.Outlines.{AreWords}
use Rattle.reading_laws.specs.ForkNumbers.{fork_count, fork_lists}
use Rattle.free_parse.specs.FreeGraphs.{FreeGraphView}

-- the table has the settled words of the graph, and a shortest walk of n moves leads to the number
pub record IsShortestWalkTo (g : FreeGraphView) (table : List ℕ) (number n : ℕ) : Type 0 where
  pub are_words : AreWords g.entries g.words
  pub few : fork_count g.entries ≤ most_numbers
  pub settled : AreSettled 0 (fork_lists g.entries g.words) table
  pub best : IsBest 0 (fork_lists g.entries g.words) number n
