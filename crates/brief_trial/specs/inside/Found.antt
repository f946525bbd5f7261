-- What one search finds of an entry.
--     AreEntryRows entries words entry rows     the rows are exactly its conflicts, each with its chosen example
use Rattle.std.specs.Prelude.{ℕ, List}
use Rattle.graph_rules.specs.Graphs.{AreSettled}
use Rattle.steno_rules.specs.ClosureGraphs.{kept_lists}
use Rattle.longest_match.specs.Rows.{Row}
use Rattle.conflict_example.specs.Chosen.{AreChosen}
use Rattle.conflict_example.specs.EntryConflicts.{AreConflictsOf}

pub record AreEntryRows (entries words : List (List ℕ)) (entry : ℕ) (rows : List Row) : Type 0 where
  pub exact : AreConflictsOf entries words entry rows
  pub table : List ℕ
  pub settled : AreSettled 0 (kept_lists entries words) table
  pub chosen : AreChosen entries words table rows
