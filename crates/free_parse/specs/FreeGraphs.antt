-- A graph of forks as its callers see it.
use Rattle.std.specs.Prelude.{ℕ, List}
use Rattle.steno_rules.specs.WordSets.{WordFlags, words_in}

-- the entries that it is about, and the words among them
pub record FreeGraphView : Type 0 where
  pub entries : List (List ℕ)
  pub words : List (List ℕ)

-- that over these entries and the words of these flags
abbrev pub free_graph_of : List (List ℕ) → WordFlags → FreeGraphView
free_graph_of entries set = record { entries = entries; words = words_in entries set }
