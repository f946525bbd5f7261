-- What the fields of a trie have in common.
use Rattle.std.specs.Prelude.{ℕ, ◌≡◌, ◌<◌, ◌≤◌, ◌^◌, List, [], length, get_or}
use Rattle.steno_rules.specs.Outlines.{AreEntries}
use Rattle.steno_rules.specs.Nodes.{nodes}
use Rattle.outline_trie.specs.inside.Tables.{IsTable, IsNumbered}
use Rattle.outline_trie.specs.Tries.{AreChildren, longest_of, most_nodes}

pub record IsTrie (entries : List (List ℕ)) (parents strokes depths numbers : List ℕ) (rows : List (List (ℕ × ℕ))) (longest : ℕ) : Type 0 where
  pub are_entries : AreEntries entries
  pub few : length entries < 2 ^ 31
  pub bound : length (nodes entries) ≤ most_nodes
  pub table : IsTable (nodes entries) parents strokes depths
  pub numbered : IsNumbered entries (nodes entries) numbers
  pub rows_long : length rows ≡ length (nodes entries)
  pub children : (node : ℕ) → node < length (nodes entries) → AreChildren entries node (get_or rows node [])
  pub most : longest ≡ longest_of entries
  pub short : longest ≤ 64
