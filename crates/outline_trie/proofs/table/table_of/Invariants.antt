use Rattle.std.proofs.Common.{length, take, vec_capacity}
use Rattle.steno_rules.specs.Nodes.{nodes}
use Rattle.outline_trie.specs.inside.Tables.{IsTable, IsNumbered, HasPlaces}
use Rattle.outline_trie.proofs.table.table_of.Given as goal

abbrev pub invariant-loop-number : goal.invariant-loop-number
invariant-loop-number l = record {
  table : IsTable (nodes (take l.number l.entries)) l.table.parents.items l.table.strokes.items l.table.depths.items;
  numbers : IsNumbered (take l.number l.entries) (nodes (take l.number l.entries)) l.table.numbers.items;
  places : HasPlaces (length (nodes l.entries)) (vec_capacity l.table.parents) (vec_capacity l.table.strokes) (vec_capacity l.table.depths) (vec_capacity l.table.numbers);
}
