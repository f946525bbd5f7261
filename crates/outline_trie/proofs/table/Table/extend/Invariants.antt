use Rattle.std.proofs.Common.{length, take, vec_capacity}
use Rattle.steno_rules.specs.Outlines.{outline_of}
use Rattle.steno_rules.specs.Nodes.{nodes}
use Rattle.outline_trie.specs.inside.Tables.{HasPlaces}
use Rattle.outline_trie.proofs.GrowLemmas.{grown}
use Rattle.outline_trie.proofs.ExtendLemmas.{IsExtending}
use Rattle.outline_trie.proofs.table.Table.extend.Given as goal

abbrev pub invariant-loop-place : goal.invariant-loop-place
invariant-loop-place l = record {
  so_far : IsExtending (take l.number l.entries) (nodes (grown l.entries l.number l.place)) (outline_of l.entries l.number) l.place l.self.parents.items l.self.strokes.items l.self.depths.items l.self.numbers.items l.node;
  places : HasPlaces (length (nodes l.entries)) (vec_capacity l.self.parents) (vec_capacity l.self.strokes) (vec_capacity l.self.depths) (vec_capacity l.self.numbers);
}
