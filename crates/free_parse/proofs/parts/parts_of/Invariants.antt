use Rattle.std.proofs.Common.{◌≡◌}
use Rattle.free_parse.specs.inside.Parts.{starts_to, owners_to}
use Rattle.free_parse.proofs.parts.parts_of.Given as goal

abbrev pub invariant-loop-node : goal.invariant-loop-node
invariant-loop-node l = record {
  starts_are : l.starts.items ≡ starts_to l.trie l.node;
  owners_are : l.nodes.items ≡ owners_to l.trie l.node;
}
