use Rattle.std.proofs.Common.{◌≡◌}
use Rattle.steno_rules.specs.Nodes.{nodes}
use Rattle.steno_rules.specs.StateNumbers.{part_start}
use Rattle.state_numbering.specs.inside.Parts.{ArePartsBelow}
use Rattle.state_numbering.proofs.part.parts_of.Given as goal

abbrev pub invariant-loop-node : goal.invariant-loop-node
invariant-loop-node l = record {
  begins : l.start ≡ part_start (nodes l.trie) l.node;
  parts : ArePartsBelow l.trie l.node l.parts.items;
}
