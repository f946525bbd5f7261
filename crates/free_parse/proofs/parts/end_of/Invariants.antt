use Rattle.std.proofs.Common.{◌≡◌, ◌≤◌, ◌*◌}
use Rattle.steno_rules.specs.Nodes.{nodes}
use Rattle.reading_laws.specs.ForkNumbers.{fork_start}
use Rattle.free_parse.proofs.parts.end_of.Given as goal

abbrev pub invariant-loop-node : goal.invariant-loop-node
invariant-loop-node l = record {
  begins : l.count ≡ fork_start (nodes l.trie) l.node;
  few : l.count ≤ 65 * l.node;
}
