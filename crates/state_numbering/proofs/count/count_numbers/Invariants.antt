use Rattle.std.proofs.Common.{◌≡◌, ◌≤◌, ◌*◌}
use Rattle.steno_rules.specs.Nodes.{nodes}
use Rattle.steno_rules.specs.StateNumbers.{part_start}
use Rattle.state_numbering.proofs.count.count_numbers.Given as goal

abbrev pub invariant-loop-node : goal.invariant-loop-node
invariant-loop-node l = record {
  counted : l.count ≡ part_start (nodes l.trie) l.node;
  fits : l.count ≤ l.node * 2209;
}
