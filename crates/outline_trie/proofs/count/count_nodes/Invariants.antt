use Rattle.std.proofs.Common.{◌≡◌, ◌+◌, ◌*◌, ◌≤◌, length, take}
use Rattle.steno_rules.specs.Nodes.{nodes}
use Rattle.outline_trie.proofs.count.count_nodes.Given as goal

abbrev pub invariant-loop-number : goal.invariant-loop-number
invariant-loop-number l = record { is : l.count ≡ length (nodes (take l.number l.entries)); bound : l.count ≤ 1 + 64 * l.number }
