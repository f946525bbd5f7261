use Rattle.std.proofs.Common.{◌≡◌, ◌≤◌, reverse, take}
use Rattle.outline_trie.specs.Tries.{longest_of}
use Rattle.outline_trie.proofs.count.longest_and_history.Given as goal

abbrev pub invariant-loop-outline : goal.invariant-loop-outline
invariant-loop-outline l = record { longest : l.longest ≡ longest_of (take l.outline-index l.entries); short : l.longest ≤ 64; history : l.history.items ≡ reverse (take l.outline-index l.entries) }
