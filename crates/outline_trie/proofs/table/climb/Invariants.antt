use Rattle.std.proofs.Common.{◌≡◌, ◌-◌, ◌<◌, length}
use Rattle.outline_trie.specs.inside.Tables.{ancestor}
use Rattle.outline_trie.proofs.table.climb.Given as goal

abbrev pub invariant-loop : goal.invariant-loop
invariant-loop l = record { inside : l.node < length l.parents; is : l.node ≡ ancestor l.parents (length l.parents - 1) l.counter }
