use Rattle.std.proofs.Common.{◌≡◌, ◌+◌, drop}
use Rattle.outline_trie.specs.inside.Tables.{shared}
use Rattle.outline_trie.proofs.shared.shared_len.Given as goal

abbrev pub invariant-loop-place : goal.invariant-loop-place
invariant-loop-place l = shared l.left l.right ≡ l.place + shared (drop l.place l.left) (drop l.place l.right)
