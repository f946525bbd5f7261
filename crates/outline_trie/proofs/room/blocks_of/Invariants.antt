use Rattle.std.proofs.Common.{◌≡◌, ◌≤◌, take}
use Rattle.outline_trie.specs.inside.Rooms.{rows_in}
use Rattle.outline_trie.proofs.room.blocks_of.Given as goal

abbrev pub invariant-loop-count : goal.invariant-loop-count
invariant-loop-count l = record { few : l.blocks ≤ l.count-index; are : l.blocks ≡ rows_in (take l.count-index l.counts) }
