use Rattle.outline_trie.proofs.RoomLemmas.{AreKinds}
use Rattle.outline_trie.proofs.room.kinds_of.Given as goal

abbrev pub invariant-loop-count : goal.invariant-loop-count
invariant-loop-count l = AreKinds l.counts l.kinds l.count-index
