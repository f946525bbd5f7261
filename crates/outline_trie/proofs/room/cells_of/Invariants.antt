use Rattle.std.proofs.Common.{◌≡◌}
use Rattle.outline_trie.specs.inside.Rooms.{weight}
use Rattle.outline_trie.proofs.room.cells_of.Given as goal

abbrev pub invariant-loop-class : goal.invariant-loop-class
invariant-loop-class l = l.cells ≡ weight l.kinds l.class
