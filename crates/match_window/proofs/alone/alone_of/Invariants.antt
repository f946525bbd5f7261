use Rattle.match_window.specs.inside.Alone.{AreAloneBelow}
use Rattle.match_window.proofs.alone.alone_of.Given as goal

abbrev pub invariant-loop-node : goal.invariant-loop-node
invariant-loop-node l = AreAloneBelow l.trie l.node l.alone.items
