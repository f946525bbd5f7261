use Rattle.std.proofs.Common.{length}
use Rattle.outline_trie.specs.Tries.{node_strokes}
use Rattle.closure_state.proofs.chain.+least.Given as goal

abbrev pub decreases-least : goal.decreases-least
decreases-least l = length (node_strokes l.trie.now l.end)
