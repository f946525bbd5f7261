use Rattle.closure_laws.proofs.StateNumberLemmas.{turned}
use Rattle.outline_trie.specs.Tries.{node_strokes}
use Rattle.closure_state.proofs.state.is_end.Goals as goal

pub returns-else-depth : goal.returns-else-depth
returns-else-depth c =
    let both = c.ends_with-else-depth.ensures in
    (λ t. turned (node_strokes c.args.trie.now c.args.word) (node_strokes c.args.trie.now c.args.window) (both.0 t), λ e. both.1 (turned (node_strokes c.args.trie.now c.args.window) (node_strokes c.args.trie.now c.args.word) e))
