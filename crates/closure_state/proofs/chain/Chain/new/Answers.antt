use Rattle.outline_trie.specs.Tries.{node_strokes}
use Rattle.closure_state.proofs.ChainLemmas.{rest_after}
use Rattle.closure_state.proofs.chain.Chain.new.Goals as goal

pub returns-clause-chain : goal.returns-clause-chain
returns-clause-chain c =
    let entries = c.args.trie.now in record {
      mid = node_strokes entries c.row_of-second.result.1;
      first = rest_after entries c.args.depth (node_strokes entries c.args.node) (node_strokes entries c.with_children-first.result) (node_strokes entries c.row_of-second.result.1) 0 c.row_of-second.result.0.now c.with_children-first.ensures.alike c.row_of-second.ensures.rest;
      second = c.row_of-below.ensures.rest;
    }
