use Rattle.std.proofs.Common.{subst, sym, ap, Some, None}
use Rattle.outline_trie.specs.Tries.{node_strokes}
use Rattle.closure_state.specs.inside.Chains.{IsChainStep}
use Rattle.closure_state.specs.inside.Rows.{AreStateRowsBy, lists_all}
use Rattle.closure_state.proofs.RowsLemmas.{row_next, chain_next, chain_done}
use Rattle.closure_state.proofs.rows.Rows.next.Goals as goal

pub returns-in-Row : goal.returns-in-Row
returns-in-Row c = record {
  kind = sym (ap lists_all c.in-Row.is);
  step = λ words l.
      let row = subst (AreStateRowsBy c.args.trie.now words c.args.state c.args.bound) c.in-Row.is l.by in
      row_next c.args.trie.now words c.args.state c.args.bound c.next.result c.next.new.self l.are_words (c.next.ensures.step (node_strokes c.args.trie.now c.args.state.window) c.args.bound row);
}

pub returns-in-Some : goal.returns-in-Some
returns-in-Some c = record {
  kind = sym (ap lists_all c.in-Chain.is);
  step = λ words l.
      let x = node_strokes c.args.trie.now c.args.state.window in
      let chain = subst (AreStateRowsBy c.args.trie.now words c.args.state c.args.bound) c.in-Chain.is l.by in
      let step : IsChainStep c.args.trie.now x c.args.bound (Some (c.in-Some.code, c.in-Some.window)) c.next-in-Chain.new.self =
      subst (λ o. IsChainStep c.args.trie.now x c.args.bound o c.next-in-Chain.new.self) c.in-Some.is (c.next-in-Chain.ensures.step x chain.chain_is) in
      chain_next c.args.trie.now words c.args.state c.args.bound c.in-Some.code c.in-Some.window c.word_by.result c.in-Chain.chain c.next-in-Chain.new.self l.are_words chain step c.next-in-Chain.ensures.below c.next-in-Chain.ensures.depth c.word_by.ensures;
}

pub returns-in-None : goal.returns-in-None
returns-in-None c = record {
  kind = sym (ap lists_all c.in-Chain.is);
  step = λ words l.
      let x = node_strokes c.args.trie.now c.args.state.window in
      let chain = subst (AreStateRowsBy c.args.trie.now words c.args.state c.args.bound) c.in-Chain.is l.by in
      let step : IsChainStep c.args.trie.now x c.args.bound None c.next-in-Chain.new.self =
      subst (λ o. IsChainStep c.args.trie.now x c.args.bound o c.next-in-Chain.new.self) c.in-None.is (c.next-in-Chain.ensures.step x chain.chain_is) in
      chain_done c.args.trie.now words c.args.state c.args.bound c.in-Chain.chain c.next-in-Chain.new.self l.are_words chain step c.next-in-Chain.ensures.below c.next-in-Chain.ensures.depth;
}
