use Rattle.closure_state.proofs.ChainLemmas.{least_root}
use Rattle.closure_state.proofs.chain.least_below.Goals as goal

pub returns-then-end-eq0 : goal.returns-then-end-eq0
returns-then-end-eq0 c = λ code from. least_root c.args.trie.now c.args.depth c.args.end c.args.bound c.requires.some c.if-end-eq0.true code from
