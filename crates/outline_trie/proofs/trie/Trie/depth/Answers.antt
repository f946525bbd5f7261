use Rattle.std.proofs.Common.{arith}
use Rattle.outline_trie.proofs.LookLemmas.{depth_short}
use Rattle.outline_trie.proofs.trie.Trie.depth.Goals as goal

pub returns-clause-short : goal.returns-clause-short
returns-clause-short c =
    let short = depth_short _ _ _ _ _ _ _ _ c.self.invariant c.self.view_is c.args.node c.requires c.index.result.now c.index.ensures in
    omega (arith, short, c.from.ensures)
