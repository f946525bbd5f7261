use Rattle.outline_trie.proofs.LookLemmas.{entry_none, entry_some}
use Rattle.outline_trie.proofs.trie.Trie.entry.Goals as goal

pub returns-then-number : goal.returns-then-number
returns-then-number c = entry_none _ _ _ _ _ _ _ _ c.self.invariant c.self.view_is c.args.node c.requires c.index-number.result.now c.index-number.ensures c.if-number.true

pub returns-else-number : goal.returns-else-number
returns-else-number c = entry_some _ _ _ _ _ _ _ _ c.self.invariant c.self.view_is c.args.node c.requires c.index-number.result.now c.index-number.ensures c.if-number.false
