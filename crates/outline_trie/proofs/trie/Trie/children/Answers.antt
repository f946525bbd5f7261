use Rattle.outline_trie.proofs.LookLemmas.{row_children}
use Rattle.outline_trie.proofs.trie.Trie.children.Goals as goal

pub returns : goal.returns
returns c = row_children _ _ _ _ _ _ _ _ c.self.invariant c.self.view_is c.args.node c.requires c.row.result.now c.row.ensures
