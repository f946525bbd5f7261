use Rattle.closure_state.proofs.RowLemmas.{by_last, by_none}
use Rattle.closure_state.proofs.step.child_by.Goals as goal

pub returns-in-Some : goal.returns-in-Some
returns-in-Some c = by_last c.args.trie.now c.args.node c.args.other c.in-Some.stroke c.child.result c.in-Some.ensures c.child.ensures

pub returns-in-None : goal.returns-in-None
returns-in-None c = λ x code ends. absurd (by_none c.args.trie.now c.args.other x code c.in-None.ensures ends)
