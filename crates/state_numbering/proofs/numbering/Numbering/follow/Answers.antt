use Rattle.std.proofs.Common.{◌≡◌, ap, subst, ◌∙◌}
use Rattle.outline_trie.specs.Tries.{IsLast, child_of, suffix_of}
use Rattle.state_numbering.specs.Numberings.{NumberingView}
use Rattle.state_numbering.proofs.FollowLemmas.{follow_alone, follow_child, follow_none}
use Rattle.state_numbering.proofs.numbering.Numbering.follow.Goals as goal

pub returns-then-node-eq0 : goal.returns-then-node-eq0
returns-then-node-eq0 c =
    let same = ap (λ (v : NumberingView). v.entries) c.self.view_is in
    let end = c.longer_node-end.result in
    subst (λ es. c.alone.result ≡ suffix_of es end 1) (c.self.invariant.windows_are ∙ same) c.alone.ensures
    ∙ follow_alone c.args.self.now.entries c.args.node end c.in-Some.stroke c.args.state c.if-node-eq0.true c.longer_node-end.ensures.longer
    (subst (λ es. IsLast es end c.in-Some.stroke) same c.in-Some.ensures)

pub returns-else-node-eq0 : goal.returns-else-node-eq0
returns-else-node-eq0 c =
    let same = ap (λ (v : NumberingView). v.entries) c.self.view_is in
    let end = c.longer_node-end.result in
    subst (λ es. c.child.result ≡ child_of es c.args.node c.in-Some.stroke) same c.child.ensures
    ∙ follow_child c.args.self.now.entries c.args.node end c.in-Some.stroke c.args.state c.longer_node-end.ensures.longer
    (subst (λ es. IsLast es end c.in-Some.stroke) same c.in-Some.ensures)

pub returns-in-None : goal.returns-in-None
returns-in-None c =
    follow_none c.args.self.now.entries c.args.node c.longer_node-end.result c.args.state c.requires.node c.longer_node-end.ensures.longer c.in-None.ensures
