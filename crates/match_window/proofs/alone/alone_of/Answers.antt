use Rattle.std.proofs.Common.{subst, arith, ◌≡◌, length}
use Rattle.steno_rules.specs.Nodes.{nodes}
use Rattle.match_window.specs.inside.Alone.{AreAloneBelow}
use Rattle.match_window.proofs.AloneLemmas.{alone_none, alone_more}
use Rattle.match_window.proofs.alone.alone_of.Goals as goal

pub loop-node-init : goal.loop-node-init
loop-node-init c = alone_none c.args.trie.now c.in_ok-alone.alone.items c.in_ok-alone.ensures.items

pub loop-node-preserved : goal.loop-node-preserved
loop-node-preserved c = alone_more c.args.trie.now c.loop-node.node c.loop-node.alone.items c.push.new.self.items c.suffix.result c.unwrap_or.result c.loop-node.invariant c.suffix.ensures c.unwrap_or.ensures c.in_ok-push.ensures.items

pub returns : goal.returns
returns c =
    let same : c.loop-node.node ≡ length (nodes c.args.trie.now) = omega (arith, c.loop-node-test.false, c.loop-node.auto.node-end, c.node_count-node-end.ensures.count) in
    subst (λ n. AreAloneBelow c.args.trie.now n c.loop-node.alone.items) same c.loop-node.invariant
