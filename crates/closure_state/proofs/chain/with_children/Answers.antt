use Rattle.std.proofs.Common.{arith}
use Rattle.closure_state.proofs.ChainLemmas.{alike_passed, alike_end, end_of, end_fewer}
use Rattle.closure_state.proofs.chain.with_children.Goals as goal

pub loop-end-smaller : goal.loop-end-smaller
loop-end-smaller c =
    end_fewer c.args.trie.now c.loop-end.end c.shorter_end-end.result (end_of c.args.windows.now c.args.trie.now c.loop-end.end c.shorter_end-end.result c.requires.windows c.loop-end.invariant.inside c.loop-end-test.true c.shorter_end-end.ensures.node c.shorter_end-end.ensures.end)

pub loop-end-preserved : goal.loop-end-preserved
loop-end-preserved c =
    let e = end_of c.args.windows.now c.args.trie.now c.loop-end.end c.shorter_end-end.result c.requires.windows c.loop-end.invariant.inside c.loop-end-test.true c.shorter_end-end.ensures.node c.shorter_end-end.ensures.end in record {
      inside = e.inside;
      alike = λ code. alike_passed c.args.trie.now c.args.depth c.args.node c.loop-end.end c.shorter_end-end.result code c.children.result.now (c.loop-end.invariant.alike code) c.children.ensures c.if-not-is_empty.ensures e;
    }

pub returns-else-depth-clause-alike : goal.returns-else-depth-clause-alike
returns-else-depth-clause-alike c = λ code. alike_end c.args.trie.now c.args.depth c.args.node c.loop-end.end code c.requires.some (c.loop-end.invariant.alike code) (omega (arith, c.depth.ensures.depth, c.if-depth.false))
