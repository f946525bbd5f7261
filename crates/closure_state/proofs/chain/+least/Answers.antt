use Rattle.std.proofs.Common.{◌≡◌, length, subst, sym, arith}
use Rattle.outline_trie.specs.Tries.{node_strokes}
use Rattle.closure_state.specs.inside.Chains.{IsLeastStroke}
use Rattle.closure_state.proofs.ChainLemmas.{least_none, least_root, least_at, end_of, end_fewer}
use Rattle.closure_state.proofs.chain.+least.Goals.{then-end-eq0-via-then-end-eq0, then-end-eq0-via-else-end-eq0+then-depth}
use Rattle.closure_state.proofs.chain.+least.Goals as goal

pub returns-then-end-eq0 : goal.returns-then-end-eq0
returns-then-end-eq0 t c = elim c.then-end-eq0.branch [
  | then-end-eq0-via-then-end-eq0 w ↦ λ code from. least_root c.args.trie.now c.args.depth c.args.end c.args.bound c.requires.some w.if-end-eq0.true code from
  | then-end-eq0-via-else-end-eq0+then-depth w ↦ λ code from. least_none c.args.trie.now c.args.depth c.args.end c.args.bound c.requires.some (omega (arith, w.depth.ensures.depth, w.if-depth.true)) code from
]

pub least-found-requires : goal.least-found-requires
least-found-requires t c =
    let e = end_of c.args.windows.now c.args.trie.now c.args.end c.shorter_end.result c.requires.windows c.requires.node c.if-end-eq0.false c.shorter_end.ensures.node c.shorter_end.ensures.end in
    let measure : length (node_strokes c.args.trie.now c.args.end) ≡ t = c.decreases in
    (omega (arith, end_fewer c.args.trie.now c.args.end c.shorter_end.result e, measure), (c.requires.windows, (e.inside, c.requires.some)))

pub returns : goal.returns
returns t c =
    let e = end_of c.args.windows.now c.args.trie.now c.args.end c.shorter_end.result c.requires.windows c.requires.node c.if-end-eq0.false c.shorter_end.ensures.node c.shorter_end.ensures.end in
    subst (IsLeastStroke c.args.trie.now c.args.depth (node_strokes c.args.trie.now c.args.end) c.args.bound) (sym c.lesser.ensures)
    (least_at c.args.trie.now c.args.depth c.args.end c.shorter_end.result c.args.bound c.from_bound.result.now c.least-found.result e (omega (arith, c.depth.ensures.depth, c.if-depth.false))
    (c.from_bound.ensures c.args.trie.now c.args.end c.children.ensures) c.least-found.ensures)
