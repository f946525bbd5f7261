use Rattle.std.proofs.Common.{◌≡◌, Some, slice_get, sym, ap, subst, ◌∙◌, arith}
use Rattle.edge_pool.specs.Pools.{Pool, ListsBlock, pairs_of, written}
use Rattle.edge_pool.proofs.LoopLemmas.{copied_none, copied_from, copied_to, copied_more}
use Rattle.edge_pool.proofs.pool.EdgePool.copy_front.Goals as goal

pub loop-place-init : goal.loop-place-init
loop-place-init c = copied_none c.args.self.now c.args.from.now c.args.to.now c.requires.to

pub read-pair-requires-clause-listed : goal.read-pair-requires-clause-listed
read-pair-requires-clause-listed c =
    subst (λ p. ListsBlock p c.args.from.now) (sym c.loop-place.invariant)
    (copied_from c.args.self.now c.args.from.now c.args.to.now c.loop-place.place c.requires.from c.requires.to c.requires.apart c.requires.shorter (omega arith))

pub write-requires-clause-listed : goal.write-requires-clause-listed
write-requires-clause-listed c =
    subst (λ p. ListsBlock p c.args.to.now) (sym c.loop-place.invariant)
    (copied_to c.args.self.now c.args.from.now c.args.to.now c.loop-place.place c.requires.from c.requires.to c.requires.apart c.requires.shorter (omega arith))

pub loop-place-preserved : goal.loop-place-preserved
loop-place-preserved c =
    c.write.ensures.written ∙ ap (λ p. written p c.args.to.now c.loop-place.place c.read-pair.result) c.loop-place.invariant
    ∙ copied_more c.args.self.now c.args.from.now c.args.to.now c.loop-place.place c.requires.from c.requires.to c.requires.apart c.requires.shorter (omega arith)
    c.read-pair.result (omega arith) (subst (λ (p : Pool). slice_get (pairs_of p c.args.from.now) c.loop-place.place ≡ Some c.read-pair.result) c.loop-place.invariant c.read-pair.ensures)
