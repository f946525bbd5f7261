use Rattle.std.proofs.Common.{◌≡◌, ◌≢◌, length, get_or, ap, sym, None, subst, ◌∙◌}
use Rattle.std.specs.FinMap as map
use Rattle.edge_pool.specs.Pools.{Pool, zeros}
use Rattle.edge_pool.proofs.MapLemmas.{get_beside_inserted}
use Rattle.edge_pool.proofs.ListedLemmas.{fresh_apart}
use Rattle.edge_pool.proofs.LoopLemmas.{one_taken, taken_cut, taken_had}
use Rattle.edge_pool.proofs.pool.EdgePool.take.Goals as goal
use Rattle.edge_pool.proofs.pool.EdgePool.take.Goals.{then-self-class-eq0+else-uncut-size_of_class, else-self-class-eq0}

pub returns-clause-taken : goal.returns-clause-taken
returns-clause-taken c = elim c.if-self-class-eq0.branch [
  | then-self-class-eq0+else-uncut-size_of_class w ↦
      c.take_spare.ensures.taken ∙ ap (λ p. one_taken p c.class_of_len-class.result c.args.len c.take_spare.result.place) (w.self-is ∙ w.cut_spare.ensures)
      ∙ taken_cut c.args.self.now c.class_of_len-class.result c.args.len c.take_spare.result.place c.class_of_len-class.ensures.is c.class_of_len-class.ensures.known
      (subst (λ (v : Pool). length v.spare ≡ 23) c.self.view_is c.self.invariant.classes.1)
      (subst (λ (v : Pool). get_or v.spare c.class_of_len-class.result 0 ≡ 0) c.self.view_is w.if-self-class-eq0.true)
  | else-self-class-eq0 w ↦
      c.take_spare.ensures.taken ∙ ap (λ p. one_taken p c.class_of_len-class.result c.args.len c.take_spare.result.place) w.self-is
      ∙ taken_had c.args.self.now c.class_of_len-class.result c.args.len c.take_spare.result.place c.class_of_len-class.ensures.is
      (subst (λ (v : Pool). get_or v.spare c.class_of_len-class.result 0 ≢ 0) c.self.view_is w.if-self-class-eq0.false)
]

pub returns-clause-others : goal.returns-clause-others
returns-clause-others c =
    let same : c.if-self-class-eq0.self.live ≡ c.args.self.now.live = elim c.if-self-class-eq0.branch [
      | then-self-class-eq0+else-uncut-size_of_class w ↦ ap (λ (p : Pool). p.live) (w.self-is ∙ w.cut_spare.ensures)
      | else-self-class-eq0 w ↦ ap (λ (p : Pool). p.live) w.self-is
    ] in
    let fresh : map.get c.args.self.now.live c.take_spare.result.place ≡ None = ap (λ m. map.get m c.take_spare.result.place) (sym same) ∙ c.take_spare.ensures.fresh in
    λ other h. ap (λ (p : Pool). map.get p.live other.place) (returns-clause-taken c)
    ∙ get_beside_inserted c.args.self.now.live c.take_spare.result.place (zeros c.args.len) other.place (fresh_apart c.args.self.now other c.take_spare.result.place h fresh)
