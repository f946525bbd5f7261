use Rattle.edge_pool.specs.Pools.{Pool}
use Rattle.std.specs.FinMap as map
use Rattle.edge_pool.proofs.ListedLemmas.{listed_from, longer_len}
use Rattle.std.proofs.Common.{refl, sym, ap, subst, ◌∙◌}
use Rattle.edge_pool.specs.Classes.{class_of}
use Rattle.edge_pool.specs.Pools.{ListsBlock, given}
use Rattle.edge_pool.proofs.PoolLemmas.{listed}
use Rattle.edge_pool.proofs.LoopLemmas.{grow_apart, grow_from, grow_to, grow_give, with_front, grown_elsewhere, grown_live, grown_live}
use Rattle.edge_pool.proofs.pool.EdgePool.grow.Goals as goal

pub class_of_len-requires-2 : goal.class_of_len-requires-2
class_of_len-requires-2 c =
    let l = listed _ _ _ _ _ c.self.invariant _ c.self.view_is c.args.block c.requires.listed in
    rw c.len.ensures (l.live, l.bound)

pub copy_front-requires-clause-from : goal.copy_front-requires-clause-from
copy_front-requires-clause-from c =
    subst (λ p. ListsBlock p c.args.block) (sym c.in-Ok.ensures.taken) (grow_from c.args.self.now c.args.block c.in-Ok.longer c.args.len c.requires.listed c.in-Ok.ensures.fresh c.in-Ok.ensures.len)

pub copy_front-requires-clause-to : goal.copy_front-requires-clause-to
copy_front-requires-clause-to c =
    subst (λ p. ListsBlock p c.in-Ok.longer) (sym c.in-Ok.ensures.taken) (grow_to c.args.self.now c.args.block c.in-Ok.longer c.args.len c.requires.listed c.in-Ok.ensures.fresh c.in-Ok.ensures.len)

pub copy_front-requires-clause-apart : goal.copy_front-requires-clause-apart
copy_front-requires-clause-apart c = grow_apart c.args.self.now c.args.block c.in-Ok.longer c.args.len c.requires.listed c.in-Ok.ensures.fresh c.in-Ok.ensures.len

pub give-requires : goal.give-requires
give-requires c =
    subst (λ p. ListsBlock p c.args.block) (sym (c.copy_front.ensures ∙ ap (λ p. with_front p c.args.block c.in-Ok.longer) c.in-Ok.ensures.taken))
    (grow_give c.args.self.now c.args.block c.in-Ok.longer c.args.len c.requires.listed c.in-Ok.ensures.fresh c.in-Ok.ensures.len)

pub returns-in-Ok-clause-grown : goal.returns-in-Ok-clause-grown
returns-in-Ok-clause-grown c =
    c.give.ensures.given ∙ ap (λ p. given p c.args.block) (c.copy_front.ensures ∙ ap (λ p. with_front p c.args.block c.in-Ok.longer) c.in-Ok.ensures.taken)
    ∙ grown_elsewhere c.args.self.now c.args.block c.in-Ok.longer c.args.len c.requires.listed c.in-Ok.ensures.fresh c.in-Ok.ensures.len
    (λ same. c.if-class_of_len.false (c.class_of_len.ensures.is ∙ same ∙ sym (c.class_of_len-2.ensures.is ∙ ap class_of c.len.ensures)))

pub returns-in-Ok-clause-listed : goal.returns-in-Ok-clause-listed
returns-in-Ok-clause-listed c =
    listed_from _ (map.remove c.args.self.now.live c.args.block.place) c.in-Ok.longer c.in-Ok.longer.place _
    (ap (λ (p : Pool). p.live) (c.give.ensures.given ∙ ap (λ p. given p c.args.block) (c.copy_front.ensures ∙ ap (λ p. with_front p c.args.block c.in-Ok.longer) c.in-Ok.ensures.taken))
    ∙ grown_live c.args.self.now c.args.block c.in-Ok.longer c.args.len c.requires.listed c.in-Ok.ensures.fresh c.in-Ok.ensures.len)
    refl (longer_len c.args.self.now c.args.block c.args.len c.requires.listed c.requires.longer ∙ sym c.in-Ok.ensures.len)
