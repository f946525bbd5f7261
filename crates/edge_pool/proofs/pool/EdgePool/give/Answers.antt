use Rattle.std.proofs.Common.{ap, ◌∙◌, arith}
use Rattle.edge_pool.specs.Classes.{class_of}
use Rattle.edge_pool.proofs.StepLemmas.{give_sound, live_apart}
use Rattle.edge_pool.proofs.PoolLemmas.{listed, listed_at, give_seen}
use Rattle.edge_pool.proofs.pool.EdgePool.give.Goals as goal

pub class_of_len-class-requires : goal.class_of_len-class-requires
class_of_len-class-requires c =
    let l = listed _ _ _ _ _ c.self.invariant _ c.self.view_is c.args.block c.requires in
    rw c.len.ensures (l.live, l.bound)

pub index_mut-requires : goal.index_mut-requires
index_mut-requires c =
    let l = listed _ _ _ _ _ c.self.invariant _ c.self.view_is c.args.block c.requires in
    omega (arith, l.within, l.live, c.place-place.ensures)

pub invariant_of-self : goal.invariant_of-self
invariant_of-self c =
    let l = listed _ _ _ _ _ c.self.invariant _ c.self.view_is c.args.block c.requires in
    let there = listed_at _ _ _ _ _ c.self.invariant _ c.self.view_is c.args.block c.requires c.class_of_len-class.result (c.class_of_len-class.ensures.is ∙ ap class_of c.len.ensures) in
    rw (c.and-self-inside.ensures, c.place-place.ensures) (give_sound _ _ _ _ _ _ c.class_of_len-class.result _ c.self.invariant there l.live)

pub returns-clause-given : goal.returns-clause-given
returns-clause-given c =
    give_seen _ _ _ _ _ c.self.invariant _ c.self.view_is c.args.block c.requires c.place-place.result c.class_of_len-class.result
    c.place-place.ensures (c.class_of_len-class.ensures.is ∙ ap class_of c.len.ensures) _ c.and-self-inside.ensures

pub returns-clause-apart : goal.returns-clause-apart
returns-clause-apart c = live_apart _ _ _ _ _ (invariant_of-self c)
