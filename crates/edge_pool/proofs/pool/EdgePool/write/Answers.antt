use Rattle.edge_pool.specs.Pools.{Pool, pairs_of}
use Rattle.edge_pool.proofs.ListedLemmas.{listed_from, pairs_there}
use Rattle.std.proofs.Common.{length-set, ap, refl, ◌∙◌, arith}
use Rattle.edge_pool.proofs.StepLemmas.{write_sound}
use Rattle.edge_pool.proofs.PoolLemmas.{listed, write_seen}
use Rattle.edge_pool.proofs.pool.EdgePool.write.Goals as goal

pub index_mut-requires : goal.index_mut-requires
index_mut-requires c =
    let l = listed _ _ _ _ _ c.self.invariant _ c.self.view_is c.args.block.now c.requires.listed in
    omega (arith, l.within, c.place.ensures, c.requires.within)

pub invariant_of-self : goal.invariant_of-self
invariant_of-self c =
    let l = listed _ _ _ _ _ c.self.invariant _ c.self.view_is c.args.block.now c.requires.listed in
    rw c.place.ensures (write_sound _ _ _ _ _ _ l.class _ c.args.place c.args.pair c.self.invariant l.is c.requires.within)

pub returns-clause-written : goal.returns-clause-written
returns-clause-written c = rw c.place.ensures (write_seen _ _ _ _ _ c.self.invariant _ c.self.view_is c.args.block.now c.args.place c.args.pair c.requires.listed c.requires.within)

pub returns-clause-listed : goal.returns-clause-listed
returns-clause-listed c =
    listed_from _ c.args.self.now.live c.args.block.now c.args.block.now.place _ (ap (λ (p : Pool). p.live) (returns-clause-written c)) refl
    (length-set (pairs_of c.args.self.now c.args.block.now) c.args.place c.args.pair ∙ (pairs_there c.args.self.now c.args.block.now c.requires.listed).long)
