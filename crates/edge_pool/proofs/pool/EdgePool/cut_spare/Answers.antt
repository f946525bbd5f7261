use Rattle.edge_pool.proofs.StepLemmas.{cut_sound}
use Rattle.edge_pool.proofs.PoolLemmas.{room_is, cut_seen}
use Rattle.edge_pool.proofs.pool.EdgePool.cut_spare.Goals as goal

pub invariant_of-self : goal.invariant_of-self
invariant_of-self c =
    let room = room_is _ _ _ _ _ c.self.invariant _ c.self.view_is c.args.class c.requires.room in
    rw (c.and-self-inside.ensures, c.size_of_class.ensures.is) (cut_sound _ _ _ _ _ c.args.class c.self.invariant c.requires.known room)

pub returns : goal.returns
returns c =
    let room = room_is _ _ _ _ _ c.self.invariant _ c.self.view_is c.args.class c.requires.room in
    rw (c.and-self-inside.ensures, c.size_of_class.ensures.is) (cut_seen _ _ _ _ _ c.self.invariant _ c.self.view_is c.args.class c.requires.known room)
