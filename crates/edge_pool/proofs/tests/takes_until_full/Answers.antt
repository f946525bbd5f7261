use Rattle.std.proofs.Common.{◌≡◌, length, IfOk, option_map, ap, subst, ◌∙◌}
use Rattle.std.specs.FinMap as map
use Rattle.edge_pool.specs.Pools.{Pool, Extent, ListsBlock}
use Rattle.edge_pool.proofs.tests.takes_until_full.Goals as goal

-- a block stays listed where its pairs stay
stays : (old new : Pool) (block : Extent) → ((other : Extent) → ListsBlock old other → map.get new.live other.place ≡ map.get old.live other.place) → ListsBlock old block → ListsBlock new block
stays old new block others h = ap (option_map length) (others block h) ∙ h

pub give-requires : goal.give-requires
give-requires g c =
    let first = subst (λ r. IfOk r (λ (b : Extent). ListsBlock c.take.new.self b)) c.expect-first.ensures c.take.ensures.listed in
    stays c.take-4.new.self c.take-5.new.self c.expect-first.result c.take-5.ensures.others
    (stays c.take-3.new.self c.take-4.new.self c.expect-first.result c.take-4.ensures.others
    (stays c.take-2.new.self c.take-3.new.self c.expect-first.result c.take-3.ensures.others
    (stays c.take.new.self c.take-2.new.self c.expect-first.result c.take-2.ensures.others first)))
