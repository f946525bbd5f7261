use Rattle.std.specs.FinMap as map
use Rattle.edge_pool.specs.Pools.{Extent, Pool}
use Rattle.edge_pool.proofs.ListedLemmas.{listed_from, longer_len}
use Rattle.std.proofs.Common.{length, ap, refl, arith, ◌∙◌, sym}
use Rattle.std.proofs.lemmas.List.{with_items_is}
use Rattle.edge_pool.specs.Classes.{class_of}
use Rattle.edge_pool.proofs.StepLemmas.{widen_sound, live_apart}
use Rattle.edge_pool.proofs.PoolLemmas.{listed, listed_at, widen_fits, widen_within, widen_seen, widen_cleared, same_fields, same_seen, told_same}
use Rattle.edge_pool.proofs.pool.EdgePool.widen.Goals as goal

pub clear-requires-clause-within : goal.clear-requires-clause-within
clear-requires-clause-within c =
    let within = widen_within _ _ _ _ _ c.self.invariant _ c.self.view_is c.args.block c.args.len c.requires.listed c.requires.bound c.requires.class in
    omega (arith, within, c.place-place.ensures, c.deref_mut.ensures.len, ap length c.deref_mut.ensures.value)

pub invariant_of-self : goal.invariant_of-self
invariant_of-self c =
    let l = listed _ _ _ _ _ c.self.invariant _ c.self.view_is c.args.block c.requires.listed in
    let fits = widen_fits _ _ _ _ _ c.self.invariant _ c.self.view_is c.args.block c.args.len c.requires.listed c.requires.bound c.requires.class in
    let there = listed_at _ _ _ _ _ c.self.invariant _ c.self.view_is c.args.block c.requires.listed (class_of c.args.len) c.requires.class in
    let items = with_items_is c.self.inside.cells c.clear.new.cells (omega (arith, c.clear.ensures.length, c.deref_mut.ensures.len)) in
    let cleared = widen_cleared c.self.inside.cells.items _ c.clear.new.cells _ c.args.block.place _ c.args.block.len c.args.len c.deref_mut.ensures.value c.place-place.ensures c.len.ensures c.clear.ensures in
    same_fields _ _ _ _ _ _ _ _ items refl
    (told_same c.self.inside.cuts.items c.and-self-inside.result.items _ _ _ _ _ c.place-place.ensures c.class_of_len.ensures.is c.and-self-inside.ensures)
    (widen_sound _ _ _ _ _ _ c.args.block.place (class_of c.args.len) c.args.block.len c.args.len c.self.invariant there l.live c.requires.longer fits refl cleared)

pub returns-clause-grown : goal.returns-clause-grown
returns-clause-grown c =
    let items = with_items_is c.self.inside.cells c.clear.new.cells (omega (arith, c.clear.ensures.length, c.deref_mut.ensures.len)) in
    let cleared = widen_cleared c.self.inside.cells.items _ c.clear.new.cells _ c.args.block.place _ c.args.block.len c.args.len c.deref_mut.ensures.value c.place-place.ensures c.len.ensures c.clear.ensures in
    same_seen _ _ _ _ _ _ _ items
    (told_same c.self.inside.cuts.items c.and-self-inside.result.items _ _ _ _ _ c.place-place.ensures c.class_of_len.ensures.is c.and-self-inside.ensures)
    (widen_seen _ _ _ _ _ c.self.invariant _ c.self.view_is c.clear.new.cells c.args.block c.args.len c.requires.listed c.requires.longer c.requires.bound c.requires.class cleared)

pub returns-clause-apart : goal.returns-clause-apart
returns-clause-apart c = live_apart _ _ _ _ _ (invariant_of-self c)

pub returns-clause-listed : goal.returns-clause-listed
returns-clause-listed c =
    listed_from _ (map.remove c.args.self.now.live c.args.block.place) c.new.result c.args.block.place _ (ap (λ (p : Pool). p.live) (returns-clause-grown c))
    (ap (λ (b : Extent). b.place) c.new.ensures ∙ c.place-place.ensures)
    (longer_len c.args.self.now c.args.block c.args.len c.requires.listed c.requires.longer ∙ sym (ap (λ (b : Extent). b.len) c.new.ensures))
