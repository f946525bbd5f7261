use Rattle.std.proofs.Common.{◌≡◌, ◌<◌, ◌≤◌, ℕ, List, length, get_or, set, sym, ap, arith, ◌∙◌, refl}
use Rattle.std.proofs.lemmas.List.{get_or_read, length-replicate, with_items_is}
use Rattle.edge_pool.specs.Pools.{Extent, Pool, zeros}
use Rattle.edge_pool.proofs.ListedLemmas.{listed_from}
use Rattle.edge_pool.specs.Classes.{size_of}
use Rattle.edge_pool.specs.inside.Cuts.{next_free}
use Rattle.edge_pool.proofs.ClassLemmas.{class_known, size_pos}
use Rattle.edge_pool.proofs.StepLemmas.{take_sound, first_block, live_apart}
use Rattle.edge_pool.proofs.PoolLemmas.{take_seen, take_unlisted, same_fields, same_seen, spare_there}
use Rattle.edge_pool.proofs.pool.EdgePool.take_spare.Goals as goal

pub index-requires : goal.index-requires
index-requires c =
    let has = spare_there _ _ _ _ _ c.self.invariant _ c.self.view_is c.args.class c.requires.spare in
    let b = first_block _ _ _ _ _ c.args.class c.self.invariant c.requires.known has in
    omega (arith, b, size_pos c.args.class)

pub clear-requires-clause-within : goal.clear-requires-clause-within
clear-requires-clause-within c =
    let has = spare_there _ _ _ _ _ c.self.invariant _ c.self.view_is c.args.class c.requires.spare in
    let b = first_block _ _ _ _ _ c.args.class c.self.invariant c.requires.known has in
    let fits : c.args.len ≤ size_of c.args.class = rw c.requires.is ((class_known c.args.len c.requires.len).1) in
    omega (arith, b, fits, c.deref_mut.ensures.len, ap length c.deref_mut.ensures.value)

-- the place that the first free block held
held : (cells : List (ℕ × ℕ)) (at : ℕ) (pair : ℕ × ℕ) → at < length cells → pair ≡ get_or cells at pair → pair.0 ≡ next_free cells at
held cells at pair inside is = ap (λ p. p.0) (get_or_read cells at pair inside is (0, 0))

pub invariant_of-self : goal.invariant_of-self
invariant_of-self c =
    let has = spare_there _ _ _ _ _ c.self.invariant _ c.self.view_is c.args.class c.requires.spare in
    let b = first_block _ _ _ _ _ c.args.class c.self.invariant c.requires.known has in
    let fits : c.args.len ≤ size_of c.args.class = rw c.requires.is ((class_known c.args.len c.requires.len).1) in
    let next = held c.self.inside.cells.items (get_or c.self.inside.heads c.args.class 0) c.index.result.now (omega (arith, b, size_pos c.args.class)) c.index.ensures in
    let items = with_items_is c.self.inside.cells c.clear.new.cells (omega (arith, c.clear.ensures.length, c.deref_mut.ensures.len)) in
    same_fields _ _ _ _ _ _ _ _ items (ap (set c.self.inside.heads c.args.class) next) c.and-self-inside.ensures
    (take_sound c.self.inside.cells.items c.clear.new.cells c.self.inside.heads c.self.inside.spare c.self.inside.cut c.self.inside.cuts.items c.args.class c.args.len _
    c.self.invariant c.requires.known (omega arith) c.requires.len.0 fits (sym c.requires.is) (rw c.deref_mut.ensures.value at c.clear.ensures))

pub returns-clause-taken : goal.returns-clause-taken
returns-clause-taken c =
    let has = spare_there _ _ _ _ _ c.self.invariant _ c.self.view_is c.args.class c.requires.spare in
    let fits : c.args.len ≤ size_of c.args.class = rw c.requires.is ((class_known c.args.len c.requires.len).1) in
    let items = with_items_is c.self.inside.cells c.clear.new.cells (omega (arith, c.clear.ensures.length, c.deref_mut.ensures.len)) in
    rw c.new.ensures (same_seen _ _ _ _ _ _ _ items c.and-self-inside.ensures
    (take_seen c.self.inside.cells.items c.self.inside.heads c.self.inside.spare c.self.inside.cut c.self.inside.cuts.items c.self.invariant _ c.self.view_is
    c.clear.new.cells c.args.class c.args.len c.requires.known has c.requires.len.0 fits (sym c.requires.is) (rw c.deref_mut.ensures.value at c.clear.ensures)))

pub returns-clause-fresh : goal.returns-clause-fresh
returns-clause-fresh c =
    let has = spare_there _ _ _ _ _ c.self.invariant _ c.self.view_is c.args.class c.requires.spare in
    rw c.new.ensures (take_unlisted _ _ _ _ _ c.self.invariant _ c.self.view_is c.args.class c.requires.known has)

pub returns-clause-apart : goal.returns-clause-apart
returns-clause-apart c = live_apart _ _ _ _ _ (invariant_of-self c)

pub returns-clause-listed : goal.returns-clause-listed
returns-clause-listed c =
    listed_from _ c.args.self.now.live c.new.result c.new.result.place (zeros c.args.len) (ap (λ (p : Pool). p.live) (returns-clause-taken c)) refl
    (length-replicate c.args.len (0, 0) ∙ sym (ap (λ (b : Extent). b.len) c.new.ensures))
