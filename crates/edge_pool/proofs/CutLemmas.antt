-- What the history of a pool says of its blocks, and how it changes.
use Rattle.std.proofs.Common.{◌≡◌, ◌≢◌, ℕ, zero, suc, ◌+◌, ◌<◌, ◌≤◌, List, [], ◌∷◌, length, get_or, refl, sym, ap, subst, ◌∙◌, arith, Bool, true, false, nat_eq, cond, ◌⊎◌, inl, inr, Option, Some, None, unwrap_or}
use Rattle.std.specs.Ordering.{nat_cmp}
use Rattle.std.specs.Cmp.{nat_cmp_total}
use Rattle.std.specs.FinMap as map
use Rattle.std.proofs.lemmas.Bool.{cases_lt}
use Rattle.edge_pool.specs.Classes.{size_of}
use Rattle.edge_pool.specs.inside.Cuts.{block_at, contents, next_free, Avoids, IsChain, IsBlock, AreSound}
use Rattle.edge_pool.specs.declared.cut.Cut.{Cut}
use Rattle.edge_pool.proofs.ClassLemmas.{size_pos}
use Rattle.edge_pool.proofs.MapLemmas.{same_test, same_number, other_number, told_same}
use Rattle.edge_pool.proofs.CellLemmas.{run, run_same}

pub some_pair : (a b c d : ℕ) → ◌≡◌ {A = Option (ℕ × ℕ)} (Some (a, b)) (Some (c, d)) → (a ≡ c) × (b ≡ d)
some_pair a b c d h = (ap (λ o. (unwrap_or {T = ℕ × ℕ} o (0, 0)).0) h, ap (λ o. (unwrap_or {T = ℕ × ℕ} o (0, 0)).1) h)

-- ---- the history told one thing more

abbrev pub told : List Cut → ℕ → ℕ → ℕ → List Cut
told cuts place class len = record { place = place; class = class; len = len } ∷ cuts

-- the block at a place is of a class and a length now, and all others are as they were
pub record Retells (old new : List Cut) (place class len : ℕ) : Type 0 where
  pub here : block_at new place ≡ Some (class, len)
  pub others : (q : ℕ) → q ≢ place → block_at new q ≡ block_at old q

pub told_retells : (cuts : List Cut) (place class len : ℕ) → Retells cuts (told cuts place class len) place class len
told_retells cuts place class len = record {
  here = rw (same_number place place refl) refl;
  others = λ q apart. rw (other_number q place apart) refl;
}

pub same_retells : (cuts : List Cut) (place class len : ℕ) → block_at cuts place ≡ Some (class, len) → Retells cuts cuts place class len
same_retells cuts place class len is = record { here = is; others = λ q apart. refl }

-- ---- what is read from the cells

abbrev pub shown : List (ℕ × ℕ) → ℕ → Option (ℕ × ℕ) → Option (List (ℕ × ℕ))
shown cells place None = None
shown cells place (Some b) = cond (nat_eq b.1 0) None (Some (run cells place b.1))

pub get-contents : (cells : List (ℕ × ℕ)) (cuts : List Cut) (q : ℕ) → map.get (contents cells cuts) q ≡ shown cells q (block_at cuts q)
get-contents cells [] q = map.get-empty nat_cmp q
get-contents cells (c ∷ cuts) q = by (nat_eq c.len 0) refl (get-contents cells cuts q)
  where
    freed : (b : Bool) → nat_eq c.len 0 ≡ true → map.get (contents cells cuts) q ≡ shown cells q (block_at cuts q) →
        cond b None (map.get (contents cells cuts) q) ≡ shown cells q (cond {A = Option (ℕ × ℕ)} b (Some (c.class, c.len)) (block_at cuts q))
    freed true is rest = rw is refl
    freed false is rest = rest

    live : (b : Bool) → (b ≡ true → q ≡ c.place) → nat_eq c.len 0 ≡ false → map.get (contents cells cuts) q ≡ shown cells q (block_at cuts q) →
        cond b (Some (run cells c.place c.len)) (map.get (contents cells cuts) q) ≡ shown cells q (cond {A = Option (ℕ × ℕ)} b (Some (c.class, c.len)) (block_at cuts q))
    live true here is rest = rw is (ap (λ p. Some (run cells p c.len)) (sym (here refl)))
    live false here is rest = rest

    by : (b : Bool) → nat_eq c.len 0 ≡ b → map.get (contents cells cuts) q ≡ shown cells q (block_at cuts q) →
        map.get (cond b (map.remove (contents cells cuts) c.place) (map.insert (contents cells cuts) c.place (run cells c.place c.len))) q
        ≡ shown cells q (cond (nat_eq q c.place) (Some (c.class, c.len)) (block_at cuts q))
    by true is rest = map.get-remove nat_cmp_total (contents cells cuts) c.place q ∙ rw (same_test q c.place) (freed (nat_eq q c.place) is rest)
    by false is rest =
        map.get-insert nat_cmp_total (contents cells cuts) c.place (run cells c.place c.len) q
        ∙ rw (same_test q c.place) (live (nat_eq q c.place) (λ h. told_same q c.place h) is rest)

-- ---- a change inside one block

-- no cell of another block lies in this many cells from this place on
pub record IsClear (cuts : List Cut) (place size : ℕ) : Type 0 where
  pub clear : (q class len : ℕ) → block_at cuts q ≡ Some (class, len) → q ≢ place → (q + size_of class ≤ place) ⊎ (place + size ≤ q)

-- the cells changed nowhere else
pub record ChangesWithin (old new : List (ℕ × ℕ)) (place size : ℕ) : Type 0 where
  pub long : length new ≡ length old
  pub before : (k : ℕ) → k < place → get_or new k (0, 0) ≡ get_or old k (0, 0)
  pub behind : (k : ℕ) → place + size ≤ k → get_or new k (0, 0) ≡ get_or old k (0, 0)

pub block_clear : (cells : List (ℕ × ℕ)) (heads spare : List ℕ) (cut : ℕ) (cuts : List Cut) (place class len : ℕ) →
    AreSound cells heads spare cut cuts → block_at cuts place ≡ Some (class, len) → IsClear cuts place (size_of class)
block_clear cells heads spare cut cuts place class len s is = record {
  clear = λ q d n there apart. elim (cases_lt q place) [
    | inl lt ↦ inl (s.apart q place d class n len there is lt)
    | inr ge ↦ inr (s.apart place q class d len n is there (omega arith))
  ];
}

pub rest_clear : (cells : List (ℕ × ℕ)) (heads spare : List ℕ) (cut : ℕ) (cuts : List Cut) (size : ℕ) →
    AreSound cells heads spare cut cuts → IsClear cuts cut size
rest_clear cells heads spare cut cuts size s = record { clear = λ q d n there apart. inl (s.blocks q d n there).within }

-- nothing was cut there yet
pub none_there : (cells : List (ℕ × ℕ)) (heads spare : List ℕ) (cut : ℕ) (cuts : List Cut) → AreSound cells heads spare cut cuts → (b : Option (ℕ × ℕ)) → block_at cuts cut ≡ b → b ≡ None
none_there cells heads spare cut cuts s None is = refl
none_there cells heads spare cut cuts s (Some b) is = absurd (omega (arith, (s.blocks cut b.0 b.1 is).within, size_pos b.0))

-- the pairs of another block are as they were
pub other_shown : (old new : List (ℕ × ℕ)) (heads spare : List ℕ) (cut : ℕ) (cuts : List Cut) (place size q : ℕ) (b : Option (ℕ × ℕ)) →
    AreSound old heads spare cut cuts → IsClear cuts place size → ChangesWithin old new place size → q ≢ place → block_at cuts q ≡ b → shown new q b ≡ shown old q b
other_shown old new heads spare cut cuts place size q None s clear changes apart is = refl
other_shown old new heads spare cut cuts place size q (Some b) s clear changes apart is =
    ap (λ xs. cond (nat_eq b.1 0) None (Some xs)) (run_same old new q b.1 changes.long (omega (arith, block.within, block.fits, s.within)) (λ k from to. same k from to (clear.clear q b.0 b.1 is apart)))
  where
    block : IsBlock cut q b.0 b.1
    block = s.blocks q b.0 b.1 is

    same : (k : ℕ) → q ≤ k → k < q + b.1 → (q + size_of b.0 ≤ place) ⊎ (place + size ≤ q) → get_or new k (0, 0) ≡ get_or old k (0, 0)
    same k from to (inl below) = changes.before k (omega (arith, block.fits))
    same k from to (inr behind) = changes.behind k (omega arith)

pub other_contents : (old new : List (ℕ × ℕ)) (heads spare : List ℕ) (cut : ℕ) (cuts cuts' : List Cut) (place size class len q : ℕ) →
    AreSound old heads spare cut cuts → IsClear cuts place size → ChangesWithin old new place size → Retells cuts cuts' place class len → q ≢ place →
    map.get (contents new cuts') q ≡ map.get (contents old cuts) q
other_contents old new heads spare cut cuts cuts' place size class len q s clear changes retells apart =
    get-contents new cuts' q ∙ ap (shown new q) (retells.others q apart)
    ∙ other_shown old new heads spare cut cuts place size q (block_at cuts q) s clear changes apart refl ∙ sym (get-contents old cuts q)

-- ---- the free blocks of a class

-- a place that is no free block of the class isn't met
pub others_avoid : (cells : List (ℕ × ℕ)) (cuts : List Cut) (class place at n : ℕ) → block_at cuts place ≢ Some (class, 0) → IsChain cells cuts class at n → Avoids cells place at n
others_avoid cells cuts class place at zero not_free chain = tt
others_avoid cells cuts class place at (suc n) not_free chain =
    (λ same. not_free (subst (λ p. block_at cuts p ≡ Some (class, 0)) same chain.0), others_avoid cells cuts class place (next_free cells at) n not_free chain.2)

-- what a free block other than the changed one holds
pub next_same : (old new : List (ℕ × ℕ)) (cuts : List Cut) (place size class len at : ℕ) → IsClear cuts place size → ChangesWithin old new place size →
    block_at cuts at ≡ Some (class, len) → at ≢ place → next_free new at ≡ next_free old at
next_same old new cuts place size class len at clear changes is apart = by (clear.clear at class len is apart)
  where
    by : (at + size_of class ≤ place) ⊎ (place + size ≤ at) → next_free new at ≡ next_free old at
    by (inl below) = ap (λ p. p.0) (changes.before at (omega (arith, size_pos class)))
    by (inr behind) = ap (λ p. p.0) (changes.behind at behind)

pub avoids_kept : (old new : List (ℕ × ℕ)) (cuts : List Cut) (place size class q at n : ℕ) → IsClear cuts place size → ChangesWithin old new place size →
    IsChain old cuts class at n → Avoids old place at n → Avoids old q at n → Avoids new q at n
avoids_kept old new cuts place size class q at zero clear changes chain avoids h = tt
avoids_kept old new cuts place size class q at (suc n) clear changes chain avoids h =
    (h.0, rw (next_same old new cuts place size class 0 at clear changes chain.0 avoids.0) (avoids_kept old new cuts place size class q (next_free old at) n clear changes chain.2 avoids.1 h.1))

pub chain_kept : (old new : List (ℕ × ℕ)) (cuts cuts' : List Cut) (place size class told_class told_len at n : ℕ) → IsClear cuts place size → ChangesWithin old new place size →
    Retells cuts cuts' place told_class told_len → IsChain old cuts class at n → Avoids old place at n → IsChain new cuts' class at n
chain_kept old new cuts cuts' place size class d m at zero clear changes retells chain avoids = tt
chain_kept old new cuts cuts' place size class d m at (suc n) clear changes retells chain avoids = (
  retells.others at avoids.0 ∙ chain.0,
  rw (next_same old new cuts place size class 0 at clear changes chain.0 avoids.0) (avoids_kept old new cuts place size class at (next_free old at) n clear changes chain.2 avoids.1 chain.1),
  rw (next_same old new cuts place size class 0 at clear changes chain.0 avoids.0) (chain_kept old new cuts cuts' place size class d m (next_free old at) n clear changes retells chain.2 avoids.1),
)
