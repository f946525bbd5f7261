-- What each step of the pool makes of its fields.
use Rattle.std.proofs.Common.{◌≡◌, ℕ, zero, suc, ◌+◌, ◌-◌, ◌<◌, ◌≤◌, List, [], ◌++◌, length, get_or, set, replicate, refl, sym, ap, subst, ◌∙◌, arith, Bool, true, false, true≢false, nat_eq, cond, inl, inr, Option, Some, None, option_map, is_some, unwrap_or, length-set, get_or-set_same, get_or-set_other, add-one}
use Rattle.std.specs.Ordering.{nat_cmp}
use Rattle.std.specs.FinMap as map
use Rattle.std.proofs.lemmas.Bool.{cases_eq}
use Rattle.std.proofs.lemmas.List.Sums.{sum_by-set}
use Rattle.std.proofs.lemmas.List.{get_or-replicate}
use Rattle.edge_pool.specs.Classes.{class_of, size_of}
use Rattle.edge_pool.specs.inside.Runs.{IsCleared}
use Rattle.edge_pool.specs.Pools.{AreApart}
use Rattle.edge_pool.specs.inside.Cuts.{block_at, contents, next_free, Avoids, IsChain, IsBlock, AreSound}
use Rattle.edge_pool.specs.declared.cut.Cut.{Cut}
use Rattle.edge_pool.proofs.ClassLemmas.{size_pos, size_bound}
use Rattle.edge_pool.proofs.MapLemmas.{other_number, is_inserted, is_removed, maps_same, len-inserted-le, len-replaced, len-removed}
use Rattle.edge_pool.proofs.CellLemmas.{run, length-run, run_set, run_zeros, run_longer}
use Rattle.edge_pool.proofs.CutLemmas.{some_pair, told, Retells, told_retells, same_retells, shown, get-contents, IsClear, ChangesWithin, block_clear, rest_clear, none_there, other_contents, others_avoid, avoids_kept, chain_kept}

-- ---- the live blocks after a change

pub live_contents : (old new : List (ℕ × ℕ)) (heads spare : List ℕ) (cut : ℕ) (cuts cuts' : List Cut) (place size class len : ℕ) →
    AreSound old heads spare cut cuts → IsClear cuts place size → ChangesWithin old new place size → Retells cuts cuts' place class len → 0 < len →
    contents new cuts' ≡ map.insert (contents old cuts) place (run new place len)
live_contents old new heads spare cut cuts cuts' place size class len s clear changes retells live =
    is_inserted (contents new cuts') (contents old cuts) place (run new place len)
    (get-contents new cuts' place ∙ ap (shown new place) retells.here ∙ rw (other_number len 0 (omega arith)) refl)
    (λ q apart. other_contents old new heads spare cut cuts cuts' place size class len q s clear changes retells apart)

pub freed_contents : (old new : List (ℕ × ℕ)) (heads spare : List ℕ) (cut : ℕ) (cuts cuts' : List Cut) (place size class : ℕ) →
    AreSound old heads spare cut cuts → IsClear cuts place size → ChangesWithin old new place size → Retells cuts cuts' place class 0 →
    contents new cuts' ≡ map.remove (contents old cuts) place
freed_contents old new heads spare cut cuts cuts' place size class s clear changes retells =
    is_removed (contents new cuts') (contents old cuts) place
    (get-contents new cuts' place ∙ ap (shown new place) retells.here)
    (λ q apart. other_contents old new heads spare cut cuts cuts' place size class 0 q s clear changes retells apart)

-- what a live block shows
pub live_shown : (cells : List (ℕ × ℕ)) (cuts : List Cut) (place class len : ℕ) → block_at cuts place ≡ Some (class, len) → 0 < len →
    map.get (contents cells cuts) place ≡ Some (run cells place len)
live_shown cells cuts place class len is live = get-contents cells cuts place ∙ ap (shown cells place) is ∙ rw (other_number len 0 (omega arith)) refl

pub free_shown : (cells : List (ℕ × ℕ)) (cuts : List Cut) (place class : ℕ) → block_at cuts place ≡ Some (class, 0) → map.get (contents cells cuts) place ≡ None
free_shown cells cuts place class is = get-contents cells cuts place ∙ ap (shown cells place) is

-- ---- the blocks after one was told anew

retold_block : (cells : List (ℕ × ℕ)) (heads spare : List ℕ) (cut : ℕ) (cuts cuts' : List Cut) (place class len len' : ℕ) →
    AreSound cells heads spare cut cuts → block_at cuts place ≡ Some (class, len) → Retells cuts cuts' place class len' → len' ≤ size_of class → (0 < len' → class_of len' ≡ class) →
    (q d n : ℕ) → block_at cuts' q ≡ Some (d, n) → IsBlock cut q d n
retold_block cells heads spare cut cuts cuts' place class len len' s is retells fits classed q d n there = elim (cases_eq q place) [
  | inl same ↦ here same
  | inr apart ↦ s.blocks q d n (sym (retells.others q apart) ∙ there)
]
  where
    here : q ≡ place → IsBlock cut q d n
    here same =
        let told_here : Some (class, len') ≡ Some (d, n) = sym retells.here ∙ subst (λ p. block_at cuts' p ≡ Some (d, n)) same there in
        let both = some_pair class len' d n told_here in
        let old = s.blocks place class len is in
        record {
          known = rw (← both.0) old.known;
          within = rw (same, ← both.0) old.within;
          fits = rw (← both.0, ← both.1) fits;
          classed = rw (← both.0, ← both.1) classed;
        }

-- the class of a block stays
class_kept : (cuts cuts' : List Cut) (place class len len' : ℕ) → block_at cuts place ≡ Some (class, len) → Retells cuts cuts' place class len' →
    (q d n : ℕ) → block_at cuts' q ≡ Some (d, n) → (m : ℕ) × (block_at cuts q ≡ Some (d, m))
class_kept cuts cuts' place class len len' is retells q d n there = elim (cases_eq q place) [
  | inl same ↦
      let told_here : Some (class, len') ≡ Some (d, n) = sym retells.here ∙ subst (λ p. block_at cuts' p ≡ Some (d, n)) same there in
      (len, rw same (is ∙ ap (λ c. Some (c, len)) (some_pair class len' d n told_here).0))
  | inr apart ↦ (n, sym (retells.others q apart) ∙ there)
]

retold_apart : (cells : List (ℕ × ℕ)) (heads spare : List ℕ) (cut : ℕ) (cuts cuts' : List Cut) (place class len len' : ℕ) →
    AreSound cells heads spare cut cuts → block_at cuts place ≡ Some (class, len) → Retells cuts cuts' place class len' →
    (p q c d m n : ℕ) → block_at cuts' p ≡ Some (c, m) → block_at cuts' q ≡ Some (d, n) → p < q → p + size_of c ≤ q
retold_apart cells heads spare cut cuts cuts' place class len len' s is retells p q c d m n at_p at_q below =
    let was_p = class_kept cuts cuts' place class len len' is retells p c m at_p in
    let was_q = class_kept cuts cuts' place class len len' is retells q d n at_q in
    s.apart p q c d was_p.0 was_q.0 was_p.1 was_q.1 below

-- ---- a live block that stays live

-- where the free lists stay as they are
kept_free : (old new : List (ℕ × ℕ)) (heads spare : List ℕ) (cut : ℕ) (cuts cuts' : List Cut) (place class len len' : ℕ) →
    AreSound old heads spare cut cuts → block_at cuts place ≡ Some (class, len) → 0 < len → ChangesWithin old new place (size_of class) → Retells cuts cuts' place class len' →
    (d : ℕ) → d < 23 → IsChain new cuts' d (get_or heads d 0) (get_or spare d 0)
kept_free old new heads spare cut cuts cuts' place class len len' s is live changes retells d known =
    chain_kept old new cuts cuts' place (size_of class) d class len' (get_or heads d 0) (get_or spare d 0)
    (block_clear old heads spare cut cuts place class len s is) changes retells (s.free d known)
    (others_avoid old cuts d place (get_or heads d 0) (get_or spare d 0) (λ free. not_free free) (s.free d known))
  where
    not_free : block_at cuts place ≡ Some (d, 0) → ⊥
    not_free free = let both = some_pair class len d 0 (sym is ∙ free) in omega (arith, both.1)

live_kept : (old new : List (ℕ × ℕ)) (heads spare : List ℕ) (cut : ℕ) (cuts cuts' : List Cut) (place class len len' : ℕ) →
    AreSound old heads spare cut cuts → block_at cuts place ≡ Some (class, len) → 0 < len → ChangesWithin old new place (size_of class) → Retells cuts cuts' place class len' →
    0 < len' → contents new cuts' ≡ map.insert (contents old cuts) place (run new place len')
live_kept old new heads spare cut cuts cuts' place class len len' s is live changes retells live' =
    live_contents old new heads spare cut cuts cuts' place (size_of class) class len' s (block_clear old heads spare cut cuts place class len s is) changes retells live'

kept_sound : (old new : List (ℕ × ℕ)) (heads spare : List ℕ) (cut : ℕ) (cuts cuts' : List Cut) (place class len len' : ℕ) →
    AreSound old heads spare cut cuts → block_at cuts place ≡ Some (class, len) → 0 < len → ChangesWithin old new place (size_of class) → Retells cuts cuts' place class len' →
    0 < len' → len' ≤ size_of class → class_of len' ≡ class → AreSound new heads spare cut cuts'
kept_sound old new heads spare cut cuts cuts' place class len len' s is live changes retells live' fits classed = record {
  few = omega (arith, s.few, changes.long);
  within = omega (arith, s.within, changes.long);
  classes = s.classes;
  blocks = retold_block old heads spare cut cuts cuts' place class len len' s is retells fits (λ _. classed);
  apart = retold_apart old heads spare cut cuts cuts' place class len len' s is retells;
  free = kept_free old new heads spare cut cuts cuts' place class len len' s is live changes retells;
  counted =
      let same = ap map.len (live_kept old new heads spare cut cuts cuts' place class len len' s is live changes retells live') in
      let long = len-replaced (contents old cuts) place (run new place len') (run old place len) (live_shown old cuts place class len is live) in
      omega (arith, s.counted, same, long);
}

-- ---- one cell of a live block is set

set_changes : (cells : List (ℕ × ℕ)) (place size k : ℕ) (pair : ℕ × ℕ) → k < size → ChangesWithin cells (set cells (place + k) pair) place size
set_changes cells place size k pair below = record {
  long = length-set cells (place + k) pair;
  before = λ j h. get_or-set_other cells (place + k) j pair (0, 0) (λ e. absurd (omega (arith, e)));
  behind = λ j h. get_or-set_other cells (place + k) j pair (0, 0) (λ e. absurd (omega (arith, e)));
}

pub write_sound : (cells : List (ℕ × ℕ)) (heads spare : List ℕ) (cut : ℕ) (cuts : List Cut) (place class len k : ℕ) (pair : ℕ × ℕ) →
    AreSound cells heads spare cut cuts → block_at cuts place ≡ Some (class, len) → k < len → AreSound (set cells (place + k) pair) heads spare cut cuts
write_sound cells heads spare cut cuts place class len k pair s is below =
    let b = s.blocks place class len is in
    kept_sound cells (set cells (place + k) pair) heads spare cut cuts cuts place class len len s is (omega arith)
    (set_changes cells place (size_of class) k pair (omega (arith, b.fits))) (same_retells cuts place class len is) (omega arith) b.fits (b.classed (omega arith))

pub write_contents : (cells : List (ℕ × ℕ)) (heads spare : List ℕ) (cut : ℕ) (cuts : List Cut) (place class len k : ℕ) (pair : ℕ × ℕ) →
    AreSound cells heads spare cut cuts → block_at cuts place ≡ Some (class, len) → k < len →
    contents (set cells (place + k) pair) cuts ≡ map.insert (contents cells cuts) place (set (run cells place len) k pair)
write_contents cells heads spare cut cuts place class len k pair s is below =
    let b = s.blocks place class len is in
    live_kept cells (set cells (place + k) pair) heads spare cut cuts cuts place class len len s is (omega arith)
    (set_changes cells place (size_of class) k pair (omega (arith, b.fits))) (same_retells cuts place class len is) (omega arith)
    ∙ ap (map.insert (contents cells cuts) place) (run_set cells place len k pair (omega (arith, b.within, b.fits, s.within)) below)

-- ---- a live block becomes longer

cleared_changes : (old new : List (ℕ × ℕ)) (place size from to : ℕ) → IsCleared old new from to → place ≤ from → to ≤ place + size → from ≤ to → ChangesWithin old new place size
cleared_changes old new place size from to cleared low high order = record {
  long = cleared.length;
  before = λ k h. cleared.before k (omega arith);
  behind = λ k h. cleared.behind k (omega arith);
}

pub widen_sound : (old new : List (ℕ × ℕ)) (heads spare : List ℕ) (cut : ℕ) (cuts : List Cut) (place class len longer : ℕ) →
    AreSound old heads spare cut cuts → block_at cuts place ≡ Some (class, len) → 0 < len → len ≤ longer → longer ≤ size_of class → class_of longer ≡ class →
    IsCleared old new (place + len) (place + longer) → AreSound new heads spare cut (told cuts place class longer)
widen_sound old new heads spare cut cuts place class len longer s is live le fits classed cleared =
    kept_sound old new heads spare cut cuts (told cuts place class longer) place class len longer s is live
    (cleared_changes old new place (size_of class) (place + len) (place + longer) cleared (omega arith) (omega arith) (omega arith))
    (told_retells cuts place class longer) (omega arith) fits classed

pub widen_contents : (old new : List (ℕ × ℕ)) (heads spare : List ℕ) (cut : ℕ) (cuts : List Cut) (place class len longer : ℕ) →
    AreSound old heads spare cut cuts → block_at cuts place ≡ Some (class, len) → 0 < len → len ≤ longer → longer ≤ size_of class →
    IsCleared old new (place + len) (place + longer) →
    contents new (told cuts place class longer) ≡ map.insert (contents old cuts) place (run old place len ++ replicate (longer - len) (0, 0))
widen_contents old new heads spare cut cuts place class len longer s is live le fits cleared =
    let b = s.blocks place class len is in
    live_kept old new heads spare cut cuts (told cuts place class longer) place class len longer s is live
    (cleared_changes old new place (size_of class) (place + len) (place + longer) cleared (omega arith) (omega arith) (omega arith))
    (told_retells cuts place class longer) (omega arith)
    ∙ ap (map.insert (contents old cuts) place) (run_longer old new place len longer cleared le (omega (arith, b.within, s.within)))

-- ---- nothing is cut

pub uncut_sound : (cells : List (ℕ × ℕ)) → length cells ≤ 16777216 → AreSound cells (replicate 23 0) (replicate 23 0) 0 []
uncut_sound cells few = record {
  few = few;
  within = omega arith;
  classes = (refl, refl);
  blocks = λ place class len is. absurd (none_some (class, len) is);
  apart = λ p q c d m n is. absurd (none_some (c, m) is);
  free = λ class known. rw (get_or-replicate {A = ℕ} 23 class 0 0 known) tt;
  counted = omega (arith, map.len-empty nat_cmp (List (ℕ × ℕ)));
}
  where
    none_some : (b : ℕ × ℕ) → ◌≡◌ {A = Option (ℕ × ℕ)} None (Some b) → ⊥
    none_some b e = cc

-- ---- a block is cut, and free

module _ (cells : List (ℕ × ℕ)) (heads spare : List ℕ) (cut : ℕ) (cuts : List Cut) (class : ℕ) (s : AreSound cells heads spare cut cuts) (known : class < 23) (room : cut + size_of class ≤ length cells) where
  abbrev cells' : List (ℕ × ℕ)
  cells' = set cells cut (get_or heads class 0, 0)

  abbrev cuts' : List Cut
  cuts' = told cuts cut class 0

  cut_changes : ChangesWithin cells cells' cut (size_of class)
  cut_changes = record {
    long = length-set cells cut (get_or heads class 0, 0);
    before = λ j h. get_or-set_other cells cut j (get_or heads class 0, 0) (0, 0) (λ e. absurd (omega (arith, e)));
    behind = λ j h. get_or-set_other cells cut j (get_or heads class 0, 0) (0, 0) (λ e. absurd (omega (arith, e, size_pos class)));
  }

  nothing_there : block_at cuts cut ≡ None
  nothing_there = none_there cells heads spare cut cuts s (block_at cuts cut) refl

  pub cut_contents : contents cells' cuts' ≡ contents cells cuts
  cut_contents = maps_same (contents cells' cuts') (contents cells cuts) (λ q. elim (cases_eq q cut) [
    | inl same ↦ rw same (
        get-contents cells' cuts' cut ∙ ap (shown cells' cut) (told_retells cuts cut class 0).here
        ∙ sym (get-contents cells cuts cut ∙ ap (shown cells cut) nothing_there)
        )
    | inr apart ↦ other_contents cells cells' heads spare cut cuts cuts' cut (size_of class) class 0 q s (rest_clear cells heads spare cut cuts (size_of class) s) cut_changes (told_retells cuts cut class 0) apart
  ])

  cut_block : (q d n : ℕ) → block_at cuts' q ≡ Some (d, n) → IsBlock (cut + size_of class) q d n
  cut_block q d n there = elim (cases_eq q cut) [
    | inl same ↦ here same
    | inr apart ↦
        let b = s.blocks q d n (sym ((told_retells cuts cut class 0).others q apart) ∙ there) in
        record { known = b.known; within = omega (arith, b.within); fits = b.fits; classed = b.classed }
  ]
    where
      here : q ≡ cut → IsBlock (cut + size_of class) q d n
      here same =
          let both = some_pair class 0 d n (sym (told_retells cuts cut class 0).here ∙ subst (λ p. block_at cuts' p ≡ Some (d, n)) same there) in
          record {
            known = rw (← both.0) known;
            within = rw (same, ← both.0) (omega arith);
            fits = omega (arith, both.1);
            classed = λ live. absurd (omega (arith, both.1));
          }

  cut_apart : (p q c d m n : ℕ) → block_at cuts' p ≡ Some (c, m) → block_at cuts' q ≡ Some (d, n) → p < q → p + size_of c ≤ q
  cut_apart p q c d m n at_p at_q below = elim (cases_eq p cut) [
    | inl first ↦ elim (cases_eq q cut) [
      | inl last ↦ absurd (omega arith)
      | inr apart ↦
          let b = s.blocks q d n (sym ((told_retells cuts cut class 0).others q apart) ∙ at_q) in
          absurd (omega (arith, b.within, size_pos d))
    ]
    | inr other ↦
        let was_p : block_at cuts p ≡ Some (c, m) = sym ((told_retells cuts cut class 0).others p other) ∙ at_p in
        elim (cases_eq q cut) [
          | inl last ↦ omega (arith, (s.blocks p c m was_p).within, last)
          | inr apart ↦ s.apart p q c d m n was_p (sym ((told_retells cuts cut class 0).others q apart) ∙ at_q) below
        ]
  ]

  avoids_cut : (d : ℕ) → d < 23 → Avoids cells cut (get_or heads d 0) (get_or spare d 0)
  avoids_cut d in_range = others_avoid cells cuts d cut (get_or heads d 0) (get_or spare d 0) (λ free. absurd (none_some (sym nothing_there ∙ free))) (s.free d in_range)
    where
      none_some : ◌≡◌ {A = Option (ℕ × ℕ)} None (Some (d, 0)) → ⊥
      none_some e = cc

  cut_chain : (d : ℕ) → d < 23 → IsChain cells' cuts' d (get_or heads d 0) (get_or spare d 0)
  cut_chain d in_range =
      chain_kept cells cells' cuts cuts' cut (size_of class) d class 0 (get_or heads d 0) (get_or spare d 0) (rest_clear cells heads spare cut cuts (size_of class) s) cut_changes
      (told_retells cuts cut class 0) (s.free d in_range) (avoids_cut d in_range)

  -- the new block comes first
  first_chain : (next : ℕ) → next ≡ get_or heads class 0 → next_free cells' cut ≡ next → IsChain cells' cuts' class cut (get_or spare class 0 + 1)
  first_chain next is held = rw (add-one (get_or spare class 0)) (
    (told_retells cuts cut class 0).here,
    rw (held, is) (avoids_kept cells cells' cuts cut (size_of class) class cut (get_or heads class 0) (get_or spare class 0) (rest_clear cells heads spare cut cuts (size_of class) s) cut_changes (s.free class known) (avoids_cut class known) (avoids_cut class known)),
    rw (held, is) (cut_chain class known),
  )

  cut_free : (d : ℕ) → d < 23 → IsChain cells' cuts' d (get_or (set heads class cut) d 0) (get_or (set spare class (get_or spare class 0 + 1)) d 0)
  cut_free d in_range = elim (cases_eq d class) [
    | inl same ↦ rw (same, get_or-set_same heads class cut 0 (omega (arith, s.classes.0)), get_or-set_same spare class (get_or spare class 0 + 1) 0 (omega (arith, s.classes.1)))
        (first_chain (get_or heads class 0) refl (ap (λ p. p.0) (get_or-set_same cells cut (get_or heads class 0, 0) (0, 0) (omega (arith, size_pos class)))))
    | inr apart ↦ rw (get_or-set_other heads class d cut 0 apart, get_or-set_other spare class d (get_or spare class 0 + 1) 0 apart) (cut_chain d in_range)
  ]

  pub cut_sound : AreSound cells' (set heads class cut) (set spare class (get_or spare class 0 + 1)) (cut + size_of class) cuts'
  cut_sound = record {
    few = omega (arith, s.few, cut_changes.long);
    within = omega (arith, room, cut_changes.long);
    classes = (length-set heads class cut ∙ s.classes.0, length-set spare class (get_or spare class 0 + 1) ∙ s.classes.1);
    blocks = cut_block;
    apart = cut_apart;
    free = cut_free;
    counted = omega (arith, s.counted, ap map.len cut_contents, size_pos class, sum_by-set (λ x. x) spare class (get_or spare class 0 + 1) 0 (omega (arith, s.classes.1)));
  }

-- ---- the first free block of a class becomes live

module _ (cells new : List (ℕ × ℕ)) (heads spare : List ℕ) (cut : ℕ) (cuts : List Cut) (class len n : ℕ) (s : AreSound cells heads spare cut cuts) (known : class < 23)
    (has : get_or spare class 0 ≡ suc n) (live : 0 < len) (fits : len ≤ size_of class) (classed : class_of len ≡ class) where
  abbrev at : ℕ
  at = get_or heads class 0

  first_free : IsChain cells cuts class at (suc n)
  first_free = subst (λ m. IsChain cells cuts class at m) has (s.free class known)

  module _ (cleared : IsCleared cells new at (at + len)) where
    abbrev taken_cuts : List Cut
    taken_cuts = told cuts at class len

    take_changes : ChangesWithin cells new at (size_of class)
    take_changes = cleared_changes cells new at (size_of class) at (at + len) cleared (omega arith) (omega arith) (omega arith)

    take_block : IsBlock cut at class 0
    take_block = s.blocks at class 0 first_free.0

    pub take_contents : contents new taken_cuts ≡ map.insert (contents cells cuts) at (replicate len (0, 0))
    take_contents =
        live_contents cells new heads spare cut cuts taken_cuts at (size_of class) class len s (block_clear cells heads spare cut cuts at class 0 s first_free.0) take_changes (told_retells cuts at class len) live
        ∙ ap (map.insert (contents cells cuts) at) (run_zeros new at len (omega (arith, take_block.within, s.within, cleared.length)) (λ k from to. cleared.cleared k from to))

    take_chain : (d k m : ℕ) → IsChain cells cuts d k m → Avoids cells at k m → IsChain new taken_cuts d k m
    take_chain d k m chain avoids =
        chain_kept cells new cuts taken_cuts at (size_of class) d class len k m (block_clear cells heads spare cut cuts at class 0 s first_free.0) take_changes (told_retells cuts at class len) chain avoids

    take_free : (d : ℕ) → d < 23 → IsChain new taken_cuts d (get_or (set heads class (next_free cells at)) d 0) (get_or (set spare class n) d 0)
    take_free d in_range = elim (cases_eq d class) [
      | inl same ↦ rw (same, get_or-set_same heads class (next_free cells at) 0 (omega (arith, s.classes.0)), get_or-set_same spare class n 0 (omega (arith, s.classes.1)))
          (take_chain class (next_free cells at) n first_free.2 first_free.1)
      | inr apart ↦ rw (get_or-set_other heads class d (next_free cells at) 0 apart, get_or-set_other spare class d n 0 apart)
          (take_chain d (get_or heads d 0) (get_or spare d 0) (s.free d in_range) (others_avoid cells cuts d at (get_or heads d 0) (get_or spare d 0) (λ free. apart (sym (some_pair class 0 d 0 (sym first_free.0 ∙ free)).0)) (s.free d in_range)))
    ]

    pub take_sound : AreSound new (set heads class (next_free cells at)) (set spare class n) cut taken_cuts
    take_sound = record {
      few = omega (arith, s.few, cleared.length);
      within = omega (arith, s.within, cleared.length);
      classes = (length-set heads class (next_free cells at) ∙ s.classes.0, length-set spare class n ∙ s.classes.1);
      blocks = retold_block cells heads spare cut cuts taken_cuts at class 0 len s first_free.0 (told_retells cuts at class len) fits (λ _. classed);
      apart = retold_apart cells heads spare cut cuts taken_cuts at class 0 len s first_free.0 (told_retells cuts at class len);
      free = take_free;
      counted = omega (arith, s.counted, ap map.len take_contents, len-inserted-le (contents cells cuts) at (replicate {A = ℕ × ℕ} len (0, 0)), has, sum_by-set (λ x. x) spare class n 0 (omega (arith, s.classes.1)));
    }

-- the first free block lies within the cells
pub first_block : (cells : List (ℕ × ℕ)) (heads spare : List ℕ) (cut : ℕ) (cuts : List Cut) (class : ℕ) → AreSound cells heads spare cut cuts → class < 23 → 0 < get_or spare class 0 →
    get_or heads class 0 + size_of class ≤ length cells
first_block cells heads spare cut cuts class s known has = by (get_or spare class 0) has (s.free class known)
  where
    by : (n : ℕ) → 0 < n → IsChain cells cuts class (get_or heads class 0) n → get_or heads class 0 + size_of class ≤ length cells
    by zero has chain = absurd (omega arith)
    by (suc n) has chain = omega (arith, s.within, (s.blocks (get_or heads class 0) class 0 chain.0).within)

pub free_unlisted : (cells : List (ℕ × ℕ)) (heads spare : List ℕ) (cut : ℕ) (cuts : List Cut) (class : ℕ) → AreSound cells heads spare cut cuts → class < 23 → 0 < get_or spare class 0 →
    map.get (contents cells cuts) (get_or heads class 0) ≡ None
free_unlisted cells heads spare cut cuts class s known has = by (get_or spare class 0) has (s.free class known)
  where
    by : (n : ℕ) → 0 < n → IsChain cells cuts class (get_or heads class 0) n → map.get (contents cells cuts) (get_or heads class 0) ≡ None
    by zero has chain = absurd (omega arith)
    by (suc n) has chain = free_shown cells cuts (get_or heads class 0) class chain.0

-- ---- a live block becomes free

module _ (cells : List (ℕ × ℕ)) (heads spare : List ℕ) (cut : ℕ) (cuts : List Cut) (place class len : ℕ) (s : AreSound cells heads spare cut cuts) (is : block_at cuts place ≡ Some (class, len)) (live : 0 < len) where
  abbrev given_cells : List (ℕ × ℕ)
  given_cells = set cells place (get_or heads class 0, 0)

  abbrev given_cuts : List Cut
  given_cuts = told cuts place class 0

  give_block : IsBlock cut place class len
  give_block = s.blocks place class len is

  give_changes : ChangesWithin cells given_cells place (size_of class)
  give_changes = record {
    long = length-set cells place (get_or heads class 0, 0);
    before = λ j h. get_or-set_other cells place j (get_or heads class 0, 0) (0, 0) (λ e. absurd (omega (arith, e)));
    behind = λ j h. get_or-set_other cells place j (get_or heads class 0, 0) (0, 0) (λ e. absurd (omega (arith, e, size_pos class)));
  }

  give_clear : IsClear cuts place (size_of class)
  give_clear = block_clear cells heads spare cut cuts place class len s is

  pub give_contents : contents given_cells given_cuts ≡ map.remove (contents cells cuts) place
  give_contents = freed_contents cells given_cells heads spare cut cuts given_cuts place (size_of class) class s give_clear give_changes (told_retells cuts place class 0)

  give_avoids : (d : ℕ) → d < 23 → Avoids cells place (get_or heads d 0) (get_or spare d 0)
  give_avoids d in_range = others_avoid cells cuts d place (get_or heads d 0) (get_or spare d 0) (λ free. absurd (omega (arith, (some_pair class len d 0 (sym is ∙ free)).1))) (s.free d in_range)

  give_chain : (d : ℕ) → d < 23 → IsChain given_cells given_cuts d (get_or heads d 0) (get_or spare d 0)
  give_chain d in_range =
      chain_kept cells given_cells cuts given_cuts place (size_of class) d class 0 (get_or heads d 0) (get_or spare d 0) give_clear give_changes
      (told_retells cuts place class 0) (s.free d in_range) (give_avoids d in_range)

  -- the block comes first
  given_chain : (next : ℕ) → next ≡ get_or heads class 0 → next_free given_cells place ≡ next → IsChain given_cells given_cuts class place (get_or spare class 0 + 1)
  given_chain next at_head held = rw (add-one (get_or spare class 0)) (
    (told_retells cuts place class 0).here,
    rw (held, at_head) (avoids_kept cells given_cells cuts place (size_of class) class place (get_or heads class 0) (get_or spare class 0) give_clear give_changes (s.free class give_block.known) (give_avoids class give_block.known) (give_avoids class give_block.known)),
    rw (held, at_head) (give_chain class give_block.known),
  )

  give_free : (d : ℕ) → d < 23 → IsChain given_cells given_cuts d (get_or (set heads class place) d 0) (get_or (set spare class (get_or spare class 0 + 1)) d 0)
  give_free d in_range = elim (cases_eq d class) [
    | inl same ↦ rw (same, get_or-set_same heads class place 0 (omega (arith, s.classes.0, give_block.known)), get_or-set_same spare class (get_or spare class 0 + 1) 0 (omega (arith, s.classes.1, give_block.known)))
        (given_chain (get_or heads class 0) refl (ap (λ p. p.0) (get_or-set_same cells place (get_or heads class 0, 0) (0, 0) (omega (arith, size_pos class, give_block.within, s.within)))))
    | inr apart ↦ rw (get_or-set_other heads class d place 0 apart, get_or-set_other spare class d (get_or spare class 0 + 1) 0 apart) (give_chain d in_range)
  ]

  pub give_sound : AreSound given_cells (set heads class place) (set spare class (get_or spare class 0 + 1)) cut given_cuts
  give_sound = record {
    few = omega (arith, s.few, give_changes.long);
    within = omega (arith, s.within, give_changes.long);
    classes = (length-set heads class place ∙ s.classes.0, length-set spare class (get_or spare class 0 + 1) ∙ s.classes.1);
    blocks = retold_block cells heads spare cut cuts given_cuts place class len 0 s is (told_retells cuts place class 0) (omega arith) (λ h. absurd (omega arith));
    apart = retold_apart cells heads spare cut cuts given_cuts place class len 0 s is (told_retells cuts place class 0);
    free = give_free;
    counted = omega (arith, s.counted, ap map.len give_contents, len-removed (contents cells cuts) place (run cells place len) (live_shown cells cuts place class len is live), sum_by-set (λ x. x) spare class (get_or spare class 0 + 1) 0 (omega (arith, s.classes.1, give_block.known)));
  }

-- ---- what callers know of the live blocks

-- a live block, and what it shows
pub record IsLive (cells : List (ℕ × ℕ)) (cuts : List Cut) (place : ℕ) (xs : List (ℕ × ℕ)) : Type 0 where
  pub class : ℕ
  pub len : ℕ
  pub is : block_at cuts place ≡ Some (class, len)
  pub live : 0 < len
  pub pairs : xs ≡ run cells place len

shown_live : (cells : List (ℕ × ℕ)) (cuts : List Cut) (place : ℕ) (xs : List (ℕ × ℕ)) (b : Option (ℕ × ℕ)) → block_at cuts place ≡ b → shown cells place b ≡ Some xs → IsLive cells cuts place xs
shown_live cells cuts place xs None is h = absurd (true≢false (sym (ap is_some h)))
shown_live cells cuts place xs (Some b) is h = by (nat_eq b.1 0) refl h
  where
    not_zero : (n : ℕ) → nat_eq n 0 ≡ false → 0 < n
    not_zero zero e = absurd (true≢false e)
    not_zero (suc n) e = omega arith

    by : (t : Bool) → nat_eq b.1 0 ≡ t → cond t None (Some (run cells place b.1)) ≡ Some xs → IsLive cells cuts place xs
    by true none h = absurd (true≢false (sym (ap is_some h)))
    by false some h = record { class = b.0; len = b.1; is = is; live = not_zero b.1 some; pairs = ap (λ o. unwrap_or o xs) (sym h) }

live_is : (cells : List (ℕ × ℕ)) (cuts : List Cut) (place : ℕ) (xs : List (ℕ × ℕ)) → map.get (contents cells cuts) place ≡ Some xs → IsLive cells cuts place xs
live_is cells cuts place xs h = shown_live cells cuts place xs (block_at cuts place) refl (sym (get-contents cells cuts place) ∙ h)

live_len : (cells : List (ℕ × ℕ)) (heads spare : List ℕ) (cut : ℕ) (cuts : List Cut) (place : ℕ) (xs : List (ℕ × ℕ)) → AreSound cells heads spare cut cuts →
    (b : IsLive cells cuts place xs) → length xs ≡ b.len
live_len cells heads spare cut cuts place xs s b =
    let block = s.blocks place b.class b.len b.is in
    ap length b.pairs ∙ length-run cells place b.len (omega (arith, block.within, block.fits, s.within))

-- a block that a caller may use
pub record IsListed (cells : List (ℕ × ℕ)) (cut : ℕ) (cuts : List Cut) (place len : ℕ) : Type 0 where
  pub class : ℕ
  pub is : block_at cuts place ≡ Some (class, len)
  pub live : 0 < len
  pub pairs : map.get (contents cells cuts) place ≡ Some (run cells place len)
  pub within : place + len ≤ length cells
  pub bound : len ≤ 4194304
  pub classed : class_of len ≡ class

listed_of : (cells : List (ℕ × ℕ)) (heads spare : List ℕ) (cut : ℕ) (cuts : List Cut) (place len : ℕ) → AreSound cells heads spare cut cuts →
    (o : Option (List (ℕ × ℕ))) → map.get (contents cells cuts) place ≡ o → option_map length o ≡ Some len → IsListed cells cut cuts place len
listed_of cells heads spare cut cuts place len s None is h = absurd (true≢false (sym (ap is_some h)))
listed_of cells heads spare cut cuts place len s (Some xs) is h = of (live_is cells cuts place xs is)
  where
    of : IsLive cells cuts place xs → IsListed cells cut cuts place len
    of b =
        let long : b.len ≡ len = sym (live_len cells heads spare cut cuts place xs s b) ∙ ap (λ o. unwrap_or o 0) h in
        let there : block_at cuts place ≡ Some (b.class, len) = rw (← long) b.is in
        let block = s.blocks place b.class len there in
        let live : 0 < len = rw (← long) b.live in
        record {
          class = b.class;
          is = there;
          live = live;
          pairs = live_shown cells cuts place b.class len there live;
          within = omega (arith, block.within, block.fits, s.within);
          bound = omega (arith, block.fits, size_bound b.class block.known);
          classed = block.classed live;
        }

pub listed_is : (cells : List (ℕ × ℕ)) (heads spare : List ℕ) (cut : ℕ) (cuts : List Cut) (place len : ℕ) → AreSound cells heads spare cut cuts →
    option_map length (map.get (contents cells cuts) place) ≡ Some len → IsListed cells cut cuts place len
listed_is cells heads spare cut cuts place len s h = listed_of cells heads spare cut cuts place len s (map.get (contents cells cuts) place) refl h

pub live_apart : (cells : List (ℕ × ℕ)) (heads spare : List ℕ) (cut : ℕ) (cuts : List Cut) → AreSound cells heads spare cut cuts → AreApart (contents cells cuts)
live_apart cells heads spare cut cuts s p q xs ys at_p at_q below =
    let b = live_is cells cuts p xs at_p in
    let d = live_is cells cuts q ys at_q in
    omega (arith, live_len cells heads spare cut cuts p xs s b, (s.blocks p b.class b.len b.is).fits, s.apart p q b.class d.class b.len d.len b.is d.is below)
