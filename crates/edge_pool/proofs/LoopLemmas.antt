-- What the calls of a pool that take several steps have done so far.
use Rattle.std.proofs.Common.{◌≡◌, ◌≢◌, ℕ, zero, suc, ◌+◌, ◌-◌, ◌*◌, ◌<◌, ◌≤◌, List, [], ◌∷◌, ◌++◌, length, get_or, take, drop, set, refl, sym, ap, subst, ◌∙◌, arith, true≢false, nat_eq, if◌then◌else◌, inl, inr, Some, None, is_some, unwrap_or, option_map, slice_get, length-append, length-drop, get_or-set_same, add-zero}
use Rattle.std.specs.FinMap as map
use Rattle.std.proofs.lemmas.Bool.{cases_eq}
use Rattle.std.proofs.lemmas.List.{length-take-le, length-replicate, set-set, set-get_or, set_at, take_more, take_all, drop_more, drop-replicate, append_assoc}
use Rattle.edge_pool.specs.Classes.{class_of, size_of}
use Rattle.edge_pool.specs.Pools.{Extent, Pool, ListsBlock, pairs_of, zeros, taken, written, given, grown, lengthened}
use Rattle.edge_pool.proofs.MapLemmas.{same_number, other_number, get_inserted, get_beside_inserted, get_removed, get_beside_removed, maps_same, is_inserted, insert_twice}
use Rattle.edge_pool.proofs.ListedLemmas.{pairs_there, listed_by}
use Rattle.edge_pool.proofs.PoolLemmas.{same_pool}

-- ---- cutting blocks of a class

-- this many blocks of the class were cut
pub record IsReserving (old now : Pool) (class count : ℕ) : Type 0 where
  pub long : length old.spare ≡ 23
  pub is : now ≡ record old { uncut = old.uncut - size_of class * count; spare = set old.spare class (get_or old.spare class 0 + count) }

pub reserving_none : (pool : Pool) (class : ℕ) → length pool.spare ≡ 23 → IsReserving pool pool class 0
reserving_none pool class long = record {
  long = long;
  is = same_pool pool.live pool.live pool.uncut (pool.uncut - size_of class * 0) pool.spare (set pool.spare class (get_or pool.spare class 0 + 0)) refl (omega arith)
      (rw (add-zero (get_or pool.spare class 0)) (sym (set-get_or pool.spare class 0)));
}

-- the pool with one more free block of the class
abbrev pub one_cut : Pool → ℕ → Pool
one_cut pool class = record pool { uncut = pool.uncut - size_of class; spare = set pool.spare class (get_or pool.spare class 0 + 1) }

one_more : (class count room : ℕ) → room - size_of class * count - size_of class ≡ room - size_of class * (count + 1)
one_more class count room = omega arith

set_more : (spare : List ℕ) (class count : ℕ) → class < length spare →
    set (set spare class (get_or spare class 0 + count)) class (get_or (set spare class (get_or spare class 0 + count)) class 0 + 1) ≡ set spare class (get_or spare class 0 + (count + 1))
set_more spare class count inside =
    set-set spare class (get_or spare class 0 + count) _
    ∙ ap (set spare class) (ap (λ n. n + 1) (get_or-set_same spare class (get_or spare class 0 + count) 0 inside) ∙ omega arith)

pub reserving_more : (old now next : Pool) (class count : ℕ) → IsReserving old now class count → class < 23 → next ≡ one_cut now class → IsReserving old next class (count + 1)
reserving_more old now next class count h known is = record {
  long = h.long;
  is = is ∙ ap (λ p. one_cut p class) h.is
      ∙ same_pool old.live old.live _ _ _ _ refl (one_more class count old.uncut) (set_more old.spare class count (omega (arith, h.long)));
}

-- ---- taking a block

-- the pool with the first free block of the class live
abbrev pub one_taken : Pool → ℕ → ℕ → ℕ → Pool
one_taken pool class len place = record pool { live = map.insert pool.live place (zeros len); spare = set pool.spare class (get_or pool.spare class 0 - 1) }

pub taken_cut : (pool : Pool) (class len place : ℕ) → class ≡ class_of len → class < 23 → length pool.spare ≡ 23 → get_or pool.spare class 0 ≡ 0 →
    one_taken (one_cut pool class) class len place ≡ taken pool len place
taken_cut pool class len place is known long none =
    subst (λ k. one_taken (one_cut pool class) class len place ≡ record {
      live = map.insert pool.live place (zeros len);
      uncut = if nat_eq (get_or pool.spare k 0) 0 then pool.uncut - size_of k else pool.uncut;
      spare = set pool.spare k (get_or pool.spare k 0 - 1);
    }) is (same_pool _ _ _ _ _ _ refl (rw (same_number (get_or pool.spare class 0) 0 none) refl) (
    set-set pool.spare class (get_or pool.spare class 0 + 1) _
    ∙ ap (set pool.spare class) (ap (λ n. n - 1) (get_or-set_same pool.spare class (get_or pool.spare class 0 + 1) 0 (omega (arith, long))) ∙ omega (arith, none))
    ))

pub taken_had : (pool : Pool) (class len place : ℕ) → class ≡ class_of len → get_or pool.spare class 0 ≢ 0 →
    one_taken pool class len place ≡ taken pool len place
taken_had pool class len place is some =
    subst (λ k. one_taken pool class len place ≡ record {
      live = map.insert pool.live place (zeros len);
      uncut = if nat_eq (get_or pool.spare k 0) 0 then pool.uncut - size_of k else pool.uncut;
      spare = set pool.spare k (get_or pool.spare k 0 - 1);
    }) is (same_pool _ _ _ _ _ _ refl (rw (other_number (get_or pool.spare class 0) 0 some) refl) refl)

-- ---- copying pairs to the front of a block

abbrev pub front : Pool → Extent → Extent → ℕ → List (ℕ × ℕ)
front pool from to count = take count (pairs_of pool from) ++ drop count (pairs_of pool to)

-- the pool after this many pairs were copied
abbrev pub copied : Pool → Extent → Extent → ℕ → Pool
copied pool from to count = record pool { live = map.insert pool.live to.place (front pool from to count) }

pub copied_none : (pool : Pool) (from to : Extent) → ListsBlock pool to → pool ≡ copied pool from to 0
copied_none pool from to h =
    same_pool pool.live _ pool.uncut pool.uncut pool.spare pool.spare (is_inserted pool.live pool.live to.place (pairs_of pool to) (pairs_there pool to h).pairs (λ q apart. refl)) refl refl

module _ (pool : Pool) (from to : Extent) (count : ℕ) (has_from : ListsBlock pool from) (has_to : ListsBlock pool to) (apart : from.place ≢ to.place) (shorter : from.len ≤ to.len) (within : count ≤ from.len) where
  front_long : length (front pool from to count) ≡ to.len
  front_long =
      length-append (take count (pairs_of pool from)) (drop count (pairs_of pool to))
      ∙ omega (arith, length-take-le count (pairs_of pool from) (omega (arith, (pairs_there pool from has_from).long)), length-drop count (pairs_of pool to), (pairs_there pool to has_to).long)

  pub copied_to : ListsBlock (copied pool from to count) to
  copied_to = listed_by (copied pool from to count) to (front pool from to count) (get_inserted pool.live to.place (front pool from to count)) front_long

  from_stays : map.get (copied pool from to count).live from.place ≡ map.get pool.live from.place
  from_stays = get_beside_inserted pool.live to.place (front pool from to count) from.place apart

  pub copied_from : ListsBlock (copied pool from to count) from
  copied_from = ap (option_map length) from_stays ∙ has_from

  -- one pair more
  next_front : (pair : ℕ × ℕ) → count < from.len → get_or (pairs_of pool from) count pair ≡ pair → set (front pool from to count) count pair ≡ front pool from to (count + 1)
  next_front pair more is =
      let front_part = length-take-le count (pairs_of pool from) (omega (arith, (pairs_there pool from has_from).long)) in
      ap (λ xs. set (take count (pairs_of pool from) ++ xs) count pair) (drop_more (pairs_of pool to) count pair (omega (arith, (pairs_there pool to has_to).long)))
      ∙ set_at (take count (pairs_of pool from)) (get_or (pairs_of pool to) count pair) (drop (count + 1) (pairs_of pool to)) pair count front_part
      ∙ sym (append_assoc (take count (pairs_of pool from)) (pair ∷ []) (drop (count + 1) (pairs_of pool to)))
      ∙ ap (λ xs. xs ++ drop (count + 1) (pairs_of pool to)) (sym (take_more (pairs_of pool from) count pair (omega (arith, (pairs_there pool from has_from).long)) ∙ ap (λ p. take count (pairs_of pool from) ++ p ∷ []) is))

  read_pair : (xs : List (ℕ × ℕ)) (k : ℕ) (pair : ℕ × ℕ) → slice_get xs k ≡ Some pair → get_or xs k pair ≡ pair
  read_pair [] k pair h = refl
  read_pair (x ∷ xs) zero pair h = ap (λ o. unwrap_or o pair) h
  read_pair (x ∷ xs) (suc k) pair h = read_pair xs k pair h

  pub copied_more : (pair : ℕ × ℕ) → count < from.len → slice_get (pairs_of (copied pool from to count) from) count ≡ Some pair →
      written (copied pool from to count) to count pair ≡ copied pool from to (count + 1)
  copied_more pair more is =
      let read : get_or (pairs_of pool from) count pair ≡ pair = read_pair (pairs_of pool from) count pair (subst (λ o. slice_get (unwrap_or o []) count ≡ Some pair) from_stays is) in
      same_pool _ _ _ _ _ _
      (ap (λ o. map.insert (copied pool from to count).live to.place (set (unwrap_or o []) count pair)) (get_inserted pool.live to.place (front pool from to count))
      ∙ insert_twice pool.live to.place (front pool from to count) _
      ∙ ap (map.insert pool.live to.place) (next_front pair more read)) refl refl

-- the pool after all pairs of a block were copied to the front of another
abbrev pub with_front : Pool → Extent → Extent → Pool
with_front pool from to = record pool { live = map.insert pool.live to.place (pairs_of pool from ++ drop from.len (pairs_of pool to)) }

pub copied_all : (pool : Pool) (from to : Extent) (count : ℕ) → ListsBlock pool from → count ≡ from.len →
    copied pool from to count ≡ with_front pool from to
copied_all pool from to count h all =
    rw all (same_pool _ _ _ _ _ _ (ap (λ xs. map.insert pool.live to.place (xs ++ drop from.len (pairs_of pool to))) (take_all from.len (pairs_of pool from) (omega (arith, (pairs_there pool from h).long)))) refl refl)

-- ---- growing into another block

module _ (pool : Pool) (block longer : Extent) (len : ℕ) (listed : ListsBlock pool block) (fresh : map.get pool.live longer.place ≡ None) (long : longer.len ≡ len) where
  pub grow_apart : block.place ≢ longer.place
  grow_apart same = absurd (true≢false (ap is_some (sym (pairs_there pool block listed).pairs ∙ ap (map.get pool.live) same ∙ fresh)))

  block_stays : map.get (taken pool len longer.place).live block.place ≡ map.get pool.live block.place
  block_stays = get_beside_inserted pool.live longer.place (zeros len) block.place grow_apart

  pub grow_from : ListsBlock (taken pool len longer.place) block
  grow_from = ap (option_map length) block_stays ∙ listed

  pub grow_to : ListsBlock (taken pool len longer.place) longer
  grow_to = listed_by (taken pool len longer.place) longer (zeros len) (get_inserted pool.live longer.place (zeros len)) (length-replicate len (0, 0) ∙ sym long)

  -- the pool after the pairs were copied
  abbrev filled : Pool
  filled = with_front (taken pool len longer.place) block longer

  pub grow_give : ListsBlock filled block
  grow_give = ap (option_map length) (get_beside_inserted (taken pool len longer.place).live longer.place _ block.place grow_apart) ∙ grow_from

  filled_pairs : pairs_of (taken pool len longer.place) block ++ drop block.len (pairs_of (taken pool len longer.place) longer) ≡ pairs_of pool block ++ zeros (len - block.len)
  filled_pairs =
      ap (λ o. unwrap_or o [] ++ drop block.len (pairs_of (taken pool len longer.place) longer)) block_stays
      ∙ ap (λ o. pairs_of pool block ++ drop block.len (unwrap_or o [])) (get_inserted pool.live longer.place (zeros len))
      ∙ ap (λ xs. pairs_of pool block ++ xs) (drop-replicate block.len len (0, 0))

  given_live : map.remove (map.insert (map.insert pool.live longer.place (zeros len)) longer.place (pairs_of pool block ++ zeros (len - block.len))) block.place ≡ lengthened pool block len longer.place
  given_live = maps_same _ _ (λ q. elim (cases_eq q block.place) [
    | inl same ↦ rw same (
        get_removed _ block.place
        ∙ sym (get_beside_inserted (map.remove pool.live block.place) longer.place _ block.place grow_apart ∙ get_removed pool.live block.place)
        )
    | inr other ↦ get_beside_removed _ block.place q other ∙ elim (cases_eq q longer.place) [
      | inl same ↦ rw same (get_inserted _ longer.place _ ∙ sym (get_inserted (map.remove pool.live block.place) longer.place _))
      | inr beside ↦
          get_beside_inserted _ longer.place _ q beside ∙ get_beside_inserted pool.live longer.place _ q beside
          ∙ sym (get_beside_inserted (map.remove pool.live block.place) longer.place _ q beside ∙ get_beside_removed pool.live block.place q other)
    ]
  ])

  pub grown_live : (given filled block).live ≡ lengthened pool block len longer.place
  grown_live = ap (λ xs. map.remove (map.insert (map.insert pool.live longer.place (zeros len)) longer.place xs) block.place) filled_pairs ∙ given_live

  pub grown_elsewhere : class_of len ≢ class_of block.len → given filled block ≡ grown pool block len longer.place
  grown_elsewhere differ =
      rw (other_number (class_of len) (class_of block.len) differ)
      (same_pool _ _ _ _ _ _ grown_live refl refl)

pub grown_in_place : (pool : Pool) (block : Extent) (len : ℕ) → class_of len ≡ class_of block.len → record pool { live = lengthened pool block len block.place } ≡ grown pool block len block.place
grown_in_place pool block len same = rw (same_number (class_of len) (class_of block.len) same) refl
