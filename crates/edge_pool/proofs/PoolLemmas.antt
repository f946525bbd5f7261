-- What each step of the pool makes of the pool that callers see.
use Rattle.std.proofs.Common.{◌≡◌, ℕ, ◌+◌, ◌-◌, ◌<◌, ◌≤◌, List, [], ◌++◌, length, get_or, take, drop, set, refl, sym, ap, subst, ◌∙◌, arith, Some, None, unwrap_or, length-set}
use Rattle.std.specs.Ordering.{nat_cmp}
use Rattle.std.specs.FinMap as map
use Rattle.edge_pool.specs.Classes.{class_of, size_of, IsLen}
use Rattle.edge_pool.specs.inside.Runs.{IsCleared}
use Rattle.edge_pool.specs.Pools.{Extent, Pool, ListsBlock, pairs_of, written, given, zeros, lengthened}
use Rattle.edge_pool.specs.inside.Cuts.{block_at, contents, AreSound}
use Rattle.edge_pool.specs.declared.cut.Cut.{Cut}
use Rattle.edge_pool.proofs.ClassLemmas.{size_pos, class_known}
use Rattle.edge_pool.proofs.MapLemmas.{insert_removed}
use Rattle.edge_pool.proofs.CellLemmas.{run}
use Rattle.edge_pool.proofs.CutLemmas.{told}
use Rattle.edge_pool.proofs.StepLemmas.{IsListed, listed_is, write_contents, widen_contents, cut_contents, free_unlisted, take_contents, give_contents}

-- the pool that fields stand for
abbrev pub seen : List (ℕ × ℕ) → List ℕ → ℕ → List Cut → Pool
seen cells spare cut cuts = record { live = contents cells cuts; uncut = length cells - cut; spare = spare }

pub same_pool : (live live' : map.FinMap nat_cmp (List (ℕ × ℕ))) (uncut uncut' : ℕ) (spare spare' : List ℕ) → live ≡ live' → uncut ≡ uncut' → spare ≡ spare' →
    ◌≡◌ {A = Pool} (record { live = live; uncut = uncut; spare = spare }) (record { live = live'; uncut = uncut'; spare = spare' })
same_pool live live' uncut uncut' spare spare' e f g = λ i. record { live = e i; uncut = f i; spare = g i }

module _ (cells : List (ℕ × ℕ)) (heads spare : List ℕ) (cut : ℕ) (cuts : List Cut) (s : AreSound cells heads spare cut cuts) (pool : Pool) (is : seen cells spare cut cuts ≡ pool) where
  pub listed : (block : Extent) → ListsBlock pool block → IsListed cells cut cuts block.place block.len
  listed block h = listed_is cells heads spare cut cuts block.place block.len s (subst (λ v. ListsBlock v block) (sym is) h)

  pub pairs_are : (block : Extent) → ListsBlock pool block → pairs_of pool block ≡ run cells block.place block.len
  pairs_are block h = subst (λ v. pairs_of v block ≡ run cells block.place block.len) is (ap (λ o. unwrap_or o []) (listed block h).pairs)

  -- what a call reads is what callers see
  pub shown_pairs : (block : Extent) → ListsBlock pool block → (xs : List (ℕ × ℕ)) (place len : ℕ) → xs ≡ cells → place ≡ block.place → len ≡ block.len →
      map.get pool.live block.place ≡ Some (take (place + len - place) (drop place xs))
  shown_pairs block h xs place len same at long =
      rw (same, at, long) (subst (λ n. map.get pool.live block.place ≡ Some (take n (drop block.place cells))) (sum block.place block.len)
      (subst (λ v. map.get v.live block.place ≡ Some (run cells block.place block.len)) is (listed block h).pairs))
    where
      sum : (a b : ℕ) → b ≡ a + b - a
      sum a b = omega arith

  pub write_seen : (block : Extent) (k : ℕ) (pair : ℕ × ℕ) → ListsBlock pool block → k < block.len → seen (set cells (block.place + k) pair) spare cut cuts ≡ written pool block k pair
  write_seen block k pair h below =
      let l = listed block h in
      subst (λ v. seen (set cells (block.place + k) pair) spare cut cuts ≡ written v block k pair) is
      (same_pool _ _ _ _ _ _
      (write_contents cells heads spare cut cuts block.place l.class block.len k pair s l.is below
      ∙ ap (λ xs. map.insert (contents cells cuts) block.place (set xs k pair)) (sym (ap (λ o. unwrap_or o []) l.pairs)))
      (ap (λ n. n - cut) (length-set cells (block.place + k) pair)) refl)

  pub room_is : (class : ℕ) → size_of class ≤ pool.uncut → cut + size_of class ≤ length cells
  room_is class h =
      let room : size_of class ≤ length cells - cut = subst (λ v. size_of class ≤ v.uncut) (sym is) h in
      omega (arith, size_pos class)

  pub cut_seen : (class : ℕ) → class < 23 → cut + size_of class ≤ length cells →
      seen (set cells cut (get_or heads class 0, 0)) (set spare class (get_or spare class 0 + 1)) (cut + size_of class) (told cuts cut class 0)
      ≡ record pool { uncut = pool.uncut - size_of class; spare = set pool.spare class (get_or pool.spare class 0 + 1) }
  cut_seen class known room = subst (λ v.
      seen (set cells cut (get_or heads class 0, 0)) (set spare class (get_or spare class 0 + 1)) (cut + size_of class) (told cuts cut class 0)
      ≡ record v { uncut = v.uncut - size_of class; spare = set v.spare class (get_or v.spare class 0 + 1) }) is
      (same_pool _ _ _ _ _ _ (cut_contents cells heads spare cut cuts class s known room) (omega (arith, length-set cells cut (get_or heads class 0, 0))) refl)

  pub listed_at : (block : Extent) → ListsBlock pool block → (class : ℕ) → class ≡ class_of block.len → block_at cuts block.place ≡ Some (class, block.len)
  listed_at block h class classed = let l = listed block h in l.is ∙ ap (λ k. Some (k, block.len)) (sym (classed ∙ l.classed))

  -- the fields after `give`, whose history says this
  abbrev pub given_fields : ℕ → ℕ → List Cut → Pool
  given_fields place class cuts' = seen (set cells place (get_or heads class 0, 0)) (set spare class (get_or spare class 0 + 1)) cut cuts'

  pub give_seen : (block : Extent) → ListsBlock pool block → (place class : ℕ) → place ≡ block.place → class ≡ class_of block.len → (cuts' : List Cut) → cuts' ≡ told cuts place class 0 →
      given_fields place class cuts' ≡ given pool block
  give_seen block h place class at classed cuts' is_told =
      subst (λ cs. given_fields place class cs ≡ given pool block) (sym is_told)
      (subst (λ p. given_fields p class (told cuts p class 0) ≡ given pool block) (sym at)
      (subst (λ k. given_fields block.place k (told cuts block.place k 0) ≡ given pool block) (sym classed)
      (subst (λ v. given_fields block.place (class_of block.len) (told cuts block.place (class_of block.len) 0) ≡ given v block) is
      (same_pool _ _ _ _ _ _
      (give_contents cells heads spare cut cuts block.place (class_of block.len) block.len s (listed_at block h (class_of block.len) refl) (listed block h).live)
      (ap (λ n. n - cut) (length-set cells block.place (get_or heads (class_of block.len) 0, 0))) refl))))

  pub spare_there : (class : ℕ) → 0 < get_or pool.spare class 0 → 0 < get_or spare class 0
  spare_there class h = subst (λ v. 0 < get_or v.spare class 0) (sym is) h

  -- it isn't live yet
  pub take_unlisted : (class : ℕ) → class < 23 → 0 < get_or spare class 0 → map.get pool.live (get_or heads class 0) ≡ None
  take_unlisted class known has = subst (λ v. map.get v.live (get_or heads class 0) ≡ None) is (free_unlisted cells heads spare cut cuts class s known has)

  pub take_seen : (new : List (ℕ × ℕ)) (class len : ℕ) → class < 23 → 0 < get_or spare class 0 → 0 < len → len ≤ size_of class → class_of len ≡ class →
      IsCleared cells new (get_or heads class 0) (get_or heads class 0 + len) →
      seen new (set spare class (get_or spare class 0 - 1)) cut (told cuts (get_or heads class 0) class len)
      ≡ record pool { live = map.insert pool.live (get_or heads class 0) (zeros len); spare = set pool.spare class (get_or pool.spare class 0 - 1) }
  take_seen new class len known has live fits classed cleared = subst (λ v.
      seen new (set spare class (get_or spare class 0 - 1)) cut (told cuts (get_or heads class 0) class len)
      ≡ record v { live = map.insert v.live (get_or heads class 0) (zeros len); spare = set v.spare class (get_or v.spare class 0 - 1) }) is
      (same_pool _ _ _ _ _ _
      (take_contents cells new heads spare cut cuts class len (get_or spare class 0 - 1) s known (omega arith) live fits classed cleared)
      (ap (λ n. n - cut) cleared.length) refl)

  pub widen_fits : (block : Extent) (longer : ℕ) → ListsBlock pool block → IsLen longer → class_of longer ≡ class_of block.len → longer ≤ size_of (class_of longer)
  widen_fits block longer h bound same = (class_known longer bound).1

  pub widen_within : (block : Extent) (longer : ℕ) → ListsBlock pool block → IsLen longer → class_of longer ≡ class_of block.len → block.place + longer ≤ length cells
  widen_within block longer h bound same =
      omega (arith, (class_known longer bound).1, (s.blocks block.place (class_of longer) block.len (listed_at block h (class_of longer) same)).within, s.within)

  pub widen_seen : (new : List (ℕ × ℕ)) (block : Extent) (longer : ℕ) → ListsBlock pool block → block.len ≤ longer → IsLen longer → class_of longer ≡ class_of block.len →
      IsCleared cells new (block.place + block.len) (block.place + longer) →
      seen new spare cut (told cuts block.place (class_of longer) longer) ≡ record pool { live = lengthened pool block longer block.place }
  widen_seen new block longer h le bound same cleared =
      let l = listed block h in
      subst (λ v. seen new spare cut (told cuts block.place (class_of longer) longer) ≡ record v { live = lengthened v block longer block.place }) is
      (same_pool _ _ _ _ _ _
      (widen_contents cells new heads spare cut cuts block.place (class_of longer) block.len longer s (listed_at block h (class_of longer) same) l.live le (widen_fits block longer h bound same) cleared
      ∙ ap (λ xs. map.insert (contents cells cuts) block.place (xs ++ zeros (longer - block.len))) (sym (ap (λ o. unwrap_or o []) l.pairs))
      ∙ sym (insert_removed (contents cells cuts) block.place _))
      (ap (λ n. n - cut) cleared.length) refl)

-- ---- what the fields are after a run of cells was cleared

pub same_fields : (items new : List (ℕ × ℕ)) (heads heads' spare : List ℕ) (cut : ℕ) (cuts cuts' : List Cut) → items ≡ new → heads ≡ heads' → cuts ≡ cuts' →
    AreSound new heads' spare cut cuts' → AreSound items heads spare cut cuts
same_fields items new heads heads' spare cut cuts cuts' e f g h = rw (e, f, g) h

pub same_seen : (items new : List (ℕ × ℕ)) (spare : List ℕ) (cut : ℕ) (cuts cuts' : List Cut) (pool : Pool) → items ≡ new → cuts ≡ cuts' →
    seen new spare cut cuts' ≡ pool → seen items spare cut cuts ≡ pool
same_seen items new spare cut cuts cuts' pool e g h = rw (e, g) h

-- the cleared end of a block, by what callers see of it
pub widen_cleared : (cells xs new : List (ℕ × ℕ)) (from place width len longer : ℕ) → xs ≡ cells → from ≡ place → width ≡ len →
    IsCleared xs new (from + width) (from + longer) → IsCleared cells new (place + len) (place + longer)
widen_cleared cells xs new from place width len longer e f g h = rw (← e, ← f, ← g) h

pub told_same : (cuts cuts' : List Cut) (p place k class len : ℕ) → p ≡ place → k ≡ class → cuts' ≡ told cuts p k len → cuts' ≡ told cuts place class len
told_same cuts cuts' p place k class len e f h = h ∙ ap (λ q. told cuts q k len) e ∙ ap (λ q. told cuts place q len) f
