-- The pool has just the cells that the rows need, and a free block for each of them.
use Rattle.std.proofs.Common.{◌≡◌, ◌≢◌, ℕ, zero, suc, ◌+◌, ◌-◌, ◌*◌, ◌<◌, ◌≤◌, max, List, length, get_or, set, take, drop, sum, replicate, refl, sym, ap, ◌∙◌, arith, inl, inr, add-one, length-set, get_or-set_same, get_or-set_other}
use Rattle.std.proofs.lemmas.Bool.{cases_eq}
use Rattle.std.proofs.lemmas.Nat.{pow_below}
use Rattle.std.proofs.lemmas.List.Sums.{sum_by_more, sum_by-drop_more, get_or-le-sum_by}
use Rattle.std.proofs.lemmas.List.{get_or-replicate, length-replicate, length-drop, take_all}
use Rattle.edge_pool.specs.Classes.{class_of, size_of, IsLen}
use Rattle.edge_pool.specs.Pools.{Pool, spare_of, needed, reserved}
use Rattle.edge_pool.proofs.ClassLemmas.{class_of_is, class_tight, class_known}
use Rattle.edge_pool.proofs.MapLemmas.{same_number, other_number}
use Rattle.outline_trie.specs.inside.Rooms.{has_cells, has_class, rows_of_class, weight, HasRoom, IsReserved, spare_after}

-- a count of children is a length of a row
pub is_len : (counts : List ℕ) (i : ℕ) → sum counts ≤ 4194304 → i < length counts → 0 < get_or counts i 0 → IsLen (get_or counts i 0)
is_len counts i total inside some = (some, omega (arith, total, get_or-le-sum_by (λ x. x) counts i 0 inside))

-- ---- which rows are of a class

has_none : (class len : ℕ) → len ≡ 0 → has_class class len ≡ 0
has_none class len none = rw (same_number len 0 none) refl

has_this : (class len : ℕ) → len ≢ 0 → class_of len ≡ class → has_class class len ≡ 1
has_this class len some is = rw (other_number len 0 some, same_number (class_of len) class is) refl

has_other : (class len : ℕ) → len ≢ 0 → class_of len ≢ class → has_class class len ≡ 0
has_other class len some other = rw (other_number len 0 some, other_number (class_of len) class other) refl

-- ---- the cells of blocks, class by class

pub weight_start : (kinds : List ℕ) → weight kinds 0 ≡ 0
unfolding weight
weight_start kinds = refl

pub weight_step : (kinds : List ℕ) (class : ℕ) → weight kinds (class + 1) ≡ weight kinds class + size_of class * get_or kinds class 0
unfolding weight
weight_step kinds class = ap (weight kinds) (add-one class)

weight_beyond : (kinds : List ℕ) (class more n : ℕ) → n ≤ class → weight (set kinds class more) n ≡ weight kinds n
unfolding weight
weight_beyond kinds class more zero h = refl
weight_beyond kinds class more (suc n) h =
    ap (λ w. w + size_of n * get_or (set kinds class more) n 0) (weight_beyond kinds class more n (omega arith))
    ∙ ap (λ k. weight kinds n + size_of n * k) (get_or-set_other kinds class n more 0 (λ e. omega (arith, e)))

weight_more : (kinds : List ℕ) (class more n : ℕ) → class < n → class < length kinds → more ≡ get_or kinds class 0 + 1 → weight (set kinds class more) n ≡ weight kinds n + size_of class
unfolding weight
weight_more kinds class more zero below inside one = absurd (omega arith)
weight_more kinds class more (suc n) below inside one = elim (cases_eq class n) [
  | inl last ↦ rw (sym last) (
      ap (λ w. w + size_of class * get_or (set kinds class more) class 0) (weight_beyond kinds class more class (omega arith))
      ∙ ap (λ k. weight kinds class + size_of class * k) (get_or-set_same kinds class more 0 inside ∙ one) ∙ product (weight kinds class) (size_of class) (get_or kinds class 0)
      )
  | inr other ↦
      ap (λ w. w + size_of n * get_or (set kinds class more) n 0) (weight_more kinds class more n (omega (arith, other)) inside one)
      ∙ ap (λ k. weight kinds n + size_of class + size_of n * k) (get_or-set_other kinds class n more 0 (λ e. other (sym e))) ∙ swap (weight kinds n) (size_of class) (size_of n * get_or kinds n 0)
]
  where
    product : (w s k : ℕ) → w + s * (k + 1) ≡ w + s * k + s
    product w s k = omega arith

    swap : (w s t : ℕ) → w + s + t ≡ w + t + s
    swap w s t = omega arith

weight_rises : (kinds : List ℕ) (more n : ℕ) → weight kinds n ≤ weight kinds (n + more)
unfolding weight
weight_rises kinds zero n = omega (arith, ap (weight kinds) (nothing n))
  where
    nothing : (a : ℕ) → a + 0 ≡ a
    nothing a = omega arith
weight_rises kinds (suc more) n = omega (arith, weight_rises kinds more n, ap (weight kinds) (later n more))
  where
    later : (a b : ℕ) → a + suc b ≡ suc (a + b)
    later a b = omega arith

-- one class more is within all of them
pub weight_within : (kinds : List ℕ) (class : ℕ) → class < 23 → weight kinds class + size_of class * get_or kinds class 0 ≤ weight kinds 23
weight_within kinds class known = omega (arith, weight_step kinds class, weight_rises kinds (23 - (class + 1)) (class + 1), ap (weight kinds) (all class known))
  where
    all : (class : ℕ) → class < 23 → class + 1 + (23 - (class + 1)) ≡ 23
    all class known = omega arith

weight_none : (n : ℕ) → n ≤ 23 → weight (replicate 23 0) n ≡ 0
unfolding weight
weight_none zero h = refl
weight_none (suc n) h = omega (arith, weight_none n (omega arith), ap (λ k. size_of n * k) (get_or-replicate {A = ℕ} 23 n 0 0 (omega arith)))

-- ---- the rows of each class, counted

pub record AreKinds (counts kinds : List ℕ) (count : ℕ) : Type 0 where
  pub long : length kinds ≡ 23
  pub each : (class : ℕ) → class < 23 → get_or kinds class 0 ≡ rows_of_class (take count counts) class
  pub few : (class : ℕ) → class < 23 → get_or kinds class 0 ≤ count
  pub cells : weight kinds 23 ≤ 2 * sum (take count counts)

pub all_kinds : (counts kinds : List ℕ) (count : ℕ) → AreKinds counts kinds count → length counts ≤ count → ((class : ℕ) → class < 23 → get_or kinds class 0 ≡ rows_of_class counts class) × (weight kinds 23 ≤ 2 * sum counts)
all_kinds counts kinds count h all = (λ class known. h.each class known ∙ ap (λ xs. rows_of_class xs class) (take_all count counts all), omega (arith, h.cells, ap sum (take_all count counts all)))

pub no_kinds : (counts : List ℕ) → AreKinds counts (replicate 23 0) 0
no_kinds counts = record {
  long = length-replicate {A = ℕ} 23 0;
  each = λ class known. get_or-replicate {A = ℕ} 23 class 0 0 known;
  few = λ class known. omega (arith, get_or-replicate {A = ℕ} 23 class 0 0 known);
  cells = omega (arith, weight_none 23 (omega arith));
}

pub same_kinds : (counts kinds : List ℕ) (i : ℕ) → AreKinds counts kinds i → i < length counts → get_or counts i 0 ≡ 0 → AreKinds counts kinds (i + 1)
same_kinds counts kinds i h inside none = record {
  long = h.long;
  each = λ class known. omega (arith, h.each class known, sum_by_more (has_class class) counts i 0 inside, has_none class (get_or counts i 0) none);
  few = λ class known. omega (arith, h.few class known);
  cells = omega (arith, h.cells, sum_by_more (λ x. x) counts i 0 inside);
}

pub more_kinds : (counts kinds : List ℕ) (i class more : ℕ) → AreKinds counts kinds i → i < length counts → IsLen (get_or counts i 0) → class ≡ class_of (get_or counts i 0) → class < 23 → more ≡ get_or kinds class 0 + 1 →
    AreKinds counts (set kinds class more) (i + 1)
more_kinds counts kinds i class more h inside len is known one = record {
  long = length-set kinds class more ∙ h.long;
  each = λ k below. elim (cases_eq k class) [
    | inl same ↦ omega (arith, ap (λ j. get_or (set kinds class more) j 0) same, here, one, h.each k below, ap (λ j. get_or kinds j 0) same, sum_by_more (has_class k) counts i 0 inside, has_this k (get_or counts i 0) some (sym is ∙ sym same))
    | inr other ↦ omega (arith, get_or-set_other kinds class k more 0 other, h.each k below, sum_by_more (has_class k) counts i 0 inside, has_other k (get_or counts i 0) some (λ e. other (sym e ∙ sym is)))
  ];
  few = λ k below. elim (cases_eq k class) [
    | inl same ↦ omega (arith, ap (λ j. get_or (set kinds class more) j 0) same, here, one, h.few class known)
    | inr other ↦ omega (arith, get_or-set_other kinds class k more 0 other, h.few k below)
  ];
  cells = omega (arith, weight_more kinds class more 23 known (omega (arith, h.long)) one, h.cells, sum_by_more (λ x. x) counts i 0 inside, ap size_of is, class_tight (get_or counts i 0) len);
}
  where
    some : get_or counts i 0 ≢ 0
    some e = omega (arith, len.0, e)

    here : get_or (set kinds class more) class 0 ≡ more
    here = get_or-set_same kinds class more 0 (omega (arith, h.long))

-- ---- the blocks of a class, reserved

class_of_size : (class : ℕ) → class < 23 → class_of (size_of class) ≡ class
class_of_size class known = class_of_is (size_of class) class known (omega arith) (λ k below. pow_below k class below)

module _ (kinds : List ℕ) (pool : Pool) (class size blocks : ℕ) (r : IsReserved kinds pool.spare class) (cells : pool.uncut + weight kinds class ≡ weight kinds 23) (known : class < 23)
    (sized : size ≡ size_of class) (is : blocks ≡ get_or kinds class 0) where
  classed : class_of size ≡ class
  classed = ap class_of sized ∙ class_of_size class known

  none_spare : spare_of pool size ≡ 0
  none_spare = ap (λ k. get_or pool.spare k 0) classed ∙ r.todo class (omega arith) known

  needed_is : needed pool size blocks ≡ size_of class * get_or kinds class 0
  needed_is = ap (λ k. size_of k * (blocks - spare_of pool size)) classed ∙ ap (λ s. size_of class * (blocks - s)) none_spare ∙ ap (λ b. size_of class * b) (omega (arith, is))

  pub reserve_fits : needed pool size blocks ≤ pool.uncut
  reserve_fits = omega (arith, needed_is, cells, weight_within kinds class known)

  most : max (spare_of pool size) blocks ≡ get_or kinds class 0
  most = ap (λ s. max s blocks) none_spare ∙ omega (arith, is)

  spare_is : (reserved pool size blocks).spare ≡ set pool.spare class (get_or kinds class 0)
  spare_is = ap (λ k. set pool.spare k (max (spare_of pool size) blocks)) classed ∙ ap (set pool.spare class) most

  pub reserve_more : IsReserved kinds (reserved pool size blocks).spare (class + 1)
  reserve_more = rw spare_is (record {
    long = length-set pool.spare class (get_or kinds class 0) ∙ r.long;
    done = λ k below. elim (cases_eq k class) [
      | inl same ↦ ap (λ j. get_or (set pool.spare class (get_or kinds class 0)) j 0) same ∙ get_or-set_same pool.spare class (get_or kinds class 0) 0 (omega (arith, r.long)) ∙ ap (λ j. get_or kinds j 0) (sym same)
      | inr other ↦ get_or-set_other pool.spare class k (get_or kinds class 0) 0 other ∙ r.done k (omega (arith, other))
    ];
    todo = λ k above below. get_or-set_other pool.spare class k (get_or kinds class 0) 0 (λ e. omega (arith, e)) ∙ r.todo k (omega arith) below;
  })

  pub cells_more : (reserved pool size blocks).uncut + weight kinds (class + 1) ≡ weight kinds 23
  cells_more = omega (arith, needed_is, reserve_fits, cells, weight_step kinds class)

pub none_reserved : (kinds : List ℕ) → IsReserved kinds (replicate 23 0) 0
none_reserved kinds = record {
  long = length-replicate {A = ℕ} 23 0;
  done = λ class below. absurd (omega arith);
  todo = λ class above below. get_or-replicate {A = ℕ} 23 class 0 0 below;
}

-- ---- a row is made

module _ (counts : List ℕ) (i : ℕ) (pool : Pool) (blocks indexes : ℕ) (h : HasRoom (drop i counts) pool blocks indexes) (inside : i < length counts) where
  abbrev len : ℕ
  len = get_or counts i 0

  pub spare_there : 0 < len → len ≤ 4194304 → 0 < spare_of pool len
  spare_there some fits = omega (arith, h.spare (class_of len) (class_known len (some, fits)).0, sum_by-drop_more (has_class (class_of len)) counts i 0 inside, has_this (class_of len) len (λ e. omega (arith, e)) refl)

  pub room_more : (pool' : Pool) (blocks' indexes' : ℕ) → len ≤ 4194304 → pool'.spare ≡ spare_after pool len → blocks' ≡ blocks - has_cells len → indexes' ≡ indexes - 1 → HasRoom (drop (i + 1) counts) pool' blocks' indexes'
  room_more pool' blocks' indexes' fits spare fewer one = record {
    long = ap length spare ∙ long;
    spare = λ class known. omega (arith, ap (λ xs. get_or xs class 0) spare, left class known);
    blocks = omega (arith, h.blocks, fewer, sum_by-drop_more has_cells counts i 0 inside);
    indexes = omega (arith, h.indexes, one, length-drop i counts, length-drop (i + 1) counts);
  }
    where
      long : length (spare_after pool len) ≡ 23
      long = elim (cases_eq len 0) [
        | inl none ↦ rw (same_number len 0 none) h.long
        | inr some ↦ rw (other_number len 0 some) (length-set pool.spare (class_of len) (spare_of pool len - 1) ∙ h.long)
      ]

      left : (class : ℕ) → class < 23 → rows_of_class (drop (i + 1) counts) class ≤ get_or (spare_after pool len) class 0
      left class known = elim (cases_eq len 0) [
        | inl none ↦ rw (same_number len 0 none) (omega (arith, h.spare class known, sum_by-drop_more (has_class class) counts i 0 inside))
        | inr some ↦ rw (other_number len 0 some) (elim (cases_eq class (class_of len)) [
          | inl same ↦ omega (
            arith,
            ap (λ j. get_or (set pool.spare (class_of len) (spare_of pool len - 1)) j 0) same,
            get_or-set_same pool.spare (class_of len) (spare_of pool len - 1) 0 (omega (arith, h.long, known, same)),
            h.spare class known,
            ap (λ j. get_or pool.spare j 0) same,
            sum_by-drop_more (has_class class) counts i 0 inside,
            has_this class len some (sym same),
          )
          | inr other ↦ omega (arith, get_or-set_other pool.spare (class_of len) class (spare_of pool len - 1) 0 other, h.spare class known, sum_by-drop_more (has_class class) counts i 0 inside)
        ])
      ]
