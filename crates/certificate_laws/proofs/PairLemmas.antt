-- The inner places, by entry and then place.
use Rattle.std.proofs.Common.{◌≡◌, ℕ, zero, suc, ◌+◌, ◌-◌, ◌<◌, ◌≤◌, List, [], ◌∷◌, ◌++◌, length, map, flat_map, filter, refl, sym, ap, subst, arith, Bool, true, false, cond, Contains, inl, inr, ◌⊎◌, AllPairs}
use Rattle.std.specs.List.{range_with_len, enumerate_from}
use Rattle.std.proofs.lemmas.List.Elements.{Contains-append_cases, Contains-append_left, Contains-append_right}
use Rattle.std.proofs.lemmas.Bool.{cases_lt}
use Rattle.steno_rules.specs.Outlines.{outline_of}
use Rattle.steno_rules.proofs.Lists.{in_cons, in_first, in_later, none_in_nil, in_map, in_map_of, in_filter, pairs_cons, pairs_tail, pairs_first, all_of}
use Rattle.certificate_laws.specs.Closures.{Pair}
use Rattle.certificate_laws.specs.Validity.{entry_pairs, inner_pairs}

-- by entry, and then place
abbrev pub Before : Pair → Pair → Type 0
Before a b = (a.entry < b.entry) ⊎ ((a.entry ≡ b.entry) × (a.place < b.place))

module _ {X : Type 0} (R : X → X → Type 0) where
  none_pairs : AllPairs R []
  none_pairs k e d lt below = absurd (omega (arith, below))

  pairs_append : (xs ys : List X) → AllPairs R xs → AllPairs R ys → ((x y : X) → Contains xs x → Contains ys y → R x y) → AllPairs R (xs ++ ys)
  pairs_append [] ys a b across = b
  pairs_append (x ∷ xs) ys a b across =
      pairs_cons R x (xs ++ ys) (all_of (R x) (xs ++ ys) (λ y has. elim (Contains-append_cases xs ys y has) [
        | inl left ↦ pairs_first R x xs y a left
        | inr right ↦ across x y (in_first x xs) right
      ])) (pairs_append xs ys (pairs_tail R x xs a) b (λ u y l r. across u y (in_later x xs u l) r))

  -- Those that pass a test are in the same order.
  pub pairs_filter : (f : X → Bool) (xs : List X) → AllPairs R xs → AllPairs R (filter f xs)
  pairs_filter f [] a = a
  pairs_filter f (x ∷ xs) a = by (f x) refl (pairs_filter f xs (pairs_tail R x xs a))
    where
      by : (b : Bool) → f x ≡ b → AllPairs R (filter f xs) → AllPairs R (cond b (x ∷ filter f xs) (filter f xs))
      by true is rest = pairs_cons R x (filter f xs) (all_of (R x) (filter f xs) (λ y has. pairs_first R x xs y a ((in_filter f xs y).0 has).0)) rest
      by false is rest = rest

abbrev place_of : ℕ → ℕ → Pair
place_of e j = record { entry = e; place = j }

-- a place of a range
in_range : (a n k : ℕ) → Contains (range_with_len a n) k → (a ≤ k) × (k < a + n)
in_range a zero k has = absurd (none_in_nil k has)
in_range a (suc n) k has = elim (in_cons a (range_with_len (a + 1) n) k has) [
  | inl is ↦ (omega (arith, is), omega (arith, is))
  | inr later ↦ (let r = in_range (a + 1) n k later in (omega (arith, r.0), omega (arith, r.1)))
]

range_in : (a n k : ℕ) → a ≤ k → k < a + n → Contains (range_with_len a n) k
range_in a zero k ge lt = absurd (omega arith)
range_in a (suc n) k ge lt = elim (cases_lt a k) [
  | inl later ↦ in_later a (range_with_len (a + 1) n) k (range_in (a + 1) n k (omega arith) (omega arith))
  | inr here ↦ (let same : a ≡ k = omega arith in subst (λ j. Contains (a ∷ range_with_len (a + 1) n) j) same (in_first a (range_with_len (a + 1) n)))
]

-- the places of the entries from a number on
abbrev places_from : ℕ → List (List ℕ) → List Pair
places_from k outlines = flat_map entry_pairs (enumerate_from k outlines)

in_entry : (k : ℕ) (o : List ℕ) (p : Pair) → Contains (entry_pairs (k, o)) p → (p.entry ≡ k) × (1 ≤ p.place) × (p.place < length o)
in_entry k o p has =
    let x = in_map (place_of k) (range_with_len 1 (length o - 1)) p has in
    let r = in_range 1 (length o - 1) x.0 x.1 in
    let entry : k ≡ p.entry = ap (λ q. q.entry) x.2 in
    let place : x.0 ≡ p.place = ap (λ q. q.place) x.2 in
    (sym entry, omega (arith, r.0, place), omega (arith, r.0, r.1, place))

pub entry_from : (k : ℕ) (outlines : List (List ℕ)) (p : Pair) → Contains (places_from k outlines) p → k ≤ p.entry
entry_from k [] p has = absurd (none_in_nil p has)
entry_from k (o ∷ os) p has = elim (Contains-append_cases (entry_pairs (k, o)) (places_from (k + 1) os) p has) [
  | inl left ↦ (let r = (in_entry k o p left).0 in omega (arith, r))
  | inr right ↦ (let r = entry_from (k + 1) os p right in omega (arith, r))
]

mapped_rise : (k a n : ℕ) → AllPairs Before (map (place_of k) (range_with_len a n))
mapped_rise k a zero = none_pairs Before
mapped_rise k a (suc n) = pairs_cons Before (place_of k a) (map (place_of k) (range_with_len (a + 1) n)) (all_of (Before (place_of k a)) (map (place_of k) (range_with_len (a + 1) n)) (λ p has.
    let x = in_map (place_of k) (range_with_len (a + 1) n) p has in
    let r = in_range (a + 1) n x.0 x.1 in
    inr (ap (λ q. q.entry) x.2, (let place : x.0 ≡ p.place = ap (λ q. q.place) x.2 in omega (arith, r.0, place))))) (mapped_rise k (a + 1) n)

places_rise : (k : ℕ) (outlines : List (List ℕ)) → AllPairs Before (places_from k outlines)
places_rise k [] = none_pairs Before
places_rise k (o ∷ os) = pairs_append Before (entry_pairs (k, o)) (places_from (k + 1) os) (mapped_rise k 1 (length o - 1)) (places_rise (k + 1) os)
    (λ p q left right. let a = (in_entry k o p left).0 in let b = entry_from (k + 1) os q right in inl (omega (arith, a, b)))

-- The inner places are in order.
pub inner_pairs-rise : (outlines : List (List ℕ)) → AllPairs Before (inner_pairs outlines)
inner_pairs-rise outlines = places_rise 0 outlines

place_there : (k : ℕ) (outlines : List (List ℕ)) (e j : ℕ) → e < length outlines → 1 ≤ j → j < length (outline_of outlines e) → Contains (places_from k outlines) (place_of (k + e) j)
place_there k [] e j below some inside = absurd (omega arith)
place_there k (o ∷ os) zero j below some inside =
    let same : k + 0 ≡ k = omega arith in
    subst (λ n. Contains (places_from k (o ∷ os)) (place_of n j)) (sym same)
    (Contains-append_left (entry_pairs (k, o)) (places_from (k + 1) os) (place_of k j) (in_map_of (place_of k) (range_with_len 1 (length o - 1)) j (range_in 1 (length o - 1) j some (omega arith))))
place_there k (o ∷ os) (suc e) j below some inside =
    let same : k + suc e ≡ k + 1 + e = omega arith in
    subst (λ n. Contains (places_from k (o ∷ os)) (place_of n j)) (sym same)
    (Contains-append_right (entry_pairs (k, o)) (places_from (k + 1) os) (place_of (k + 1 + e) j) (place_there (k + 1) os e j (omega arith) some inside))

-- An inner place of an entry is among them.
pub in_inner_pairs : (outlines : List (List ℕ)) (e j : ℕ) → e < length outlines → 1 ≤ j → j < length (outline_of outlines e) → Contains (inner_pairs outlines) (place_of e j)
in_inner_pairs outlines e j below some inside = let same : 0 + e ≡ e = omega arith in subst (λ n. Contains (inner_pairs outlines) (place_of n j)) same (place_there 0 outlines e j below some inside)

inside_from : (k : ℕ) (outlines : List (List ℕ)) (p : Pair) → Contains (places_from k outlines) p → (e : ℕ) × (p.entry ≡ k + e) × (e < length outlines) × (1 ≤ p.place) × (p.place < length (outline_of outlines e))
inside_from k [] p has = absurd (none_in_nil p has)
inside_from k (o ∷ os) p has = elim (Contains-append_cases (entry_pairs (k, o)) (places_from (k + 1) os) p has) [
  | inl left ↦ (let r = in_entry k o p left in (0, (let e = r.0 in omega (arith, e)), omega arith, r.1, r.2))
  | inr right ↦ (let r = inside_from (k + 1) os p right in (suc r.0, (let e = r.1 in omega (arith, e)), (let l = r.2 in omega (arith, l)), r.3, r.4))
]

-- Each of them lies inside its entry.
pub inner_pairs-inside : (outlines : List (List ℕ)) (p : Pair) → Contains (inner_pairs outlines) p → (p.entry < length outlines) × (1 ≤ p.place) × (p.place < length (outline_of outlines p.entry))
inner_pairs-inside outlines p has =
    let r = inside_from 0 outlines p has in
    let same : r.0 ≡ p.entry = (let e = r.1 in omega (arith, e)) in
    subst (λ e. (e < length outlines) × (1 ≤ p.place) × (p.place < length (outline_of outlines e))) same (r.2, r.3, r.4)
