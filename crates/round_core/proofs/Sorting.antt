-- Sorting a list of numbers gives one list, and a rising one where no number stands twice.
use Rattle.std.proofs.Common.{◌≡◌, ◌≢◌, ℕ, suc, ◌+◌, ◌≤◌, ◌<◌, ◌⊎◌, Bool, true, false, List, [], ◌∷◌, ◌++◌, length, sym, ap, subst, ◌∙◌, refl, arith, inl, inr}
use Rattle.std.specs.Prelude.{nat_lt, cond, sum_by}
use Rattle.std.specs.List.Sorted.{IsPermutation, IsSorted, IsNonDecreasingBy}
use Rattle.std.specs.Ordering.{nat_cmp}
use Rattle.std.proofs.lemmas.List.Sorted.{IsNonDecreasingBy-from_sort, sum_by-IsPermutation}
use Rattle.std.proofs.lemmas.List.Sums.{sum_by-cons}
use Rattle.std.proofs.lemmas.Bool.{ltb-true, ltb-false, cases_lt, lt-ltb, le-ltb}
use Rattle.std.proofs.lemmas.Option.{slice_get_within, get_or_from_slice_get}
use Rattle.round_core.specs.Machines.{put, sorted}
use Rattle.round_core.specs.Rounds.{Has, AreRisingNumbers}
use Rattle.round_core.proofs.Members.{has_none, has_snoc, has_cons, has_first, has_later}

-- ---- members and order

-- no number stands twice
abbrev pub AreDistinct : List ℕ → Type 0
AreDistinct [] = Unit {0}
AreDistinct (x ∷ xs) = ((y : ℕ) → Has xs y → x ≢ y) × AreDistinct xs

pub distinct_snoc : (xs : List ℕ) (t : ℕ) → AreDistinct xs → (Has xs t → ⊥) → AreDistinct (xs ++ t ∷ [])
distinct_snoc [] t h new = ((λ y has. absurd (has_none y has)), tt)
distinct_snoc (x ∷ xs) t h new = (
  (λ y has. elim (has_snoc xs t y has) [ inl old ↦ h.0 y old | inr is ↦ (λ e. new (subst (λ z. Has (x ∷ xs) z) (e ∙ sym is) (has_first x xs))) ]),
  distinct_snoc xs t h.1 (λ has. new (has_later x xs t has)),
)

pub put_has : (x : ℕ) (ys : List ℕ) (s : ℕ) → Has (put x ys) s → (x ≡ s) ⊎ Has ys s
put_has x [] s h = elim (has_cons x [] s h) [ inl is ↦ inl is | inr none ↦ inr none ]
put_has x (y ∷ ys) s h = by (nat_lt y x) h (put_has x ys s)
  where
    by : (b : Bool) → Has (cond b (y ∷ put x ys) (x ∷ y ∷ ys)) s → (Has (put x ys) s → (x ≡ s) ⊎ Has ys s) → (x ≡ s) ⊎ Has (y ∷ ys) s
    by true has rest = elim (has_cons y (put x ys) s has) [
      | inl is ↦ inr (subst (λ z. Has (y ∷ ys) z) is (has_first y ys))
      | inr more ↦ elim (rest more) [ inl is ↦ inl is | inr old ↦ inr (has_later y ys s old) ]
    ]
    by false has rest = has_cons x (y ∷ ys) s has

has_put : (x : ℕ) (ys : List ℕ) (s : ℕ) → (x ≡ s) ⊎ Has ys s → Has (put x ys) s
has_put x [] s (inl is) = subst (λ z. Has (x ∷ []) z) is (has_first x [])
has_put x [] s (inr none) = absurd (has_none s none)
has_put x (y ∷ ys) s h = by (nat_lt y x) (λ k. has_put x ys s k)
  where
    by : (b : Bool) → ((x ≡ s) ⊎ Has ys s → Has (put x ys) s) → Has (cond b (y ∷ put x ys) (x ∷ y ∷ ys)) s
    by true rest = elim h [
      | inl is ↦ has_later y (put x ys) s (rest (inl is))
      | inr old ↦ elim (has_cons y ys s old) [ inl is ↦ subst (λ z. Has (y ∷ put x ys) z) is (has_first y (put x ys)) | inr more ↦ has_later y (put x ys) s (rest (inr more)) ]
    ]
    by false rest = elim h [ inl is ↦ subst (λ z. Has (x ∷ y ∷ ys) z) is (has_first x (y ∷ ys)) | inr old ↦ has_later x (y ∷ ys) s old ]

put_length : (x : ℕ) (ys : List ℕ) → length (put x ys) ≡ suc (length ys)
put_length x [] = refl
put_length x (y ∷ ys) = by (nat_lt y x) (put_length x ys)
  where
    by : (b : Bool) → length (put x ys) ≡ suc (length ys) → length (cond b (y ∷ put x ys) (x ∷ y ∷ ys)) ≡ suc (length (y ∷ ys))
    by true e = omega (arith, e)
    by false e = omega arith

distinct_lt : (a b : ℕ) → b ≤ a → a ≢ b → b < a
distinct_lt a b le ne = elim (cases_lt b a) [ inl lt ↦ lt | inr ge ↦ absurd (ne (omega (arith, le, ge))) ]

put_rising : (x : ℕ) (ys : List ℕ) → AreRisingNumbers ys → (Has ys x → ⊥) → AreRisingNumbers (put x ys)
put_rising x [] h new = ((λ y has. absurd (has_none y has)), tt)
put_rising x (y ∷ ys) h new = by (nat_lt y x) refl (put_rising x ys h.1 (λ has. new (has_later y ys x has)))
  where
    by : (b : Bool) → nat_lt y x ≡ b → AreRisingNumbers (put x ys) → AreRisingNumbers (cond b (y ∷ put x ys) (x ∷ y ∷ ys))
    by true is rest = ((λ z has. elim (put_has x ys z has) [ inl same ↦ (let l = ltb-true y x is in omega (arith, l, same)) | inr old ↦ h.0 z old ]), rest)
    by false is rest = (
      (λ z has. elim (has_cons y ys z has) [
        | inl same ↦ (let l = ltb-false y x is in let n : y ≢ x = (λ e. new (subst (λ w. Has (y ∷ ys) w) e (has_first y ys))) in let d = distinct_lt y x l n in omega (arith, d, same))
        | inr old ↦ (let l = ltb-false y x is in let m = h.0 z old in omega (arith, l, m))
      ]),
      h,
    )

pub sorted_has : (xs : List ℕ) (s : ℕ) → Has (sorted xs) s → Has xs s
sorted_has [] s h = h
sorted_has (x ∷ xs) s h = elim (put_has x (sorted xs) s h) [ inl is ↦ subst (λ z. Has (x ∷ xs) z) is (has_first x xs) | inr old ↦ has_later x xs s (sorted_has xs s old) ]

pub has_sorted : (xs : List ℕ) (s : ℕ) → Has xs s → Has (sorted xs) s
has_sorted [] s h = h
has_sorted (x ∷ xs) s h = has_put x (sorted xs) s (elim (has_cons x xs s h) [ inl is ↦ inl is | inr old ↦ inr (has_sorted xs s old) ])

pub sorted_length : (xs : List ℕ) → length (sorted xs) ≡ length xs
sorted_length [] = refl
sorted_length (x ∷ xs) = let e = put_length x (sorted xs) in let f = sorted_length xs in omega (arith, e, f)

pub sorted_rising : (xs : List ℕ) → AreDistinct xs → AreRisingNumbers (sorted xs)
sorted_rising [] h = tt
sorted_rising (x ∷ xs) h = put_rising x (sorted xs) (sorted_rising xs h.1) (λ has. h.0 x (sorted_has xs x has) refl)

-- ---- two lists in order with the same numbers are one list

-- no number is greater than a later one
abbrev pub AreOrdered : List ℕ → Type 0
AreOrdered [] = Unit {0}
AreOrdered (x ∷ xs) = ((y : ℕ) → Has xs y → x ≤ y) × AreOrdered xs

put_ordered : (x : ℕ) (ys : List ℕ) → AreOrdered ys → AreOrdered (put x ys)
put_ordered x [] h = ((λ y has. absurd (has_none y has)), tt)
put_ordered x (y ∷ ys) h = by (nat_lt y x) refl (put_ordered x ys h.1)
  where
    by : (b : Bool) → nat_lt y x ≡ b → AreOrdered (put x ys) → AreOrdered (cond b (y ∷ put x ys) (x ∷ y ∷ ys))
    by true is rest = ((λ z has. elim (put_has x ys z has) [ inl same ↦ (let l = ltb-true y x is in omega (arith, l, same)) | inr old ↦ h.0 z old ]), rest)
    by false is rest = ((λ z has. elim (has_cons y ys z has) [ inl same ↦ (let l = ltb-false y x is in omega (arith, l, same)) | inr old ↦ (let l = ltb-false y x is in let m = h.0 z old in omega (arith, l, m)) ]), h)

sorted_ordered : (xs : List ℕ) → AreOrdered (sorted xs)
sorted_ordered [] = tt
sorted_ordered (x ∷ xs) = put_ordered x (sorted xs) (sorted_ordered xs)

put_sum : (f : ℕ → ℕ) (x : ℕ) (ys : List ℕ) → sum_by f (put x ys) ≡ f x + sum_by f ys
put_sum f x [] = sum_by-cons f x []
put_sum f x (y ∷ ys) = by (nat_lt y x) (put_sum f x ys)
  where
    by : (b : Bool) → sum_by f (put x ys) ≡ f x + sum_by f ys → sum_by f (cond b (y ∷ put x ys) (x ∷ y ∷ ys)) ≡ f x + sum_by f (y ∷ ys)
    by true e = let a = sum_by-cons f y (put x ys) in let b = sum_by-cons f y ys in omega (arith, e, a, b)
    by false e = sum_by-cons f x (y ∷ ys)

sorted_sum : (f : ℕ → ℕ) (xs : List ℕ) → sum_by f (sorted xs) ≡ sum_by f xs
sorted_sum f [] = refl
sorted_sum f (x ∷ xs) = let a = put_sum f x (sorted xs) in let b = sum_by-cons f x xs in let d = sorted_sum f xs in omega (arith, a, b, d)

sum_none : (f : ℕ → ℕ) (xs : List ℕ) → ((y : ℕ) → Has xs y → f y ≡ 0) → sum_by f xs ≡ 0
sum_none f [] h = refl
sum_none f (x ∷ xs) h = let a = sum_by-cons f x xs in let b = h x (has_first x xs) in let d = sum_none f xs (λ y has. h y (has_later x xs y has)) in omega (arith, a, b, d)

below : ℕ → ℕ → ℕ
below y n = cond (nat_lt n y) 1 0

below_one : (y n : ℕ) → n < y → below y n ≡ 1
unfolding below
below_one y n lt = let e = lt-ltb n y lt in rw e refl

below_none : (y n : ℕ) → y ≤ n → below y n ≡ 0
unfolding below
below_none y n le = let e = le-ltb n y le in rw e refl

not_less : (x y : ℕ) (xs ys : List ℕ) → AreOrdered (y ∷ ys) → ((f : ℕ → ℕ) → sum_by f (x ∷ xs) ≡ sum_by f (y ∷ ys)) → y ≤ x
not_less x y xs ys h same = elim (cases_lt x y) [
  | inr ge ↦ ge
  | inl lt ↦ absurd (
      let a = same (below y) in let b = sum_by-cons (below y) x xs in let d = below_one y x lt in
      let e = sum_none (below y) (y ∷ ys) (λ z has. elim (has_cons y ys z has) [ inl is ↦ below_none y z (omega (arith, is)) | inr old ↦ below_none y z (h.0 z old) ]) in
      omega (arith, a, b, d, e))
]

same_ordered : (xs ys : List ℕ) → AreOrdered xs → AreOrdered ys → ((f : ℕ → ℕ) → sum_by f xs ≡ sum_by f ys) → xs ≡ ys
same_ordered [] [] h k same = refl
same_ordered [] (y ∷ ys) h k same = absurd (let a = same (λ _. 1) in let b = sum_by-cons (λ _. 1) y ys in let z : sum_by {X = ℕ} (λ _. 1) [] ≡ 0 = refl in omega (arith, a, b, z))
same_ordered (x ∷ xs) [] h k same = absurd (let a = same (λ _. 1) in let b = sum_by-cons (λ _. 1) x xs in let z : sum_by {X = ℕ} (λ _. 1) [] ≡ 0 = refl in omega (arith, a, b, z))
same_ordered (x ∷ xs) (y ∷ ys) h k same =
    let l = not_less x y xs ys k same in let m = not_less y x ys xs h (λ f. sym (same f)) in
    let is : x ≡ y = omega (arith, l, m) in
    let rest = same_ordered xs ys h.1 k.1 (λ f. (let a = same f in let b = sum_by-cons f x xs in let d = sum_by-cons f y ys in let e = ap f is in omega (arith, a, b, d, e))) in
    ap (λ z. z ∷ xs) is ∙ ap (λ l. y ∷ l) rest

ordered_at : (xs : List ℕ) → IsNonDecreasingBy (λ x. x) xs → AreOrdered xs
ordered_at [] h = tt
ordered_at (x ∷ xs) h = (
  (λ y has. (let l = slice_get_within xs has.0 y has.1 in let e = get_or_from_slice_get xs has.0 y 0 has.1 in let m = h 0 (suc has.0) 0 (omega arith) (omega (arith, l)) in omega (arith, e, m))),
  ordered_at xs (λ i j d le lt. h (suc i) (suc j) d (omega (arith, le)) (omega (arith, lt))),
)

pub sorts : (xs ys : List ℕ) → IsPermutation xs ys → IsSorted nat_cmp ys → ys ≡ sorted xs
sorts xs ys p s = same_ordered ys (sorted xs) (ordered_at ys (IsNonDecreasingBy-from_sort (λ x. x) ys s)) (sorted_ordered xs) (λ f. sum_by-IsPermutation f xs ys p ∙ sym (sorted_sum f xs))
