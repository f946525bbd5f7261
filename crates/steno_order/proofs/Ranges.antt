-- Tests over a range of numbers.
use Rattle.std.proofs.Common.{◌≡◌, ℕ, zero, suc, ◌+◌, ◌<◌, ◌≤◌, refl, sym, ap, subst, arith, Bool, true, false, true≢false, cond, inl, inr}
use Rattle.std.specs.Prelude.{find, Option, Some, None}
use Rattle.std.specs.List.{list_all, range_with_len}
use Rattle.std.proofs.lemmas.Bool.{cases_lt, and_parts}

pub tested : (test : ℕ → Bool) (a n : ℕ) → list_all test (range_with_len a n) ≡ true → (k : ℕ) → a ≤ k → k < a + n → test k ≡ true
tested test a zero all k ge lt = absurd (omega arith)
tested test a (suc n) all k ge lt =
    let two = and_parts (test a) (list_all test (range_with_len (a + 1) n)) all in
    elim (cases_lt a k) [
      | inl later ↦ tested test (a + 1) n two.1 k (omega arith) (omega arith)
      | inr here ↦ let same : a ≡ k = omega arith in subst (λ j. test j ≡ true) same two.0
    ]

pub find_range : (test : ℕ → Bool) (a n k : ℕ) → find test (range_with_len a n) ≡ Some k → (test k ≡ true) × ((j : ℕ) → a ≤ j → j < k → test j ≡ false)
find_range test a zero k e = absurd (true≢false cc)
find_range test a (suc n) k e = by (test a) refl e (find_range test (a + 1) n k)
  where
    rest : Option ℕ
    rest = find test (range_with_len (a + 1) n)

    by : (b : Bool) → test a ≡ b → cond b (Some a) rest ≡ Some k → (rest ≡ Some k → (test k ≡ true) × ((j : ℕ) → a + 1 ≤ j → j < k → test j ≡ false)) →
        (test k ≡ true) × ((j : ℕ) → a ≤ j → j < k → test j ≡ false)
    by true is e later = let same : a ≡ k = cc in (subst (λ j. test j ≡ true) same is, λ j ge lt. absurd (omega arith))
    by false isnt e later =
        let r = later e in (
          r.0,
          λ j ge lt. elim (cases_lt a j) [
            | inl above ↦ r.1 j (omega arith) lt
            | inr here ↦ let same : a ≡ j = omega arith in subst (λ i. test i ≡ false) same isnt
          ],
        )

pub range_find : (test : ℕ → Bool) (a n k : ℕ) → test k ≡ true → a ≤ k → k < a + n → ((j : ℕ) → a ≤ j → j < k → test j ≡ false) → find test (range_with_len a n) ≡ Some k
range_find test a zero k yes' ge lt none = absurd (omega arith)
range_find test a (suc n) k yes' ge lt none =
    elim (cases_lt a k) [
      | inl later ↦ rw (none a (omega arith) later) (range_find test (a + 1) n k yes' (omega arith) (omega arith) (λ j ge' lt'. none j (omega arith) lt'))
      | inr here ↦ let same : a ≡ k = omega arith in rw (subst (λ j. test j ≡ true) (sym same) yes') (ap Some same)
    ]

pub range_none : (test : ℕ → Bool) (a n : ℕ) → ((j : ℕ) → a ≤ j → j < a + n → test j ≡ false) → find test (range_with_len a n) ≡ None
range_none test a zero none = refl
range_none test a (suc n) none = rw (none a (omega arith) (omega arith)) (range_none test (a + 1) n (λ j ge lt. none j (omega arith) (omega arith)))

pub find_same : (t u : ℕ → Bool) (a n : ℕ) → ((j : ℕ) → t j ≡ u j) → find t (range_with_len a n) ≡ find u (range_with_len a n)
find_same t u a zero same = refl
find_same t u a (suc n) same = rw (same a, find_same t u (a + 1) n same) refl
