-- The class of a length.
use Rattle.std.proofs.Common.{◌≡◌, ℕ, zero, suc, ◌+◌, ◌*◌, ◌<◌, ◌≤◌, length, refl, arith, zero-add, true, false, nat_le, inl, inr}
use Rattle.std.specs.List.{range_with_len, position_or_len}
use Rattle.std.proofs.Math.Pow.{pow_mono}
use Rattle.std.proofs.Math.Nat.{pow-suc}
use Rattle.std.proofs.lemmas.Nat.{pow_pos}
use Rattle.std.proofs.lemmas.Bool.Decides.{nat_tests}
use Rattle.std.proofs.lemmas.List.Sums.{position_or_len_is, passes_at_first, fails_before_first}
use Rattle.std.proofs.lemmas.List.FromFn.{get_or-range_with_len, length-range_with_len}
use Rattle.std.proofs.lemmas.Bool.{cases_lt}
use Rattle.edge_pool.specs.Classes.{class_of, size_of, IsLen}

pub size_bound : (class : ℕ) → class < 23 → size_of class ≤ 4194304
size_bound class known = pow_mono {i = class} {j = 22} (omega arith)

pub size_pos : (class : ℕ) → 0 < size_of class
size_pos class = pow_pos class

above : (len size : ℕ) → size < len → nat_le len size ≡ false
above len size h = grind (arith, nat_tests)

not_above : (len size : ℕ) → len ≤ size → nat_le len size ≡ true
not_above len size h = grind (arith, nat_tests)

told : (len size : ℕ) → nat_le len size ≡ true → len ≤ size
told len size h = grind (arith, nat_tests)

told_above : (len size : ℕ) → nat_le len size ≡ false → size < len
told_above len size h = grind (arith, nat_tests)

-- the first of n classes that isn't too small
first_is : (len n class : ℕ) → class < n → len ≤ size_of class → ((k : ℕ) → k < class → size_of k < len) →
    position_or_len (λ k. nat_le len (size_of k)) (range_with_len 0 n) ≡ class
first_is len n class known fits smaller =
    position_or_len_is (λ k. nat_le len (size_of k)) (range_with_len 0 n) class 0 (omega (arith, length-range_with_len 0 n))
    (λ k below. rw (get_or-range_with_len 0 n k 0 (omega arith), zero-add k) (above len (size_of k) (smaller k below)))
    (λ inside. rw (get_or-range_with_len 0 n class 0 known, zero-add class) (not_above len (size_of class) fits))

pub class_of_is : (len class : ℕ) → class < 23 → len ≤ size_of class → ((k : ℕ) → k < class → size_of k < len) → class_of len ≡ class
unfolding class_of
class_of_is len class known fits smaller = first_is len 23 class known fits smaller

-- what the first of n + 1 classes is
record IsFirst (len n place : ℕ) : Type 0 where
  known : place < n + 1
  fits : len ≤ size_of place
  least : (k : ℕ) → k < place → size_of k < len

first_known : (len n place : ℕ) → len ≤ size_of n → position_or_len (λ k. nat_le len (size_of k)) (range_with_len 0 (n + 1)) ≡ place → IsFirst len n place
first_known len n place fits is = elim (cases_lt place (n + 1)) [
  | inl known ↦
      let here : position_or_len (λ k. nat_le len (size_of k)) (range_with_len 0 (n + 1)) < length (range_with_len 0 (n + 1)) = omega (arith, is, length-range_with_len 0 (n + 1)) in
      let passes = passes_at_first (λ k. nat_le len (size_of k)) (range_with_len 0 (n + 1)) 0 here in
      let passes' = rw (is, get_or-range_with_len 0 (n + 1) place 0 known, zero-add place) at passes in
      record { known = known; fits = told len (size_of place) passes'; least = λ k below. before k below (omega arith) }
  | inr past ↦
      let fails = before n (omega (arith, is)) (omega arith) in
      absurd (omega (arith, fails))
]
  where
    before : (k : ℕ) → k < place → k < n + 1 → size_of k < len
    before k below inside =
        let fails = fails_before_first (λ k. nat_le len (size_of k)) (range_with_len 0 (n + 1)) k 0 (omega (arith, is)) in
        let fails' = rw (get_or-range_with_len 0 (n + 1) k 0 inside, zero-add k) at fails in
        told_above len (size_of k) fails'

pub class_known : (len : ℕ) → IsLen len → (class_of len < 23) × (len ≤ size_of (class_of len))
unfolding class_of
class_known len is = let found = first_known len 22 (class_of len) is.1 refl in (found.known, found.fits)

-- the size of a class is below twice each length that has it
pub class_tight : (len : ℕ) → IsLen len → size_of (class_of len) < 2 * len
unfolding class_of
class_tight len is = tight (class_of len) (first_known len 22 (class_of len) is.1 refl)
  where
    tight : (class : ℕ) → IsFirst len 22 class → size_of class < 2 * len
    tight zero h = omega (arith, is.0)
    tight (suc k) h = rw (pow-suc 2 k) (omega (arith, h.least k (omega arith)))
