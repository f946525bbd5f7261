-- Where a byte stands, from what a search for it says by index.
use Rattle.std.proofs.Common.{◌≡◌, ℕ, zero, suc, ◌+◌, ◌<◌, ◌≤◌, List, [], ◌∷◌, ◌++◌, length, take, drop, refl, ap, subst, arith, Bool, true, false}
use Rattle.std.specs.Prelude.{◌||◌, ◌==◌, Option, Some, None, MatchOption, slice_index}
use Rattle.std.proofs.lemmas.Bool.{eqb-true}
use Rattle.memchr.specs.Find.{IsFirstByte, IsLastByte, is_byte}
use Rattle.text_rules.specs.Lines.{has_byte}
use Rattle.certificate.specs.inside.Places.{IsPlace, IsFirstPlace, IsLastPlace}

-- the byte at this place isn't this one
abbrev IsOther : ℕ → List ℕ → ℕ → Type 0
IsOther a xs k = (slice_index xs k == a) ≡ true → ⊥

none_before : (a : ℕ) (xs : List ℕ) (n : ℕ) → n ≤ length xs → ((k : ℕ) → k < n → IsOther a xs k) → has_byte a (take n xs) ≡ false
none_before a xs zero le h = refl
none_before a [] (suc n) le h = absurd (omega arith)
none_before a (x ∷ xs) (suc n) le h = by (x == a) refl (none_before a xs n (omega arith) (λ k lt e. h (suc k) (omega arith) e))
  where
    by : (b : Bool) → (x == a) ≡ b → has_byte a (take n xs) ≡ false → (b || has_byte a (take n xs)) ≡ false
    by true is rest = absurd (h 0 (omega arith) is)
    by false is rest = rest

none_in : (a : ℕ) (xs : List ℕ) → ((k : ℕ) → k < length xs → IsOther a xs k) → has_byte a xs ≡ false
none_in a [] h = refl
none_in a (x ∷ xs) h = by (x == a) refl (none_in a xs (λ k lt e. h (suc k) (omega arith) e))
  where
    by : (b : Bool) → (x == a) ≡ b → has_byte a xs ≡ false → (b || has_byte a xs) ≡ false
    by true is rest = absurd (h 0 (omega arith) is)
    by false is rest = rest

none_behind : (a : ℕ) (xs : List ℕ) (n : ℕ) → ((k : ℕ) → n ≤ k → k < length xs → IsOther a xs k) → has_byte a (drop n xs) ≡ false
none_behind a xs zero h = none_in a xs (λ k lt. h k (omega arith) lt)
none_behind a [] (suc n) h = refl
none_behind a (x ∷ xs) (suc n) h = none_behind a xs n (λ k le lt e. h (suc k) (omega arith) (omega arith) e)

split_at : (a : ℕ) (xs : List ℕ) (k : ℕ) → k < length xs → (slice_index xs k == a) ≡ true → xs ≡ take k xs ++ a ∷ drop (suc k) xs
split_at a [] k lt e = absurd (omega arith)
split_at a (x ∷ xs) zero lt e = ap (λ y. y ∷ xs) (eqb-true x a e)
split_at a (x ∷ xs) (suc k) lt e = ap (λ ys. x ∷ ys) (split_at a xs k (omega arith) e)

place : (a : ℕ) (xs : List ℕ) (k : ℕ) → k < length xs → (slice_index xs k == a) ≡ true → IsPlace a xs k
place a xs k lt e = record {
  within = lt;
  split = let next : suc k ≡ k + 1 = omega arith in subst (λ n. xs ≡ take k xs ++ a ∷ drop n xs) next (split_at a xs k lt e);
}

-- what a search from the front found
pub first : (a : ℕ) (xs : List ℕ) (r : Option ℕ) → IsFirstByte (is_byte a) xs r → MatchOption r (has_byte a xs ≡ false) (IsFirstPlace a xs)
first a xs None h = none_in a xs (λ k lt e. h k (omega arith) lt e)
first a xs (Some k) h = record {
  here = place a xs k h.0.high h.1;
  before = none_before a xs k (let lt = h.0.high in omega arith) (λ j lt e. h.0.before j (omega arith) lt e);
}

-- what a search from the end found
pub last : (a : ℕ) (xs : List ℕ) (r : Option ℕ) → IsLastByte (is_byte a) xs r → MatchOption r (has_byte a xs ≡ false) (IsLastPlace a xs)
last a xs None h = none_in a xs (λ k lt e. h k (omega arith) lt e)
last a xs (Some k) h = record {
  here = place a xs k h.0.high h.1;
  behind = none_behind a xs (k + 1) (λ j le lt e. h.0.after j le lt e);
}
