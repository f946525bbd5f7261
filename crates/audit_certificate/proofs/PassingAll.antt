-- Tests over the elements of a list.
use Rattle.std.proofs.Common.{◌≡◌, ℕ, zero, suc, ◌+◌, ◌<◌, ◌≤◌, List, [], ◌∷◌, ◌++◌, refl, sym, subst, arith, Bool, true, false, Contains, inl, inr, AllPairs}
use Rattle.std.specs.Prelude.{◌||◌}
use Rattle.std.specs.List.{list_all, list_any, range_with_len}
use Rattle.std.proofs.lemmas.Bool.{cases_lt}
use Rattle.std.proofs.lemmas.List.Elements.{Contains-append_right}
use Rattle.steno_rules.proofs.Lists.{in_cons, in_first, in_later, none_in_nil, pairs_first, pairs_tail}
use Rattle.certificate_laws.proofs.HoldLemmas.{both_back}

-- What each element passes all pass,
pub all_pass : {A : Type 0} (p : A → Bool) (xs : List A) → ((x : A) → Contains xs x → p x ≡ true) → list_all p xs ≡ true
all_pass p [] f = refl
all_pass p (x ∷ xs) f = both_back (p x) (list_all p xs) (f x (in_first x xs)) (all_pass p xs (λ y has. f y (in_later x xs y has)))

-- and what one passes some pass.
pub one_passes : {A : Type 0} (p : A → Bool) (xs : List A) (x : A) → Contains xs x → p x ≡ true → list_any p xs ≡ true
one_passes p [] x has is = absurd (none_in_nil x has)
one_passes p (y ∷ ys) x has is = elim (in_cons y ys x has) [
  | inl same ↦ left (p y) (list_any p ys) (subst (λ z. p z ≡ true) (sym same) is)
  | inr later ↦ right (p y) (list_any p ys) (one_passes p ys x later is)
]
  where
    left : (a b : Bool) → a ≡ true → (a || b) ≡ true
    left a b e = rw e refl

    right : (a b : Bool) → b ≡ true → (a || b) ≡ true
    right true b e = refl
    right false b e = e

-- Of two lists one after another, each of the first is before each of the second.
pub pairs_across : {A : Type 0} (R : A → A → Type 0) (xs ys : List A) (x y : A) → AllPairs R (xs ++ ys) → Contains xs x → Contains ys y → R x y
pairs_across R [] ys x y pairs left right = absurd (none_in_nil x left)
pairs_across R (z ∷ xs) ys x y pairs left right = elim (in_cons z xs x left) [
  | inl same ↦ subst (λ w. R w y) same (pairs_first R z (xs ++ ys) y pairs (Contains-append_right xs ys y right))
  | inr later ↦ pairs_across R xs ys x y (pairs_tail R z (xs ++ ys) pairs) later right
]

-- A number of a range.
pub in_range : (a n k : ℕ) → a ≤ k → k < a + n → Contains (range_with_len a n) k
in_range a zero k ge lt = absurd (omega arith)
in_range a (suc n) k ge lt = elim (cases_lt a k) [
  | inl later ↦ in_later a (range_with_len (a + 1) n) k (in_range (a + 1) n k (omega arith) (omega arith))
  | inr here ↦ (let same : a ≡ k = omega arith in subst (λ j. Contains (a ∷ range_with_len (a + 1) n) j) same (in_first a (range_with_len (a + 1) n)))
]
