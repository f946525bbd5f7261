-- Elements of lists by their places.
use Rattle.std.proofs.Common.{◌≡◌, ◌≢◌, ℕ, zero, suc, ◌+◌, ◌-◌, ◌≤◌, ◌<◌, ◌⊎◌, List, [], ◌∷◌, ◌++◌, length, get_or, set, take, drop, Some, sym, ap, subst, ◌∙◌, refl, arith, inl, inr, replicate}
use Rattle.std.specs.Prelude.{slice_get}
use Rattle.std.proofs.lemmas.List.{get_or_append_left}
use Rattle.std.proofs.lemmas.Grind.{get_or_default_zero}

pub get_front : {A : Type 0} (xs ys : List A) (i : ℕ) (x : A) → slice_get xs i ≡ Some x → slice_get (xs ++ ys) i ≡ Some x
get_front [] ys i x e = absurd (cc e)
get_front (z ∷ xs) ys zero x e = e
get_front (z ∷ xs) ys (suc i) x e = get_front xs ys i x e

pub get_last : {A : Type 0} (xs : List A) (x : A) (ys : List A) → slice_get (xs ++ x ∷ ys) (length xs) ≡ Some x
get_last [] x ys = refl
get_last (z ∷ xs) x ys = get_last xs x ys

pub get_snoc : {A : Type 0} (xs : List A) (x y : A) (i : ℕ) → slice_get (xs ++ x ∷ []) i ≡ Some y → (slice_get xs i ≡ Some y) ⊎ (x ≡ y)
get_snoc [] x y zero e = inr (cc e)
get_snoc [] x y (suc i) e = absurd (cc e)
get_snoc (z ∷ xs) x y zero e = inl e
get_snoc (z ∷ xs) x y (suc i) e = get_snoc xs x y i e

pub get_below : {A : Type 0} (xs : List A) (i : ℕ) (x : A) → slice_get xs i ≡ Some x → i < length xs
get_below [] i x e = absurd (cc e)
get_below (z ∷ xs) zero x e = omega arith
get_below (z ∷ xs) (suc i) x e = let l = get_below xs i x e in omega (arith, l)

pub get_set_same : {A : Type 0} (xs : List A) (i : ℕ) (x y : A) → slice_get xs i ≡ Some y → slice_get (set xs i x) i ≡ Some x
get_set_same [] i x y e = absurd (cc e)
get_set_same (z ∷ xs) zero x y e = refl
get_set_same (z ∷ xs) (suc i) x y e = get_set_same xs i x y e

pub get_set_at : {A : Type 0} (xs : List A) (i : ℕ) (x : A) → i < length xs → slice_get (set xs i x) i ≡ Some x
get_set_at [] i x lt = absurd (omega (arith, lt))
get_set_at (z ∷ xs) zero x lt = refl
get_set_at (z ∷ xs) (suc i) x lt = get_set_at xs i x (omega (arith, lt))

pub get_set_other : {A : Type 0} (xs : List A) (i j : ℕ) (x : A) → j ≢ i → slice_get (set xs i x) j ≡ slice_get xs j
get_set_other [] i j x other = refl
get_set_other (z ∷ xs) zero zero x other = absurd (other refl)
get_set_other (z ∷ xs) zero (suc j) x other = refl
get_set_other (z ∷ xs) (suc i) zero x other = refl
get_set_other (z ∷ xs) (suc i) (suc j) x other = get_set_other xs i j x (λ e. other (ap suc e))

pub get_drop : {A : Type 0} (xs : List A) (n j : ℕ) (x : A) → slice_get xs (n + j) ≡ Some x → slice_get (drop n xs) j ≡ Some x
get_drop [] n j x e = absurd (cc e)
get_drop (z ∷ xs) zero j x e = subst (λ i. slice_get (z ∷ xs) i ≡ Some x) (let h : 0 + j ≡ j = omega arith in h) e
get_drop (z ∷ xs) (suc n) j x e = get_drop xs n j x (subst (λ i. slice_get (z ∷ xs) i ≡ Some x) (let h : suc n + j ≡ suc (n + j) = omega arith in h) e)

pub get_take : {A : Type 0} (xs : List A) (n j : ℕ) (x : A) → j < n → slice_get xs j ≡ Some x → slice_get (take n xs) j ≡ Some x
get_take [] n j x lt e = absurd (cc e)
get_take (z ∷ xs) zero j x lt e = absurd (omega (arith, lt))
get_take (z ∷ xs) (suc n) zero x lt e = e
get_take (z ∷ xs) (suc n) (suc j) x lt e = get_take xs n j x (omega (arith, lt)) e

pub get_of_drop : {A : Type 0} (xs : List A) (n j : ℕ) (x : A) → slice_get (drop n xs) j ≡ Some x → (i : ℕ) × (slice_get xs i ≡ Some x)
get_of_drop [] zero j x e = absurd (cc e)
get_of_drop [] (suc n) j x e = absurd (cc e)
get_of_drop (z ∷ xs) zero j x e = (j, e)
get_of_drop (z ∷ xs) (suc n) j x e = let rest = get_of_drop xs n j x e in (suc rest.0, rest.1)

pub get_of_take : {A : Type 0} (xs : List A) (n j : ℕ) (x : A) → slice_get (take n xs) j ≡ Some x → slice_get xs j ≡ Some x
get_of_take [] zero j x e = absurd (cc e)
get_of_take [] (suc n) j x e = absurd (cc e)
get_of_take (z ∷ xs) zero j x e = absurd (cc e)
get_of_take (z ∷ xs) (suc n) zero x e = e
get_of_take (z ∷ xs) (suc n) (suc j) x e = get_of_take xs n j x e

pub get_replicate : {A : Type 0} (n i : ℕ) (x : A) → i < n → slice_get (replicate n x) i ≡ Some x
get_replicate zero i x lt = absurd (omega (arith, lt))
get_replicate (suc n) zero x lt = refl
get_replicate (suc n) (suc i) x lt = get_replicate n i x (omega (arith, lt))

pub get_replicate_is : {A : Type 0} (n i : ℕ) (x y : A) → slice_get (replicate n x) i ≡ Some y → x ≡ y
get_replicate_is zero i x y e = absurd (cc e)
get_replicate_is (suc n) zero x y e = cc e
get_replicate_is (suc n) (suc i) x y e = get_replicate_is n i x y e

pub replicate_snoc : {A : Type 0} (n : ℕ) (x : A) → replicate n x ++ x ∷ [] ≡ replicate (suc n) x
replicate_snoc zero x = refl
replicate_snoc (suc n) x = ap (λ l. x ∷ l) (replicate_snoc n x)

pub replicate_more : {A : Type 0} (x : A) (n m : ℕ) → m ≡ suc n → replicate n x ++ x ∷ [] ≡ replicate m x
replicate_more x n m is = replicate_snoc n x ∙ ap (λ k. replicate k x) (sym is)

pub drop_all : (xs : List ℕ) → drop (length xs) xs ≡ []
drop_all [] = refl
drop_all (x ∷ xs) = drop_all xs

pub drop-append : (xs ys : List ℕ) → drop (length xs) (xs ++ ys) ≡ ys
drop-append [] ys = refl
drop-append (x ∷ xs) ys = drop-append xs ys

pub drop_past : (n : ℕ) (xs : List ℕ) → length xs ≤ n → drop n xs ≡ []
drop_past zero [] le = refl
drop_past zero (x ∷ xs) le = absurd (omega (arith, le))
drop_past (suc n) [] le = refl
drop_past (suc n) (x ∷ xs) le = drop_past n xs (omega (arith, le))

pub drop_at : (xs : List ℕ) (at : ℕ) → at < length xs → drop at xs ≡ get_or xs at 0 ∷ drop (suc at) xs
drop_at [] at lt = absurd (omega (arith, lt))
drop_at (x ∷ xs) zero lt = refl
drop_at (x ∷ xs) (suc at) lt = drop_at xs at (omega (arith, lt))

pub take_one : (more : ℕ) (x : ℕ) (xs : List ℕ) → 0 < more → take more (x ∷ xs) ≡ x ∷ take (more - 1) xs
take_one zero x xs lt = absurd (omega (arith, lt))
take_one (suc n) x xs lt = ap (λ m. x ∷ take m xs) (let e : n ≡ suc n - 1 = omega arith in e)

pub take_none : (n : ℕ) → take {A = ℕ} n [] ≡ []
take_none zero = refl
take_none (suc n) = refl

pub take_front : (xs ys : List ℕ) → take (length xs) (xs ++ ys) ≡ xs
take_front [] ys = refl
take_front (x ∷ xs) ys = ap (λ l. x ∷ l) (take_front xs ys)

pub take_old : (old noted queue : List ℕ) → queue ≡ old ++ noted → take (length old) queue ≡ old
take_old old noted queue is = ap (take (length old)) is ∙ take_front old noted

pub take_past : (n : ℕ) (xs : List ℕ) → length xs ≤ n → take n xs ≡ xs
take_past zero [] le = refl
take_past zero (x ∷ xs) le = absurd (omega (arith, le))
take_past (suc n) [] le = refl
take_past (suc n) (x ∷ xs) le = ap (λ l. x ∷ l) (take_past n xs (omega (arith, le)))

pub take_short : (n : ℕ) (xs : List ℕ) → length (take n xs) ≤ length xs
take_short zero xs = omega arith
take_short (suc n) [] = omega arith
take_short (suc n) (x ∷ xs) = let e = take_short n xs in omega (arith, e)

pub longer_than : (old queue : List ℕ) → take (length old) queue ≡ old → length old ≤ length queue
longer_than old queue is = let a = ap length is in let b = take_short (length old) queue in omega (arith, a, b)

-- a read in the part that was there
pub read_old : (old noted queue : List ℕ) (at x : ℕ) → queue ≡ old ++ noted → at < length old → x ≡ get_or queue at x → x ≡ get_or old at 0
read_old old noted queue at x is lt read = read ∙ ap (λ l. get_or l at x) is ∙ get_or_append_left old noted x at lt ∙ get_or_default_zero old at x lt
