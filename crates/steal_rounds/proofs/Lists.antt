-- Lists of records, by index.
use Rattle.std.proofs.Common.{◌≡◌, ◌≢◌, ℕ, zero, suc, ◌+◌, ◌<◌, ◌⊎◌, List, [], ◌∷◌, ◌++◌, length, get_or, set, Some, refl, ap, sym, subst, ◌∙◌, inl, inr, arith, All, take, drop, Result, Ok, Err, IfOk}
use Rattle.std.proofs.Math.Seq.{take-append_seam}
use Rattle.std.specs.Prelude.{slice_get, sum_by}
use Rattle.std.proofs.lemmas.List.Sums.{sum_by-cons}
use Rattle.std.proofs.lemmas.Option.{slice_get-get_or}
use Rattle.steal_rounds.specs.inside.Lists.{Each}

pub set_get : {A : Type 0} (xs : List A) (i : ℕ) (y : A) (a : ℕ) (z : A) → slice_get (set xs i y) a ≡ Some z → ((a ≡ i) × (y ≡ z)) ⊎ ((a ≢ i) × (slice_get xs a ≡ Some z))
set_get [] i y a z e = absurd (cc e)
set_get (x ∷ xs) zero y zero z e = inl (refl, cc e)
set_get (x ∷ xs) zero y (suc a) z e = inr ((λ s. absurd (omega (arith, s))), e)
set_get (x ∷ xs) (suc i) y zero z e = inr ((λ s. absurd (omega (arith, s))), e)
set_get (x ∷ xs) (suc i) y (suc a) z e = elim (set_get xs i y a z e) [ inl h ↦ inl (ap suc h.0, h.1) | inr h ↦ inr ((λ s. h.0 (omega (arith, s))), h.1) ]

pub get_set : {A : Type 0} (xs : List A) (i : ℕ) (y : A) → i < length xs → slice_get (set xs i y) i ≡ Some y
get_set [] i y lt = absurd (omega (arith, lt))
get_set (x ∷ xs) zero y lt = refl
get_set (x ∷ xs) (suc i) y lt = get_set xs i y (omega (arith, lt))

pub get_set_other : {A : Type 0} (xs : List A) (i : ℕ) (y : A) (a : ℕ) → a ≢ i → slice_get (set xs i y) a ≡ slice_get xs a
get_set_other [] i y a ne = refl
get_set_other (x ∷ xs) zero y zero ne = absurd (ne refl)
get_set_other (x ∷ xs) zero y (suc a) ne = refl
get_set_other (x ∷ xs) (suc i) y zero ne = refl
get_set_other (x ∷ xs) (suc i) y (suc a) ne = get_set_other xs i y a (λ s. ne (ap suc s))

pub get_there : {A : Type 0} (xs : List A) (a : ℕ) → a < length xs → (x : A) × (slice_get xs a ≡ Some x)
get_there [] a lt = absurd (omega (arith, lt))
get_there (x ∷ xs) zero lt = (x, refl)
get_there (x ∷ xs) (suc a) lt = get_there xs a (omega (arith, lt))

pub get_below : {A : Type 0} (xs : List A) (a : ℕ) (x : A) → slice_get xs a ≡ Some x → a < length xs
get_below [] a x e = absurd (cc e)
get_below (y ∷ xs) zero x e = omega arith
get_below (y ∷ xs) (suc a) x e = let h = get_below xs a x e in omega (arith, h)

pub one_there : {A : Type 0} (xs : List A) (a : ℕ) (x y : A) → slice_get xs a ≡ Some x → slice_get xs a ≡ Some y → x ≡ y
one_there xs a x y e f = let s = sym e ∙ f in cc s

pub sum_set : {A : Type 0} (g : A → ℕ) (xs : List A) (i : ℕ) (x y : A) → slice_get xs i ≡ Some x → sum_by g (set xs i y) + g x ≡ sum_by g xs + g y
sum_set g [] i x y e = absurd (cc e)
sum_set g (z ∷ xs) zero x y e = let same : z ≡ x = cc e in let a = sum_by-cons g y xs in let b = sum_by-cons g z xs in let c = ap g same in omega (arith, a, b, c)
sum_set g (z ∷ xs) (suc i) x y e = let h = sum_set g xs i x y e in let a = sum_by-cons g z (set xs i y) in let b = sum_by-cons g z xs in omega (arith, h, a, b)

pub each_get : {A : Type 0} (R : A → A → Type 0) (xs ys : List A) (a : ℕ) (y : A) → Each R xs ys → slice_get ys a ≡ Some y → (x : A) × (slice_get xs a ≡ Some x) × R x y
each_get R [] [] a y h e = absurd (cc e)
each_get R [] (z ∷ ys) a y h e = absurd h
each_get R (x ∷ xs) [] a y h e = absurd h
each_get R (x ∷ xs) (z ∷ ys) zero y h e = let same : z ≡ y = cc e in (x, refl, subst (R x) same h.0)
each_get R (x ∷ xs) (z ∷ ys) (suc a) y h e = each_get R xs ys a y h.1 e

pub each_length : {A : Type 0} (R : A → A → Type 0) (xs ys : List A) → Each R xs ys → length ys ≡ length xs
each_length R [] [] h = refl
each_length R [] (z ∷ ys) h = absurd h
each_length R (x ∷ xs) [] h = absurd h
each_length R (x ∷ xs) (z ∷ ys) h = ap suc (each_length R xs ys h.1)

pub all_of : {A : Type 0} (P : A → Type 0) (xs : List A) → ((a : ℕ) (x : A) → slice_get xs a ≡ Some x → P x) → All P xs
all_of P xs h = λ k d lt. h k (get_or xs k d) (slice_get-get_or xs k d lt)

-- sums over two lists, one by one
pub sums_by : {A : Type 0} (g h : A → ℕ) (xs ys : List A) → length ys ≡ length xs → ((a : ℕ) (x y : A) → slice_get xs a ≡ Some x → slice_get ys a ≡ Some y → g y + h x ≡ g x + h y) → sum_by g ys + sum_by h xs ≡ sum_by g xs + sum_by h ys
sums_by g h [] [] len each = let z : sum_by g [] ≡ 0 = refl in let w : sum_by h [] ≡ 0 = refl in omega (arith, z, w)
sums_by g h [] (y ∷ ys) len each = absurd (omega (arith, len))
sums_by g h (x ∷ xs) [] len each = absurd (omega (arith, len))
sums_by g h (x ∷ xs) (y ∷ ys) len each =
    let rest = sums_by g h xs ys (omega (arith, len)) (λ a u v e f. each (suc a) u v e f) in
    let here = each 0 x y refl refl in
    let a = sum_by-cons g x xs in let b = sum_by-cons g y ys in let c = sum_by-cons h x xs in let d = sum_by-cons h y ys in
    omega (arith, rest, here, a, b, c, d)

pub sum_same : {A : Type 0} (g h : A → ℕ) (xs : List A) → ((a : ℕ) (x : A) → slice_get xs a ≡ Some x → g x ≡ h x) → sum_by g xs ≡ sum_by h xs
sum_same g h [] each = let z : sum_by g [] ≡ 0 = refl in let w : sum_by h [] ≡ 0 = refl in omega (arith, z, w)
sum_same g h (x ∷ xs) each =
    let rest = sum_same g h xs (λ a u e. each (suc a) u e) in let here = each 0 x refl in
    let a = sum_by-cons g x xs in let c = sum_by-cons h x xs in omega (arith, rest, here, a, c)

-- the element that a read by index gives
pub at_get : {A : Type 0} (xs : List A) (i : ℕ) (x : A) → i < length xs → x ≡ get_or xs i x → slice_get xs i ≡ Some x
at_get xs i x lt e = slice_get-get_or xs i x lt ∙ ap Some (sym e)

-- a slice that was lent whole, after its change
pub lent_whole : {A : Type 0} (xs ys : List A) (n : ℕ) → n ≡ length xs → length ys ≡ length xs → take n (ys ++ drop (length ys) xs) ≡ ys
lent_whole xs ys n e f = ap (λ k. take k (ys ++ drop (length ys) xs)) (e ∙ sym f) ∙ take-append_seam ys (drop (length ys) xs)

pub ok_map : {A E : Type 0} (P Q : A → Type 0) (r : Result A E) → ((x : A) → P x → Q x) → IfOk r P → IfOk r Q
ok_map P Q (Ok x) f h = f x h
ok_map P Q (Err e) f h = tt
