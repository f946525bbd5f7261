-- Members of lists of numbers.
use Rattle.std.proofs.Common.{◌≡◌, ℕ, zero, suc, ◌≤◌, ◌<◌, ◌⊎◌, List, [], ◌∷◌, ◌++◌, length, get_or, drop, Some, refl, arith, inl, inr}
use Rattle.std.specs.Prelude.{slice_get}
use Rattle.round_core.specs.Rounds.{Has}
use Rattle.round_core.proofs.Places.{get_front, get_last, get_snoc}

pub has_none : (s : ℕ) → Has [] s → ⊥
has_none s h = let e = h.1 in absurd (cc e)

pub has_left : (xs ys : List ℕ) (s : ℕ) → Has xs s → Has (xs ++ ys) s
has_left xs ys s h = (h.0, get_front xs ys h.0 s h.1)

pub has_last : (xs : List ℕ) (s : ℕ) → Has (xs ++ s ∷ []) s
has_last xs s = (length xs, get_last xs s [])

pub has_snoc : (xs : List ℕ) (t s : ℕ) → Has (xs ++ t ∷ []) s → Has xs s ⊎ (t ≡ s)
has_snoc xs t s h = elim (get_snoc xs t s h.0 h.1) [ inl e ↦ inl (h.0, e) | inr e ↦ inr e ]

cons_at : (x : ℕ) (xs : List ℕ) (s i : ℕ) → slice_get (x ∷ xs) i ≡ Some s → (x ≡ s) ⊎ Has xs s
cons_at x xs s zero e = inl (cc e)
cons_at x xs s (suc i) e = inr (i, e)

pub has_cons : (x : ℕ) (xs : List ℕ) (s : ℕ) → Has (x ∷ xs) s → (x ≡ s) ⊎ Has xs s
has_cons x xs s h = cons_at x xs s h.0 h.1

pub has_first : (x : ℕ) (xs : List ℕ) → Has (x ∷ xs) x
has_first x xs = (0, refl)

pub has_later : (x : ℕ) (xs : List ℕ) (s : ℕ) → Has xs s → Has (x ∷ xs) s
has_later x xs s h = (suc h.0, h.1)

-- the first of the rest
pub has_drop_next : (xs : List ℕ) (at p : ℕ) → at < length xs → Has (drop at xs) p → (get_or xs at 0 ≡ p) ⊎ Has (drop (suc at) xs) p
has_drop_next [] at p lt h = absurd (omega (arith, lt))
has_drop_next (x ∷ xs) zero p lt h = has_cons x xs p h
has_drop_next (x ∷ xs) (suc at) p lt h = has_drop_next xs at p (omega (arith, lt)) h

pub has_drop_at : (xs : List ℕ) (start at : ℕ) → start ≤ at → at < length xs → Has (drop start xs) (get_or xs at 0)
has_drop_at [] start at le lt = absurd (omega (arith, lt))
has_drop_at (x ∷ xs) zero zero le lt = has_first x xs
has_drop_at (x ∷ xs) zero (suc at) le lt = has_later x xs (get_or xs at 0) (has_drop_at xs zero at (omega arith) (omega (arith, lt)))
has_drop_at (x ∷ xs) (suc start) zero le lt = absurd (omega (arith, le))
has_drop_at (x ∷ xs) (suc start) (suc at) le lt = has_drop_at xs start at (omega (arith, le)) (omega (arith, lt))
