-- Sums over the numbers that were reached. They count what a list that grows with the settled words has, so that no list has a number twice and all lists have room.
use Rattle.std.proofs.Common.{◌≡◌, ◌==◌, ℕ, zero, suc, ◌+◌, ◌≤◌, ◌<◌, Bool, true, false, List, [], ◌∷◌, ◌++◌, length, get_or, set, min, refl, arith, inl, inr, replicate}
use Rattle.std.specs.Prelude.{sum_by, cond}
use Rattle.std.proofs.lemmas.List.Sums.{sum_by-append, sum_by-cons}
use Rattle.std.proofs.lemmas.Bool.Decides.{eqb_tells}
use Rattle.graph_rules.specs.Graphs.{unreached}
use Rattle.round_core.specs.Machines.{lowered, noted_with}
use Rattle.round_core.specs.Searches.{sum_reached}

set_new : (f : ℕ → ℕ) (words : List ℕ) (t v : ℕ) → t < length words → (get_or words t 0 == unreached) ≡ true → (v == unreached) ≡ false → sum_reached f (set words t v) ≡ sum_reached f words + f t
set_new f [] t v lt new reached = absurd (omega (arith, lt))
set_new f (w ∷ ws) zero v lt new reached = rw (new, reached) (omega arith)
set_new f (w ∷ ws) (suc t) v lt new reached = let e = set_new (λ s. f (suc s)) ws t v (omega (arith, lt)) new reached in omega (arith, e)

set_old : (f : ℕ → ℕ) (words : List ℕ) (t v : ℕ) → t < length words → (get_or words t 0 == unreached) ≡ false → (v == unreached) ≡ false → sum_reached f (set words t v) ≡ sum_reached f words
set_old f [] t v lt old reached = absurd (omega (arith, lt))
set_old f (w ∷ ws) zero v lt old reached = rw (old, reached) refl
set_old f (w ∷ ws) (suc t) v lt old reached = let e = set_old (λ s. f (suc s)) ws t v (omega (arith, lt)) old reached in omega (arith, e)

pub sum_unreached : (f : ℕ → ℕ) (n : ℕ) → sum_reached f (replicate n unreached) ≡ 0
sum_unreached f zero = refl
sum_unreached f (suc n) = let e = sum_unreached (λ s. f (suc s)) n in omega (arith, e)

pub sum_first : (f : ℕ → ℕ) (n t : ℕ) → t < n → sum_reached f (set (replicate n unreached) t 0) ≡ f t
sum_first f zero t lt = absurd (omega (arith, lt))
sum_first f (suc n) zero lt = let e = sum_unreached (λ s. f (suc s)) n in omega (arith, e)
sum_first f (suc n) (suc t) lt = let e = sum_first (λ s. f (suc s)) n t (omega (arith, lt)) in omega (arith, e)

pub sum_le : (words : List ℕ) → sum_reached (λ _. 1) words ≤ length words
sum_le [] = omega arith
sum_le (w ∷ ws) = by (w == unreached) (sum_le ws)
  where
    by : (b : Bool) → sum_reached (λ _. 1) ws ≤ length ws → cond b 0 1 + sum_reached (λ _. 1) ws ≤ length (w ∷ ws)
    by true le = omega (arith, le)
    by false le = omega (arith, le)

pub ones : (xs : List ℕ) → sum_by (λ _. 1) xs ≡ length xs
ones [] = refl
ones (x ∷ xs) = let e = ones xs in let a = sum_by-cons (λ _. 1) x xs in omega (arith, e, a)

not_unreached : (v : ℕ) → v < unreached → (v == unreached) ≡ false
not_unreached v lt = elim (eqb_tells v unreached) [ inl h ↦ absurd (let e = h.1 in omega (arith, lt, e)) | inr h ↦ h.0 ]

-- a number is noted where the sum over the reached numbers rises
pub sums_step : (f : ℕ → ℕ) (words noted : List ℕ) (t v : ℕ) → t < length words → v < unreached
    → sum_reached f (lowered words t v) + sum_by f noted ≡ sum_reached f words + sum_by f (noted_with noted t (get_or words t 0))
sums_step f words noted t v lt low = by (get_or words t 0 == unreached) refl
  where
    new_low : (min (get_or words t 0) v == unreached) ≡ false
    new_low = not_unreached (min (get_or words t 0) v) (omega (arith, low))

    by : (b : Bool) → (get_or words t 0 == unreached) ≡ b → sum_reached f (lowered words t v) + sum_by f noted ≡ sum_reached f words + sum_by f (cond b (noted ++ t ∷ []) noted)
    by true is = let e = set_new f words t (min (get_or words t 0) v) lt is new_low in let a = sum_by-append f noted (t ∷ []) in omega (arith, e, a)
    by false is = let e = set_old f words t (min (get_or words t 0) v) lt is new_low in omega (arith, e)
