-- The rows of the mixed graph of the tests.
use Rattle.std.proofs.Common.{◌≡◌, ℕ, zero, suc, ◌+◌, ◌*◌, ◌%◌, ◌<◌, [], length, get_or, Some, ap, ◌∙◌, subst, arith, refl, inl, inr}
use Rattle.std.specs.Prelude.{slice_get}
use Rattle.std.proofs.Math.Nat.{mod-lt}
use Rattle.std.proofs.lemmas.List.{get_or_past}
use Rattle.std.proofs.lemmas.Bool.{cases_lt}
use Rattle.steal_rounds.specs.inside.Samples.{mixed_targets, mixed_lists}

pub length_from : (n s k : ℕ) → length (mixed_lists n s k) ≡ k
length_from n s zero = refl
length_from n s (suc k) = let e = length_from n (suc s) k in omega (arith, e)

pub row_from : (n s k i : ℕ) → i < k → get_or (mixed_lists n s k) i [] ≡ mixed_targets n (s + i)
row_from n s zero i lt = absurd (omega (arith, lt))
row_from n s (suc k) zero lt = ap (mixed_targets n) (let e : s ≡ s + 0 = omega arith in e)
row_from n s (suc k) (suc i) lt = row_from n (suc s) k i (omega (arith, lt)) ∙ ap (mixed_targets n) (let e : suc s + i ≡ s + suc i = omega arith in e)

four : (n s i t : ℕ) → 0 < n → slice_get (mixed_targets n s) i ≡ Some t → t < n
four n s zero t some e = let same : (s * 7 + 1) % n ≡ t = cc e in let l = mod-lt (s * 7 + 1) some in omega (arith, same, l)
four n s (suc zero) t some e = let same : (s * 13 + 5) % n ≡ t = cc e in let l = mod-lt (s * 13 + 5) some in omega (arith, same, l)
four n s (suc (suc zero)) t some e = let same : (s * 31 + 11) % n ≡ t = cc e in let l = mod-lt (s * 31 + 11) some in omega (arith, same, l)
four n s (suc (suc (suc zero))) t some e = let same : (s + 1) % n ≡ t = cc e in let l = mod-lt (s + 1) some in omega (arith, same, l)
four n s (suc (suc (suc (suc i)))) t some e = absurd (cc e)

pub targets_below : (n s t : ℕ) → 0 < n → ((i : ℕ) × (slice_get (get_or (mixed_lists n 0 n) s []) i ≡ Some t)) → t < length (mixed_lists n 0 n)
targets_below n s t some h = let l = length_from n 0 n in elim (cases_lt s n) [
  | inl lt ↦ (let b = four n (0 + s) h.0 t some (subst (λ r. slice_get r h.0 ≡ Some t) (row_from n 0 n s lt) h.1) in omega (arith, b, l))
  | inr ge ↦ absurd (let e = subst (λ r. slice_get r h.0 ≡ Some t) (get_or_past (mixed_lists n 0 n) s [] (omega (arith, l, ge))) h.1 in cc e)
]
