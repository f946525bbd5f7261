-- The part of a row from a bound on.
use Rattle.std.proofs.Common.{◌≡◌, ℕ, ◌+◌, ◌-◌, ◌<◌, ◌≤◌, List, length, drop, get_or, sym, ap, subst, ◌∙◌, arith, true, false, inl, inr, ltb}
use Rattle.std.specs.List.Sorted.{IsPartitionPoint, IsNonDecreasingBy}
use Rattle.std.proofs.lemmas.List.Sorted.{IsNonDecreasingBy-from_default}
use Rattle.std.proofs.lemmas.Bool.Decides.{nat_tests}
use Rattle.std.proofs.lemmas.Bool.{cases_lt}
use Rattle.std.proofs.lemmas.List.{get_or-drop, length-drop}
use Rattle.outline_trie.specs.Tries.{AreChildren}
use Rattle.closure_state.specs.inside.Chains.{AreChildrenFrom}

-- what the test tells
not_less : (a b : ℕ) → ltb a b ≡ false → b ≤ a
not_less a b h = grind (arith, nat_tests)

not_both : (a b : ℕ) → ltb a b ≡ true → b ≤ a → ⊥
not_both a b h k = grind (arith, nat_tests)

-- the codes of a row don't fall
pub codes_rise : (entries : List (List ℕ)) (node : ℕ) (row : List (ℕ × ℕ)) → AreChildren entries node row → IsNonDecreasingBy (λ (p : ℕ × ℕ). p.0) row
codes_rise entries node row c = IsNonDecreasingBy-from_default (λ (p : ℕ × ℕ). p.0) row (0, 0) (λ i j le in_range. grind (arith, c.rising i j (0, 0), λ (same : i ≡ j). ap (λ k. (get_or row k (0, 0)).0) same))

-- What stands behind the bound.
pub children_from : (entries : List (List ℕ)) (node bound i : ℕ) (row rest : List (ℕ × ℕ)) → AreChildren entries node row → i ≤ length row → rest ≡ drop i row →
    IsPartitionPoint (λ (p : ℕ × ℕ). ltb p.0 bound ≡ true) (λ (p : ℕ × ℕ). ltb p.0 bound ≡ false) row i → AreChildrenFrom entries node bound rest
children_from entries node bound i row rest c fits is parted = subst (AreChildrenFrom entries node bound) (sym is) (record {
  rising = λ j k e l f.
      let long : length (drop i row) ≡ length row - i = length-drop i row in
      let below : (get_or row (i + j) e).0 < (get_or row (i + k) e).0 = c.rising (i + j) (i + k) e (omega (arith, l)) (omega (arith, f, long)) in
      rw (get_or-drop i row j e, get_or-drop i row k e) below;
  each = λ code child. (
    λ has.
        let long : length (drop i row) ≡ length row - i = length-drop i row in
        let at : get_or row (i + has.0) (code, child) ≡ (code, child) = sym (get_or-drop i row has.0 (code, child)) ∙ has.2 in
        let inside : i + has.0 < length row = omega (arith, has.1, long) in
        let past : ltb (get_or row (i + has.0) (code, child)).0 bound ≡ false = parted.1 (i + has.0) (code, child) (omega arith) inside in
        let from : ltb code bound ≡ false = ap (λ (p : ℕ × ℕ). ltb p.0 bound) (sym at) ∙ past in
        (not_less code bound from, (c.each code child).0 (i + has.0, inside, at)),
    λ h.
        let has = (c.each code child).1 h.1 in
        elim (cases_lt has.0 i) [
          | inl before ↦
              let less : ltb code bound ≡ true = ap (λ (p : ℕ × ℕ). ltb p.0 bound) (sym has.2) ∙ parted.0 has.0 (code, child) (omega arith) before in
              absurd (not_both code bound less h.0)
          | inr behind ↦
              let long : length (drop i row) ≡ length row - i = length-drop i row in
              let back : i + (has.0 - i) ≡ has.0 = omega (arith, behind) in
              (has.0 - i, omega (arith, has.1, long), get_or-drop i row (has.0 - i) (code, child) ∙ ap (λ k. get_or row k (code, child)) back ∙ has.2)
        ],
  );
})
