-- Tests on the keys of a stroke: one key, and any of a set.
use Rattle.std.proofs.Common.{◌≡◌, ℕ, zero, suc, ◌+◌, ◌*◌, ◌^◌, ◌<◌, ◌≤◌, ◌≢◌, refl, sym, ap, subst, arith, Bool, true, false, true≢false, inl, inr, min, ◌∙◌}
use Rattle.std.specs.Prelude.{◌&&◌, ◌||◌, ◌==◌, ◌↔◌, not, IsTrue}
use Rattle.std.specs.List.{list_any, range_with_len}
use Rattle.std.specs.Int.{bit_at, IsBitSet}
use Rattle.std.specs.Int.Bits.{bit_and}
use Rattle.std.proofs.lemmas.Bool.{cases_lt, eqb-true, eq-eqb, ne_eqb, and_parts}
use Rattle.std.proofs.lemmas.Nat.Bits.{and_pow, bit_at_and, bit_at-lt, bit_at-zero, same_from_bits_below}
use Rattle.std.proofs.lemmas.Nat.{pow_pos, and_le_r}
use Rattle.steno_order.specs.Keys.{has}
use Rattle.steno_order.specs.inside.Steps.{has_one}
use Rattle.steno_order.proofs.Presses.{false_or_true}

-- what the test of one key answers
pub has_is : (code key : ℕ) (r : Bool) → IsTrue r ↔ ((key < 23) × IsBitSet code key) → key < 23 → r ≡ has code key
has_is code key true h lt =
    let set = (h.0 refl).1 in
    let low = and_pow code key in
    let two = bit_at-lt code key in
    let none : bit_at code key ≢ 0 = λ e. set (low ∙ ap (λ b. b * 2 ^ key) e ∙ (let z : 0 * 2 ^ key ≡ 0 = omega arith in z)) in
    sym (eq-eqb (bit_at code key) 1 (omega (arith, two, none)))
has_is code key false h lt = sym (ne_eqb (bit_at code key) 1 (λ e.
    let low = and_pow code key ∙ ap (λ b. b * 2 ^ key) e in
    let pos = pow_pos key in
    true≢false (sym (h.1 (lt, λ z. absurd (omega (arith, low, pos, z)))))))

any_none : (t : ℕ → Bool) (a n : ℕ) → list_any t (range_with_len a n) ≡ false → (k : ℕ) → a ≤ k → k < a + n → t k ≡ false
any_none t a zero none k ge lt = absurd (omega arith)
any_none t a (suc n) none k ge lt = elim (cases_lt a k) [
  | inl later ↦ any_none t (a + 1) n (rest (t a) (list_any t (range_with_len (a + 1) n)) none) k (omega arith) (omega arith)
  | inr here ↦ let same : a ≡ k = omega arith in subst (λ j. t j ≡ false) same (first (t a) (list_any t (range_with_len (a + 1) n)) none)
]
  where
    first : (x y : Bool) → (x || y) ≡ false → x ≡ false
    first true y e = e
    first false y e = refl

    rest : (x y : Bool) → (x || y) ≡ false → y ≡ false
    rest true y e = absurd (true≢false e)
    rest false y e = e

any_some : (t : ℕ → Bool) (a n : ℕ) → list_any t (range_with_len a n) ≡ true → (k : ℕ) × (t k ≡ true)
any_some t a zero some = absurd (true≢false (sym some))
any_some t a (suc n) some = by (t a) refl some (any_some t (a + 1) n)
  where
    by : (b : Bool) → t a ≡ b → (b || list_any t (range_with_len (a + 1) n)) ≡ true → (list_any t (range_with_len (a + 1) n) ≡ true → (k : ℕ) × (t k ≡ true)) → (k : ℕ) × (t k ≡ true)
    by true is e rec = (a, is)
    by false isnt e rec = rec e

-- bits of two numbers
one_of_both : (x y : ℕ) → x < 2 → y < 2 → (y == 1 && x == 1) ≡ false → min x y ≡ 0
one_of_both x y lx ly e = elim (false_or_true (y == 1)) [
  | inl is ↦ (
      let one = eqb-true y 1 is in
      let other = ne x (rw is at e) in
      omega (arith, other))
  | inr isnt ↦ (let none = ne y isnt in omega (arith, none))
]
  where
    ne : (z : ℕ) → (z == 1) ≡ false → z ≢ 1
    ne z isnt e = true≢false (sym (eq-eqb z 1 e) ∙ isnt)

-- the test of a set of keys
pub masked : (code keys : ℕ) → keys < 2 ^ 23 → not (bit_and code keys == 0) ≡ has_one code keys
unfolding has_one
masked code keys lt = by (list_any (λ key. has keys key && has code key) (range_with_len 0 23)) refl
  where
    by : (b : Bool) → list_any (λ key. has keys key && has code key) (range_with_len 0 23) ≡ b → not (bit_and code keys == 0) ≡ b
    by true some =
        let k = any_some (λ key. has keys key && has code key) 0 23 some in
        let two = and_parts (has keys k.0) (has code k.0) k.1 in
        let x = eqb-true (bit_at keys k.0) 1 two.0 in
        let y = eqb-true (bit_at code k.0) 1 two.1 in
        let all = bit_at_and code keys k.0 in
        let zero' = bit_at-zero k.0 in
        rw (ne_eqb (bit_and code keys) 0 (λ e. let none : bit_at (bit_and code keys) k.0 ≡ 0 = ap (λ n. bit_at n k.0) e ∙ zero' in absurd (omega (arith, x, y, all, none)))) refl
    by false none =
        let le = and_le_r code keys in
        let small : bit_and code keys < 2 ^ 23 = omega arith in
        let same = same_from_bits_below 23 (bit_and code keys) 0 small (omega arith) (λ i below. bit_at_and code keys i ∙ (one_of_both (bit_at code i) (bit_at keys i) (bit_at-lt code i) (bit_at-lt keys i) (any_none (λ key. has keys key && has code key) 0 23 none i (omega arith) (omega arith)) ∙ sym (bit_at-zero i))) in
        rw (same) refl
