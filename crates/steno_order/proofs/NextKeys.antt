-- The first key that a character may press, by the set of keys that it is written on.
use Rattle.std.proofs.Common.{◌≡◌, ℕ, zero, suc, ◌+◌, ◌-◌, ◌/◌, ◌%◌, ◌^◌, ◌<◌, ◌≤◌, refl, sym, ap, arith, Bool, true, false, true≢false, inl, inr, ◌∙◌}
use Rattle.std.specs.Prelude.{◌&&◌, nat_lt, nat_le, not, Some, None, if◌then◌else◌}
use Rattle.std.specs.List.{list_all, range_with_len}
use Rattle.std.specs.Int.{bit_at, trailing_zeros, w32}
use Rattle.std.proofs.Math.Nat.{div-div-eq-div-mul}
use Rattle.std.proofs.lemmas.Bool.{cases_lt, le-leb, lt-leb, ltb-true, eq-eqb, ne_eqb, and_parts}
use Rattle.std.proofs.lemmas.Nat.{pow-add}
use Rattle.std.proofs.lemmas.Nat.Bits.{bit_at_above, bit_at-zero, bit_at-trailing_zeros}
use Rattle.steno_order.specs.Keys.{is_written, has}
use Rattle.steno_order.specs.inside.Steps.{has_keys, next_key_of}
use Rattle.steno_order.proofs.Ranges.{tested, range_find, range_none}

agree : (w e : Bool) → (if w then e else not e) ≡ true → w ≡ e
agree true e h = sym h
agree false true h = absurd (true≢false (sym h))
agree false false h = refl

-- the keys of the code are those of the character
pub record KeysOf (c keys : ℕ) : Type 0 where
  pub below : keys < 2 ^ 23
  pub each : (key : ℕ) → key < 23 → is_written c key ≡ has keys key

pub has_keys-KeysOf : (c keys : ℕ) → has_keys c keys ≡ true → KeysOf c keys
has_keys-KeysOf c keys h =
    let two = and_parts (nat_lt keys (2 ^ 23)) (list_all (λ key. if is_written c key then has keys key else not (has keys key)) (range_with_len 0 23)) h in
    record {
      below = ltb-true keys (2 ^ 23) two.0;
      each = λ key lt. agree (is_written c key) (has keys key) (tested (λ k. if is_written c k then has keys k else not (has keys k)) 0 23 two.1 key (omega arith) (omega arith));
    }

-- a test that fails on its first part, and on its second
first_fails : (w b : Bool) → w ≡ false → (w && b) ≡ false
first_fails w b e = rw e refl

second_fails : (w b : Bool) → b ≡ false → (w && b) ≡ false
second_fails true b e = e
second_fails false b e = refl

-- the bits from `next` on
pub shifted : (keys next i : ℕ) → bit_at (keys / 2 ^ next) i ≡ bit_at keys (next + i)
shifted keys next i = ap (λ n. n % 2) (div-div-eq-div-mul keys (2 ^ next) (2 ^ i) ∙ ap (λ n. keys / n) (sym (pow-add 2 next i)))

no_bit : (c keys key : ℕ) → KeysOf c keys → key < 23 → bit_at keys key ≡ 0 → is_written c key ≡ false
no_bit c keys key h lt none = h.each key lt ∙ ne_eqb (bit_at keys key) 1 (λ e. absurd (omega arith))

pub next_none : (c keys next : ℕ) → KeysOf c keys → keys / 2 ^ next ≡ 0 → next_key_of next c ≡ None
unfolding next_key_of
next_none c keys next h none = range_none (λ key. is_written c key && nat_le next key) 0 23 (λ j ge lt. elim (cases_lt j next) [
  | inl low ↦ second_fails (is_written c j) (nat_le next j) (lt-leb next j low)
  | inr high ↦ (
      let place : next + (j - next) ≡ j = omega arith in
      first_fails (is_written c j) (nat_le next j) (no_bit c keys j h (omega arith) (ap (bit_at keys) (sym place) ∙ (sym (shifted keys next (j - next)) ∙ (ap (λ n. bit_at n (j - next)) none ∙ bit_at-zero (j - next))))))
])

-- the place of the lowest bit from `next` on
pub record IsLowest (keys next key : ℕ) : Type 0 where
  pub within : key < 23
  pub from : next ≤ key
  pub set : bit_at keys key ≡ 1
  pub none : (j : ℕ) → next ≤ j → j < key → bit_at keys j ≡ 0

pub next_some : (c keys next key : ℕ) → KeysOf c keys → IsLowest keys next key → next_key_of next c ≡ Some key
unfolding next_key_of
next_some c keys next key h low =
    let within = low.within in
    range_find (λ k. is_written c k && nat_le next k) 0 23 key
    (rw (h.each key within ∙ eq-eqb (bit_at keys key) 1 low.set, le-leb next key low.from) refl)
    (omega arith)
    (omega arith)
    (λ j ge lt. elim (cases_lt j next) [
      | inl below ↦ second_fails (is_written c j) (nat_le next j) (lt-leb next j below)
      | inr above ↦ first_fails (is_written c j) (nat_le next j) (no_bit c keys j h (omega arith) (low.none j above lt))
    ])

pub lowest : (keys next : ℕ) → keys < 2 ^ 23 → next ≤ 23 → 0 < keys / 2 ^ next → IsLowest keys next (next + trailing_zeros w32 (keys / 2 ^ next))
lowest keys next small few pos =
    let le : keys / 2 ^ next ≤ keys = omega arith in
    let t = bit_at-trailing_zeros w32 (keys / 2 ^ next) pos (omega arith) in
    let set = sym (shifted keys next (trailing_zeros w32 (keys / 2 ^ next))) ∙ t.1 in
    record {
      within = elim (cases_lt (next + trailing_zeros w32 (keys / 2 ^ next)) 23) [
        | inl lt ↦ lt
        | inr ge ↦ (let none = bit_at_above keys 23 (next + trailing_zeros w32 (keys / 2 ^ next)) small ge in absurd (omega (arith, none, set)))
      ];
      from = omega arith;
      set = set;
      none = λ j ge lt. (let place : next + (j - next) ≡ j = omega arith in ap (bit_at keys) (sym place) ∙ (sym (shifted keys next (j - next)) ∙ t.2 (j - next) (omega arith)));
    }

pub positive : (n : ℕ) → (n ≡ 0 → ⊥) → 0 < n
positive zero h = absurd (h refl)
positive (suc n) h = omega arith
