-- A state between two characters, and the key that the next one presses.
use Rattle.std.proofs.Common.{◌≡◌, ℕ, zero, suc, ◌+◌, ◌*◌, ◌%◌, ◌^◌, ◌<◌, ◌≤◌, refl, sym, ap, arith, Bool, true, false, ◌⊎◌, inl, inr, ◌∙◌}
use Rattle.std.specs.Prelude.{◌&&◌, ◌||◌, ◌==◌, nat_lt, nat_le, max, Option, Some, None, option_map, if◌then◌else◌}
use Rattle.std.specs.Char.{is_ascii_digit}
use Rattle.std.specs.Int.Bits.{bit_or}
use Rattle.std.proofs.Math.Nat.{pow-suc}
use Rattle.std.proofs.Math.Pow.{pow_mono}
use Rattle.std.proofs.lemmas.Bool.{cases_lt, le-leb, lt-leb, lt-ltb, ltb-true}
use Rattle.steno_order.specs.declared.pressed.Pressed.{Pressed}
use Rattle.steno_order.specs.Keys.{is_written, hyphen, bar}
use Rattle.steno_order.specs.Reading.{first_key, some_code}
use Rattle.steno_order.specs.inside.Steps.{next_key_of, with_key, stroke_with}
use Rattle.steno_order.proofs.Ranges.{find_same}
use Rattle.steno_order.proofs.Presses.{below_23, false_or_true, first_key-is}
use Rattle.steno_order.proofs.Spellings.{not_bar}
use Rattle.steno_order.proofs.Codes.{bit, or_key, or_bar}

abbrev pub weight : ℕ → ℕ
weight key = 2 ^ key

-- the state has pressed keys of this sum, the last of them `last`, and key 0 or not
pub record HasPressed (code next last least sum : ℕ) (barred : Bool) : Type 0 where
  pub coded : code ≡ sum + bit barred
  pub even : sum % 2 ≡ 0
  pub from : next ≡ max (last + 1) least
  pub small : sum + 1 < 2 ^ next
  pub few : next ≤ 23

pub not_lower : (a b : ℕ) → b ≤ a → nat_lt a b ≡ false
not_lower a b ge = elim (false_or_true (nat_lt a b)) [ inl is ↦ (let lt = ltb-true a b is in absurd (omega arith)) | inr isnt ↦ isnt ]

later : (last least key : ℕ) → (nat_lt last key && nat_le least key) ≡ nat_le (max (last + 1) least) key
later last least key = elim (cases_lt last key) [
  | inl lt ↦ elim (cases_lt key least) [
    | inl below ↦ rw (lt-ltb last key lt, lt-leb least key below, lt-leb (max (last + 1) least) key (omega arith)) refl
    | inr ge ↦ rw (lt-ltb last key lt, le-leb least key ge, le-leb (max (last + 1) least) key (omega arith)) refl
  ]
  | inr ge ↦ rw (not_lower last key ge, lt-leb (max (last + 1) least) key (omega arith)) refl
]

-- the first key after the last is the first from the state's `next` on
first_next : (next last least c : ℕ) → next ≡ max (last + 1) least → next_key_of next c ≡ first_key last least c
unfolding next_key_of
first_next next last least c e =
    ap (λ n. next_key_of n c) e
    ∙ find_same (λ key. is_written c key && nat_le (max (last + 1) least) key) (λ key. is_written c key && (nat_lt last key && nat_le least key)) 0 23 (λ key. ap (λ b. is_written c key && b) (sym (later last least key)))

-- the hyphen presses no key
pub no_press : (last least : ℕ) → first_key last least hyphen ≡ None
no_press last least = refl

-- one key more
pub record Follows (p q : Pressed) (last least sum : ℕ) (barred : Bool) (c key : ℕ) : Type 0 where
  pub first : first_key last least c ≡ Some key
  pub is_after : option_map (with_key p c) (next_key_of p.next c) ≡ Some q
  pub same_side : q.hyphen ≡ p.hyphen
  pub holds : HasPressed q.code q.next key least (sum + 2 ^ key) (barred || is_ascii_digit c)
  pub no_bar : (c == bar) ≡ false
  pub rises : last < key
  pub within : key < 23

double : (key : ℕ) → 2 ^ (key + 1) ≡ 2 ^ key + 2 ^ key
double key = let e : key + 1 ≡ suc key = omega arith in ap (λ k. 2 ^ k) e ∙ (pow-suc 2 key ∙ (let t : 2 ^ key * 2 ≡ 2 ^ key + 2 ^ key = omega arith in t))

even_power : (key : ℕ) → 0 < key → 2 ^ key % 2 ≡ 0
even_power zero pos = absurd (omega arith)
even_power (suc key) pos = let e = pow-suc 2 key in omega (arith, e)

at_most : (b : Bool) → bit b ≤ 1
at_most true = omega arith
at_most false = omega arith

holds_next : (code next last least sum c key : ℕ) (b : Bool) → HasPressed code next last least sum b → 0 < key → next ≤ key → key < 23 → least ≤ key → last < key →
    HasPressed (bit_or (bit_or code (2 ^ key)) (bit (is_ascii_digit c))) (key + 1) key least (sum + 2 ^ key) (b || is_ascii_digit c)
holds_next code next last least sum c key b h pos ge lt from rises =
    let small = h.small in
    let mono = pow_mono {i = next} {j = key} ge in
    let coded = h.coded in
    let even = h.even in
    let power = even_power key pos in
    let two = double key in
    let one : bit b ≤ 1 = at_most b in
    let set = or_key code key (omega (arith, small, mono, coded, one)) in
    let even' : (sum + 2 ^ key) % 2 ≡ 0 = omega (arith, even, power) in
    let code' : bit_or code (2 ^ key) ≡ (sum + 2 ^ key) + bit b = omega (arith, set, coded) in
    record {
      coded = ap (λ n. bit_or n (bit (is_ascii_digit c))) code' ∙ or_bar (sum + 2 ^ key) b (is_ascii_digit c) even';
      even = even';
      from = omega arith;
      small = omega (arith, small, mono, two);
      few = omega arith;
    }

-- a character that isn't the hyphen is refused by both, or presses the same key
pub step : (p : Pressed) (last least sum c : ℕ) (b : Bool) → HasPressed p.code p.next last least sum b →
    ((first_key last least c ≡ None) × (option_map (with_key p c) (next_key_of p.next c) ≡ None)) ⊎ ((key : ℕ) × ((q : Pressed) × Follows p q last least sum b c key))
step p last least sum c b h = by (next_key_of p.next c) refl
  where
    key_is : first_key last least c ≡ next_key_of p.next c
    key_is = sym (first_next p.next last least c h.from)

    by : (o : Option ℕ) → next_key_of p.next c ≡ o → ((first_key last least c ≡ None) × (option_map (with_key p c) (next_key_of p.next c) ≡ None)) ⊎ ((key : ℕ) × ((q : Pressed) × Follows p q last least sum b c key))
    by None is = inl (key_is ∙ is, rw is refl)
    by (Some key) is =
        let first = key_is ∙ is in
        let k = first_key-is last least c key first in
        let a = k.after in
        let f = k.from in
        let below = below_23 c key k.written in
        let from = h.from in
        inr (
          key,
          (
            with_key p c key,
            record {
              first = first;
              is_after = rw is refl;
              same_side = refl;
              holds = holds_next p.code p.next last least sum c key b h (omega arith) (omega arith) below f a;
              no_bar = not_bar last least (record { char = c; key = key }) k;
              rises = a;
              within = below;
            },
          ),
        )

pub or_assoc : (a b c : Bool) → ((a || b) || c) ≡ (a || (b || c))
or_assoc true b c = refl
or_assoc false b c = refl

or_none : (b : Bool) → (b || false) ≡ b
or_none true = refl
or_none false = refl

-- a state's code is that of a stroke, unless no key is pressed
pub with_code : (code next last least sum : ℕ) (b : Bool) → HasPressed code next last least sum b → stroke_with code ≡ some_code (sum + bit (b || false))
with_code code next last least sum b h =
    let coded = h.coded in
    let small = h.small in
    let few = h.few in
    let mono = pow_mono {i = next} {j = 23} few in
    let one : bit b ≤ 1 = at_most b in
    rw (or_none b, ← coded, lt-ltb code (2 ^ 23) (omega (arith, coded, small, mono, one))) (always (nat_lt 0 code))
  where
    always : (t : Bool) → (if t && true then Some code else None) ≡ (if t then Some code else None)
    always true = refl
    always false = refl
