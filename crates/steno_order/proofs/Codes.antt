-- Setting a key's bit adds its power of two.
use Rattle.std.proofs.Common.{◌≡◌, ℕ, ◌+◌, ◌*◌, ◌/◌, ◌%◌, ◌^◌, ◌<◌, ap, arith, Bool, true, false, ◌∙◌}
use Rattle.std.specs.Prelude.{◌||◌, if◌then◌else◌}
use Rattle.std.specs.Int.{bit_at}
use Rattle.std.specs.Int.Bits.{bit_or, or_add_and, or_zero_r}
use Rattle.std.proofs.lemmas.Nat.Bits.{and_pow, bit_at_above}

-- what key 0 adds
abbrev pub bit : Bool → ℕ
bit b = if b then 1 else 0

pub or_key : (code key : ℕ) → code < 2 ^ key → bit_or code (2 ^ key) ≡ code + 2 ^ key
or_key code key lt =
    let all = or_add_and code (2 ^ key) in
    let none = bit_at_above code key key lt (omega arith) in
    let low = and_pow code key ∙ ap (λ b. b * 2 ^ key) none in
    omega (arith, all, low)

or_one : (n : ℕ) → bit_or n 1 + n % 2 ≡ n + 1
or_one n =
    let all = or_add_and n 1 in
    let low = and_pow n 0 in
    let whole : n / 2 ^ 0 ≡ n = omega arith in
    let bits : bit_at n 0 ≡ n % 2 = ap (λ d. d % 2) whole in
    omega (arith, all, low, bits)

pub or_bar : (s : ℕ) (b d : Bool) → s % 2 ≡ 0 → bit_or (s + bit b) (bit d) ≡ s + bit (b || d)
or_bar s true true even = let o = or_one (s + 1) in omega (arith, o)
or_bar s true false even = or_zero_r (s + 1)
or_bar s false true even = let o = or_one (s + 0) in omega (arith, o)
or_bar s false false even = or_zero_r (s + 0)
