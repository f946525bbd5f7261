-- Reading one character at a time comes to the stroke that the text spells.
use Rattle.std.proofs.Common.{◌≡◌, ℕ, zero, suc, ◌+◌, List, [], ◌∷◌, ◌++◌, refl, sym, ap, arith, Bool, true, false, true≢false, ◌∙◌}
use Rattle.std.specs.Prelude.{◌&&◌, ◌||◌, ◌==◌, nat_le, Option, Some, None, option_map, option_and_then, if◌then◌else◌}
use Rattle.std.specs.Char.{is_ascii_digit}
use Rattle.std.proofs.lemmas.Bool.{le-leb, eqb-true, eq-eqb, ne_eqb}
use Rattle.text_rules.specs.Lines.{parts_between}
use Rattle.steno_order.specs.declared.pressed.Pressed.{Pressed}
use Rattle.steno_order.specs.Keys.{is_written, hyphen, bar, has_bar, keys_code}
use Rattle.steno_order.specs.Reading.{pressed, keys_in, some_code, stroke_of}
use Rattle.steno_order.specs.inside.Steps.{next_key_of, divided, with_key, after_character, spelt_from}
use Rattle.steno_order.proofs.Ranges.{find_same}
use Rattle.steno_order.proofs.Codes.{bit}
use Rattle.steno_order.proofs.LeftSide.{keys_after, spelt_left, left}

-- at the beginning
keys_after-none : (parts : List (List ℕ)) → keys_after [] 0 parts ≡ keys_in parts
keys_after-none [] = refl
keys_after-none (x ∷ []) = by (pressed 0 1 x)
  where
    by : (o : Option (List ℕ)) → option_map (λ keys. [] ++ keys) o ≡ o
    by None = refl
    by (Some keys) = refl
keys_after-none (x ∷ y ∷ []) = refl
keys_after-none (x ∷ y ∷ z ∷ zs) = refl

abbrev begun : Bool → Pressed
begun b = record { code = bit b; next = 1; hyphen = false }

from_begun : (b : Bool) (cs : List ℕ) → spelt_from (begun b) cs ≡ option_and_then (spelt_left b cs) (keys_in (parts_between hyphen cs))
from_begun b cs =
    left (begun b) 0 0 b [] cs refl (record { coded = (let e : bit b ≡ 0 + bit b = omega arith in e); even = refl; from = refl; small = omega arith; few = omega arith }) (record { sums = refl; ends = refl; low = refl })
    ∙ ap (option_and_then (spelt_left b cs)) (keys_after-none (parts_between hyphen cs))

abbrev pub nothing : Pressed
nothing = record { code = 0; next = 0; hyphen = false }

-- where the first character is no bar, it may as well press a key from 1 on
first_after : (c : ℕ) → (c == bar) ≡ false → after_character nothing c ≡ after_character (begun false) c
unfolding next_key_of
first_after c isnt = by (c == hyphen)
  where
    bar_first : (bar == c) ≡ false
    bar_first = ne_eqb bar c (λ e. true≢false (sym (eq-eqb c bar (sym e)) ∙ isnt))

    test : (key : ℕ) → (is_written c key && nat_le 0 key) ≡ (is_written c key && nat_le 1 key)
    test zero = rw bar_first refl
    test (suc key) = ap (λ t. is_written c (suc key) && t) (le-leb 0 (suc key) (omega arith) ∙ sym (le-leb 1 (suc key) (omega arith)))

    by : (t : Bool) → (if t then divided nothing else option_map (with_key nothing c) (next_key_of 0 c)) ≡ (if t then divided (begun false) else option_map (with_key (begun false) c) (next_key_of 1 c))
    by true = refl
    by false = ap (option_map (with_key nothing c)) (find_same (λ key. is_written c key && nat_le 0 key) (λ key. is_written c key && nat_le 1 key) 0 23 test)

at_bar : (cs : List ℕ) → spelt_from nothing (bar ∷ cs) ≡ spelt_from (begun true) cs
unfolding next_key_of
at_bar cs = refl

pub stroke_of-steps : (text : List ℕ) → stroke_of text ≡ spelt_from nothing text
stroke_of-steps [] = refl
stroke_of-steps (c ∷ cs) = by (c == bar) refl
  where
    by : (t : Bool) → (c == bar) ≡ t → option_and_then (λ keys. some_code (keys_code ((t || is_ascii_digit c) || has_bar cs) keys)) (keys_in (parts_between hyphen (if t then cs else (c ∷ cs)))) ≡ spelt_from nothing (c ∷ cs)
    by true is = sym (ap (λ d. spelt_from nothing (d ∷ cs)) (eqb-true c bar is) ∙ (at_bar cs ∙ from_begun true cs))
    by false isnt = sym (ap (λ o. option_and_then (λ q. spelt_from q cs) o) (first_after c isnt) ∙ (from_begun false (c ∷ cs) ∙ ap (λ t. option_and_then (λ keys. some_code (keys_code ((t || is_ascii_digit c) || has_bar cs) keys)) (keys_in (parts_between hyphen (c ∷ cs)))) isnt))
