-- What one turn of the reading loops does.
use Rattle.std.proofs.Common.{◌≡◌, ℕ, ◌+◌, ◌^◌, ◌<◌, ◌≤◌, List, [], ◌∷◌, length, get_or, take, drop, drop-cons, add-one, refl, sym, ap, arith, Bool, true, false, true≢false, ◌∙◌}
use Rattle.std.specs.Prelude.{◌&&◌, nat_lt, ◌-◌, Option, Some, None, MatchOption, SomeIff, option_and_then, if◌then◌else◌}
use Rattle.std.proofs.lemmas.Bool.{lt-ltb, ltb-true, ne_eqb, and_parts}
use Rattle.std.proofs.lemmas.List.{drop_all, take_all, length-drop}
use Rattle.steno_rules.specs.Outlines.{IsStroke}
use Rattle.steno_order.specs.declared.pressed.Pressed.{Pressed}
use Rattle.steno_order.specs.Keys.{slash}
use Rattle.steno_order.specs.Reading.{readings}
use Rattle.steno_order.specs.inside.Steps.{after_character, stroke_with, spelt_from, readings_from}
use Rattle.steno_order.proofs.Parts.{readings-slash, readings-step, readings-none}

next_byte : (bytes : List ℕ) (i : ℕ) → i < length bytes → drop i bytes ≡ get_or bytes i 0 ∷ drop (i + 1) bytes
next_byte bytes i lt = rw (add-one) (drop-cons bytes i 0 lt)

-- what a state's stroke is
pub stroke_is : (o : Option ℕ) (code : ℕ) → SomeIff o (IsStroke code) code → o ≡ stroke_with code
stroke_is None code h = by (nat_lt 0 code && nat_lt code (2 ^ 23)) refl
  where
    by : (t : Bool) → (nat_lt 0 code && nat_lt code (2 ^ 23)) ≡ t → None ≡ (if t then Some code else None)
    by true is = let two = and_parts (nat_lt 0 code) (nat_lt code (2 ^ 23)) is in absurd (h (ltb-true 0 code two.0, ltb-true code (2 ^ 23) two.1))
    by false isnt = refl
stroke_is (Some x) code h = rw (lt-ltb 0 code h.0.0, lt-ltb code (2 ^ 23) h.0.1, h.1) refl

-- one character of a stroke's text
pub spelt_more : (p q : Pressed) (bytes : List ℕ) (i : ℕ) → i < length bytes → after_character p (get_or bytes i 0) ≡ Some q → spelt_from p (drop i bytes) ≡ spelt_from q (drop (i + 1) bytes)
spelt_more p q bytes i lt next = ap (spelt_from p) (next_byte bytes i lt) ∙ ap (option_and_then (λ r. spelt_from r (drop (i + 1) bytes))) next

pub spelt_refused : (p : Pressed) (bytes : List ℕ) (i : ℕ) → i < length bytes → after_character p (get_or bytes i 0) ≡ None → spelt_from p (drop i bytes) ≡ None
spelt_refused p bytes i lt next = ap (spelt_from p) (next_byte bytes i lt) ∙ ap (option_and_then (λ r. spelt_from r (drop (i + 1) bytes))) next

pub spelt_all : (p : Pressed) (bytes : List ℕ) (i : ℕ) → length bytes ≤ i → spelt_from p (drop i bytes) ≡ stroke_with p.code
spelt_all p bytes i le = ap (spelt_from p) (drop_all i bytes le)

pub refused : {T : Type 0} (o : Option T) (A : Type 0) (Q : T → Type 0) → o ≡ None → A → MatchOption o A Q
refused None A Q e a = a
refused (Some x) A Q e a = absurd (true≢false cc)

-- one character of a part, and one that ends it
pub part_more : (p q : Pressed) (bytes : List ℕ) (i : ℕ) → i < length bytes → (get_or bytes i 0 ≡ slash → ⊥) → after_character p (get_or bytes i 0) ≡ Some q → readings_from p (drop i bytes) ≡ readings_from q (drop (i + 1) bytes)
part_more p q bytes i lt other next = ap (readings_from p) (next_byte bytes i lt) ∙ readings-step p q (get_or bytes i 0) (drop (i + 1) bytes) (ne_eqb (get_or bytes i 0) slash other) next

pub part_refused : (p : Pressed) (bytes : List ℕ) (i : ℕ) → i < length bytes → (get_or bytes i 0 ≡ slash → ⊥) → after_character p (get_or bytes i 0) ≡ None → (others : List (Option ℕ)) × (readings_from p (drop i bytes) ≡ None ∷ others)
part_refused p bytes i lt other next =
    let r = readings-none p (get_or bytes i 0) (drop (i + 1) bytes) (ne_eqb (get_or bytes i 0) slash other) next in
    (r.0, ap (readings_from p) (next_byte bytes i lt) ∙ r.1)

part_ends : (p : Pressed) (bytes : List ℕ) (i : ℕ) → i < length bytes → get_or bytes i 0 ≡ slash → (o : Option ℕ) → o ≡ stroke_with p.code → readings_from p (drop i bytes) ≡ o ∷ readings (drop (i + 1) bytes)
part_ends p bytes i lt at o e =
    ap (readings_from p) (next_byte bytes i lt ∙ ap (λ b. b ∷ drop (i + 1) bytes) at)
    ∙ (readings-slash p (drop (i + 1) bytes) ∙ ap (λ r. r ∷ readings (drop (i + 1) bytes)) (sym e))

pub part_none : (p : Pressed) (bytes : List ℕ) (i : ℕ) → i < length bytes → get_or bytes i 0 ≡ slash → (IsStroke p.code → ⊥) → (others : List (Option ℕ)) × (readings_from p (drop i bytes) ≡ None ∷ others)
part_none p bytes i lt at none = (readings (drop (i + 1) bytes), part_ends p bytes i lt at None (stroke_is None p.code none))

pub part_some : (p : Pressed) (bytes : List ℕ) (i stroke : ℕ) → i < length bytes → get_or bytes i 0 ≡ slash → IsStroke p.code × (stroke ≡ p.code) → readings_from p (drop i bytes) ≡ Some stroke ∷ readings (take (length bytes - (i + 1)) (drop (i + 1) bytes))
part_some p bytes i stroke lt at some =
    let len = length-drop (i + 1) bytes in
    part_ends p bytes i lt at (Some stroke) (stroke_is (Some stroke) p.code some)
    ∙ ap (λ rest. Some stroke ∷ readings rest) (sym (take_all (length bytes - (i + 1)) (drop (i + 1) bytes) (omega (arith, len))))

-- the end of the last part
last_ends : (p : Pressed) (bytes : List ℕ) (i : ℕ) → length bytes ≤ i → (o : Option ℕ) → o ≡ stroke_with p.code → readings_from p (drop i bytes) ≡ o ∷ []
last_ends p bytes i le o e = ap (readings_from p) (drop_all i bytes le) ∙ ap (λ r. r ∷ []) (sym e)

pub last_none : (p : Pressed) (bytes : List ℕ) (i : ℕ) → length bytes ≤ i → (IsStroke p.code → ⊥) → (others : List (Option ℕ)) × (readings_from p (drop i bytes) ≡ None ∷ others)
last_none p bytes i le none = ([], last_ends p bytes i le None (stroke_is None p.code none))

pub last_some : (p : Pressed) (bytes : List ℕ) (i stroke : ℕ) → length bytes ≤ i → IsStroke p.code × (stroke ≡ p.code) → readings_from p (drop i bytes) ≡ Some stroke ∷ []
last_some p bytes i stroke le some = last_ends p bytes i le (Some stroke) (stroke_is (Some stroke) p.code some)
