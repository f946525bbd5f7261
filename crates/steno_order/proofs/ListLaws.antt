-- Laws of lists of strokes: what they are, how many, where a part spells none, and how long their text is.
use Rattle.std.proofs.Common.{◌≡◌, ℕ, zero, suc, ◌+◌, ◌*◌, ◌^◌, ◌<◌, ◌≤◌, List, [], ◌∷◌, ◌++◌, map, length, refl, sym, ap, subst, arith, Bool, true, false, cond, true≢false, ◌∙◌}
use Rattle.std.specs.Prelude.{◌&&◌, All, filter, nat_lt, Option, Some, None, option_map, option_and_then, if◌then◌else◌}
use Rattle.std.specs.Option.{is_none}
use Rattle.std.specs.List.{AllZip, position_or_len, range_with_len}
use Rattle.std.proofs.lemmas.Bool.{lt-ltb, ltb-true, and_parts}
use Rattle.std.proofs.lemmas.List.{length-append}
use Rattle.std.proofs.lemmas.List.Elements.{All-cons, recursion_from_All}
use Rattle.text_rules.proofs.Splits.{some_part}
use Rattle.steno_rules.specs.Outlines.{IsStroke, IsOutline, most_strokes}
use Rattle.steno_order.specs.declared.pressed.Pressed.{Pressed}
use Rattle.steno_order.specs.Keys.{has, slash}
use Rattle.steno_order.specs.Canonical.{keys_from, mark, needs_bar, needs_hyphen, bar_text, hyphen_text, canonical, canonical_text}
use Rattle.steno_order.specs.Spelling.{Spelling, SpellingOfAll, parts_of}
use Rattle.steno_order.specs.Reading.{readings, all_some, spelt_strokes, unreadable_part}
use Rattle.steno_order.specs.inside.Steps.{after_character, stroke_with, spelt_from}
use Rattle.steno_order.proofs.Spellings.{Spelling-stroke}
use Rattle.steno_order.proofs.Steps.{nothing, stroke_of-steps}
use Rattle.steno_order.proofs.Lists.{canonical-SpellingOfAll, SpellingOfAll-strokes, strokes-SpellingOfAll}

-- what is read is a stroke
with-IsStroke : (n code : ℕ) → stroke_with n ≡ Some code → IsStroke code
with-IsStroke n code e = by (nat_lt 0 n && nat_lt n (2 ^ 23)) refl e
  where
    by : (b : Bool) → (nat_lt 0 n && nat_lt n (2 ^ 23)) ≡ b → (if b then Some n else None) ≡ Some code → IsStroke code
    by false is e = absurd (true≢false cc)
    by true is e =
        let two = and_parts (nat_lt 0 n) (nat_lt n (2 ^ 23)) is in
        let same : n ≡ code = cc in
        subst IsStroke same (ltb-true 0 n two.0, ltb-true n (2 ^ 23) two.1)

from-IsStroke : (p : Pressed) (text : List ℕ) (code : ℕ) → spelt_from p text ≡ Some code → IsStroke code
from-IsStroke p [] code e = with-IsStroke p.code code e
from-IsStroke p (c ∷ cs) code e = by (after_character p c) e (λ q. from-IsStroke q cs code)
  where
    by : (o : Option Pressed) → option_and_then (λ q. spelt_from q cs) o ≡ Some code → ((q : Pressed) → spelt_from q cs ≡ Some code → IsStroke code) → IsStroke code
    by None e rec = absurd (true≢false cc)
    by (Some q) e rec = rec q e

pub Spelling-IsStroke : (text : List ℕ) (code : ℕ) → Spelling text code → IsStroke code
Spelling-IsStroke text code s = from-IsStroke nothing text code (sym (stroke_of-steps text) ∙ Spelling-stroke text code s)

each-IsStroke : (parts : List (List ℕ)) (strokes : List ℕ) → AllZip Spelling parts strokes → All IsStroke strokes
each-IsStroke parts [] h = λ i d l. absurd (omega arith)
each-IsStroke [] (s ∷ ss) h = absurd h
each-IsStroke (p ∷ ps) (s ∷ ss) h = All-cons IsStroke s ss (Spelling-IsStroke p s h.0) (each-IsStroke ps ss h.1)

pub SpellingOfAll-IsStroke : (text : List ℕ) (strokes : List ℕ) → SpellingOfAll text strokes → All IsStroke strokes
SpellingOfAll-IsStroke text strokes h = each-IsStroke (parts_of text) strokes h

as_many : (parts : List (List ℕ)) (strokes : List ℕ) → AllZip Spelling parts strokes → length strokes ≡ length parts
as_many [] [] h = refl
as_many (p ∷ ps) [] h = absurd h
as_many [] (s ∷ ss) h = absurd h
as_many (p ∷ ps) (s ∷ ss) h = ap suc (as_many ps ss h.1)

pub SpellingOfAll-length : (text : List ℕ) (strokes : List ℕ) → SpellingOfAll text strokes → length strokes ≡ length (parts_of text)
SpellingOfAll-length text strokes h = as_many (parts_of text) strokes h

pub SpellingOfAll-some : (text : List ℕ) → SpellingOfAll text [] → ⊥
SpellingOfAll-some text h = by (parts_of text) refl h
  where
    by : (parts : List (List ℕ)) → parts_of text ≡ parts → AllZip Spelling parts [] → ⊥
    by [] e h = some_part slash text e
    by (p ∷ ps) e h = h

-- what a text spells is an outline, unless it is too long: a reader of outlines need not test it
pub spelt_strokes-IsOutline : (text strokes : List ℕ) → spelt_strokes text ≡ Some strokes → length strokes ≤ most_strokes → IsOutline strokes
spelt_strokes-IsOutline text [] e few = absurd (SpellingOfAll-some text (strokes-SpellingOfAll text [] e))
spelt_strokes-IsOutline text (s ∷ ss) e few = record {
  at_least = omega arith;
  at_most = few;
  each = SpellingOfAll-IsStroke text (s ∷ ss) (strokes-SpellingOfAll text (s ∷ ss) e);
}

-- a list of values is none just where one of its members is
first_none : (os : List (Option ℕ)) → all_some os ≡ None → position_or_len is_none os < length os
first_none [] e = absurd (true≢false cc)
first_none (None ∷ os) e = omega arith
first_none (Some x ∷ os) e = by (all_some os) refl (first_none os) e
  where
    by : (o : Option (List ℕ)) → all_some os ≡ o → (all_some os ≡ None → position_or_len is_none os < length os) → option_map (λ xs. x ∷ xs) o ≡ None → position_or_len is_none (Some x ∷ os) < length (Some x ∷ os)
    by None is rec e = let r = rec is in omega (arith, r)
    by (Some xs) is rec e = absurd (true≢false cc)

some_none : (os : List (Option ℕ)) → position_or_len is_none os < length os → all_some os ≡ None
some_none [] lt = absurd (omega arith)
some_none (None ∷ os) lt = refl
some_none (Some x ∷ os) lt = rw (some_none os (omega arith)) refl

pub spelt_strokes-none : (text : List ℕ) → spelt_strokes text ≡ None → (part : ℕ) × (unreadable_part text ≡ Some part)
spelt_strokes-none text e = let lt = first_none (readings text) e in (position_or_len is_none (readings text), rw (lt-ltb (position_or_len is_none (readings text)) (length (readings text)) lt) refl)

pub none-spelt_strokes : (text : List ℕ) (part : ℕ) → unreadable_part text ≡ Some part → spelt_strokes text ≡ None
none-spelt_strokes text part e = some_none (readings text) (by (nat_lt (position_or_len is_none (readings text)) (length (readings text))) refl e)
  where
    by : (b : Bool) → nat_lt (position_or_len is_none (readings text)) (length (readings text)) ≡ b → cond b (Some (position_or_len is_none (readings text))) None ≡ Some part → position_or_len is_none (readings text) < length (readings text)
    by true is e = ltb-true (position_or_len is_none (readings text)) (length (readings text)) is
    by false is e = absurd (true≢false cc)

-- the canonical text of one or more strokes
pub canonical_text-spells : (strokes : List ℕ) → 0 < length strokes → All IsStroke strokes → SpellingOfAll (canonical_text strokes) strokes
canonical_text-spells [] pos h = absurd (omega arith)
canonical_text-spells (s ∷ ss) pos h = canonical-SpellingOfAll s ss (recursion_from_All IsStroke (s ∷ ss) h)

pub canonical_text-back : (strokes : List ℕ) → 0 < length strokes → All IsStroke strokes → spelt_strokes (canonical_text strokes) ≡ Some strokes
canonical_text-back strokes pos h = SpellingOfAll-strokes (canonical_text strokes) strokes (canonical_text-spells strokes pos h)

-- its length
kept_length : (q : ℕ → Bool) (f : ℕ → ℕ) (a n : ℕ) → length (map f (filter q (range_with_len a n))) ≤ n
kept_length q f a zero = omega arith
kept_length q f a (suc n) = by (q a) (kept_length q f (a + 1) n)
  where
    by : (b : Bool) → length (map f (filter q (range_with_len (a + 1) n))) ≤ n → length (map f (cond b (a ∷ filter q (range_with_len (a + 1) n)) (filter q (range_with_len (a + 1) n)))) ≤ suc n
    by true le = omega arith
    by false le = omega arith

at_most_one : (b : Bool) (c : ℕ) → length (if b then c ∷ [] else []) ≤ 1
at_most_one true c = omega arith
at_most_one false c = omega arith

four_lengths : (a b c d : List ℕ) → length a ≤ 1 → length b ≤ 12 → length c ≤ 1 → length d ≤ 10 → length (a ++ (b ++ (c ++ d))) ≤ 24
four_lengths a b c d la lb lc ld =
    let e1 = length-append a (b ++ (c ++ d)) in
    let e2 = length-append b (c ++ d) in
    let e3 = length-append c d in
    omega (arith, e1, e2, e3, la, lb, lc, ld)

canonical-length : (code : ℕ) → length (canonical code) ≤ 24
canonical-length code = four_lengths (bar_text code) (map (mark code) (keys_from code 1 12)) (hyphen_text code) (map (mark code) (keys_from code 13 10)) (at_most_one (needs_bar code) 35) (kept_length (has code) (mark code) 1 12) (at_most_one (needs_hyphen code) 45) (kept_length (has code) (mark code) 13 10)

canonical_text-length : (strokes : List ℕ) → length (canonical_text strokes) ≤ 25 * length strokes
canonical_text-length [] = omega arith
canonical_text-length (s ∷ []) = let one = canonical-length s in omega (arith, one)
canonical_text-length (s ∷ t ∷ ss) =
    let one = canonical-length s in
    let rest = canonical_text-length (t ∷ ss) in
    let all = length-append (canonical s) (slash ∷ canonical_text (t ∷ ss)) in
    omega (arith, one, rest, all)

pub canonical_text-short : (strokes : List ℕ) → length strokes ≤ most_strokes → length (canonical_text strokes) < 2 ^ 32
canonical_text-short strokes le = let l = canonical_text-length strokes in omega (arith, l, le)
