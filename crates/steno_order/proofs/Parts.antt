-- Reading the parts one after_character another.
use Rattle.std.proofs.Common.{◌≡◌, ℕ, List, [], ◌∷◌, refl, ap, Bool, true, false, cond, true≢false}
use Rattle.std.specs.Prelude.{◌==◌, map, Option, Some, None, option_and_then}
use Rattle.std.specs.List.{onto_first}
use Rattle.text_rules.proofs.Splits.{some_part}
use Rattle.steno_order.specs.declared.pressed.Pressed.{Pressed}
use Rattle.steno_order.specs.Keys.{slash}
use Rattle.steno_order.specs.Spelling.{parts_of}
use Rattle.steno_order.specs.Reading.{stroke_of, readings}
use Rattle.steno_order.specs.inside.Steps.{after_character, stroke_with, spelt_from, each_from, readings_from}
use Rattle.steno_order.proofs.Steps.{nothing, stroke_of-steps}

pub readings-begin : (text : List ℕ) → readings text ≡ readings_from nothing text
readings-begin text = by (parts_of text) refl
  where
    by : (parts : List (List ℕ)) → parts_of text ≡ parts → map stroke_of parts ≡ each_from nothing parts
    by [] e = absurd (some_part slash text e)
    by (p ∷ ps) e = ap (λ o. o ∷ map stroke_of ps) (stroke_of-steps p)

pub readings-slash : (p : Pressed) (cs : List ℕ) → readings_from p (slash ∷ cs) ≡ stroke_with p.code ∷ readings cs
readings-slash p cs = refl

-- a character that isn't a slash and may follow
pub readings-step : (p q : Pressed) (c : ℕ) (cs : List ℕ) → (c == slash) ≡ false → after_character p c ≡ Some q → readings_from p (c ∷ cs) ≡ readings_from q cs
readings-step p q c cs isnt next = by (c == slash) isnt (parts_of cs) refl
  where
    by : (t : Bool) → t ≡ false → (parts : List (List ℕ)) → parts_of cs ≡ parts → each_from p (cond t ([] ∷ parts) (onto_first c parts)) ≡ each_from q parts
    by true is parts e = absurd (true≢false is)
    by false is [] e = absurd (some_part slash cs e)
    by false is (x ∷ parts) e = ap (λ o. option_and_then (λ r. spelt_from r x) o ∷ map stroke_of parts) next

-- one that may not follow
pub readings-none : (p : Pressed) (c : ℕ) (cs : List ℕ) → (c == slash) ≡ false → after_character p c ≡ None → (others : List (Option ℕ)) × (readings_from p (c ∷ cs) ≡ None ∷ others)
readings-none p c cs isnt next = by (c == slash) isnt (parts_of cs) refl
  where
    by : (t : Bool) → t ≡ false → (parts : List (List ℕ)) → parts_of cs ≡ parts → (others : List (Option ℕ)) × (each_from p (cond t ([] ∷ parts) (onto_first c parts)) ≡ None ∷ others)
    by true is parts e = absurd (true≢false is)
    by false is [] e = absurd (some_part slash cs e)
    by false is (x ∷ parts) e = (map stroke_of parts, ap (λ o. option_and_then (λ r. spelt_from r x) o ∷ map stroke_of parts) next)
