-- Which texts are no outline's.
use Rattle.std.proofs.Common.{ℕ, ◌≡◌, ◌<◌, ◌∙◌, List, Some, None, ap, sym, arith, length}
use Rattle.steno_rules.specs.Outlines.{IsOutline, most_strokes}
use Rattle.steno_order.specs.Canonical.{canonical_text}
use Rattle.steno_order.specs.Reading.{spelt_strokes, unreadable_part}
use Rattle.steno_order.proofs.ListLaws.{canonical_text-back, canonical_text-short, none-spelt_strokes}

-- the text of an outline spells it
pub spelt : (text a : List ℕ) → IsOutline a → text ≡ canonical_text a → spelt_strokes text ≡ Some a
spelt text a is e = ap spelt_strokes e ∙ canonical_text-back a is.at_least is.each

pub long_text : (text a : List ℕ) → 4294967295 < length text → IsOutline a → text ≡ canonical_text a → ⊥
long_text text a long is e = absurd (omega (arith, long, ap length e, canonical_text-short a is.at_most))

pub unreadable_text : (text a : List ℕ) (part : ℕ) → unreadable_part text ≡ Some part → IsOutline a → text ≡ canonical_text a → ⊥
unreadable_text text a part unreadable is e =
    let none : None ≡ Some a = sym (none-spelt_strokes text part unreadable) ∙ spelt text a is e in
    absurd cc

pub same_strokes : (text a b : List ℕ) → spelt_strokes text ≡ Some b → IsOutline a → text ≡ canonical_text a → b ≡ a
same_strokes text a b has is e =
    let same : Some b ≡ Some a = sym has ∙ spelt text a is e in
    cc

pub too_long_text : (text a strokes : List ℕ) (parts : ℕ) → spelt_strokes text ≡ Some strokes → length strokes ≡ parts → most_strokes < parts → IsOutline a → text ≡ canonical_text a → ⊥
too_long_text text a strokes parts has count long is e = absurd (omega (arith, count, long, ap length (same_strokes text a strokes has is e), is.at_most))

-- the outline that the text spells is written otherwise
pub other_text : (text outline again a : List ℕ) → spelt_strokes text ≡ Some outline → again ≡ canonical_text outline → (again ≡ text → ⊥) → IsOutline a → text ≡ canonical_text a → ⊥
other_text text outline again a has written other is e = other (written ∙ ap canonical_text (same_strokes text a outline has is e) ∙ sym e)
