-- How many strokes a text spells, and which texts spell none.
use Rattle.std.proofs.Common.{ℕ, ◌≡◌, suc, List, [], ◌∷◌, length, refl, sym, ap, ◌∙◌, None, Some, Option, option_map}
use Rattle.std.proofs.lemmas.List.{length-map}
use Rattle.steno_order.specs.Reading.{stroke_of, all_some, readings, spelt_strokes}
use Rattle.steno_order.specs.Spelling.{parts_of}

-- as many as there are values
all_some-length : (os : List (Option ℕ)) (xs : List ℕ) → all_some os ≡ Some xs → length xs ≡ length os
all_some-length [] xs e = let same : [] ≡ xs = cc in ap length (sym same)
all_some-length (None ∷ os) xs e = absurd (cc)
all_some-length (Some o ∷ os) xs e = by (all_some os) (all_some-length os) e
  where
    by : (r : Option (List ℕ)) → ((ys : List ℕ) → r ≡ Some ys → length ys ≡ length os) → option_map (λ ys. o ∷ ys) r ≡ Some xs → length xs ≡ suc (length os)
    by None rest is = absurd (cc)
    by (Some ys) rest is = let same : o ∷ ys ≡ xs = cc in ap length (sym same) ∙ ap suc (rest ys refl)

pub spelt_strokes-length : (text strokes : List ℕ) → spelt_strokes text ≡ Some strokes → length strokes ≡ length (parts_of text)
spelt_strokes-length text strokes e = all_some-length (readings text) strokes e ∙ length-map (parts_of text) stroke_of
