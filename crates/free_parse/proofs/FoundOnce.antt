-- Of what is found of words there is at most one.
use Rattle.std.proofs.Common.{◌≡◌, ℕ, List, [], ◌∷◌, map, refl, sym, ap, ap₂, ◌∙◌, arith, Option, Some, None}
use Rattle.steno_rules.specs.Conflicts.{outlines_of}
use Rattle.steno_rules.specs.Outlines.{entry_number}
use Rattle.reading_laws.specs.ChosenReadings.{Halves, chosen_halves}
use Rattle.free_parse.specs.FoundReadings.{AreChosenTwo, AreFewest, AreNumbersOfWords, ParsedAs, ReadingsView}

map_some : (xs ys : List ℕ) → map Some xs ≡ map Some ys → xs ≡ ys
map_some [] [] is = refl
map_some [] (y ∷ ys) is = absurd (none is)
  where
    none : [] ≡ Some y ∷ map Some ys → ⊥
    none is = cc
map_some (x ∷ xs) [] is = absurd (none is)
  where
    none : Some x ∷ map Some xs ≡ [] → ⊥
    none is = cc
map_some (x ∷ xs) (y ∷ ys) is =
    let first : x ≡ y = cc in
    let rest : map Some xs ≡ map Some ys = cc in
    ap₂ (λ z l. z ∷ l) first (map_some xs ys rest)

numbers_once : (entries : List (List ℕ)) (xs ys : List ℕ) (vs ws : List (List ℕ)) → vs ≡ ws → AreNumbersOfWords entries xs vs → AreNumbersOfWords entries ys ws → xs ≡ ys
numbers_once entries xs ys vs ws same a b = map_some xs ys (a ∙ ap (map (entry_number entries)) same ∙ sym b)

view_same : (r s : ReadingsView) → r.strokes ≡ s.strokes → r.first ≡ s.first → r.second ≡ s.second → r ≡ s
view_same r s strokes first second =
    ap (λ x. record r { strokes = x }) strokes ∙ ap (λ x. record s { first = x; second = r.second }) first ∙ ap (λ x. record s { second = x }) second

strokes_once : (entries words : List (List ℕ)) (r s : ReadingsView) → AreFewest entries words r → AreFewest entries words s → r.strokes ≡ s.strokes
strokes_once entries words r s a b =
    let less = a.shortest.least (outlines_of entries s.first) (outlines_of entries s.second) b.shortest.are in
    let more = b.shortest.least (outlines_of entries r.first) (outlines_of entries r.second) a.shortest.are in
    let long = a.shortest.strokes in
    let wide = b.shortest.strokes in
    omega (arith, less, more, long, wide)

two_once : (entries words : List (List ℕ)) (table : List ℕ) (r s : ReadingsView) → AreFewest entries words r → AreFewest entries words s → AreChosenTwo entries words table r → AreChosenTwo entries words table s → r ≡ s
two_once entries words table r s a b ca cb =
    let strokes = strokes_once entries words r s a b in
    let same = ap (chosen_halves entries words table) strokes in
    view_same r s strokes
    (numbers_once entries r.first s.first (chosen_halves entries words table r.strokes).first (chosen_halves entries words table s.strokes).first (ap (λ (h : Halves). h.first) same) ca.first_are cb.first_are)
    (numbers_once entries r.second s.second (chosen_halves entries words table r.strokes).second (chosen_halves entries words table s.strokes).second (ap (λ (h : Halves). h.second) same) ca.second_are cb.second_are)

-- What is found of words by a table of settled words is one value.
pub found_once : (entries words : List (List ℕ)) (table : List ℕ) (a b : Option ReadingsView) → ParsedAs entries words table a → ParsedAs entries words table b → a ≡ b
found_once entries words table None None ha hb = refl
found_once entries words table None (Some s) ha hb = sym (hb.free.1 (ha.free.0 refl))
found_once entries words table (Some r) None ha hb = ha.free.1 (hb.free.0 refl)
found_once entries words table (Some r) (Some s) ha hb = ap Some (two_once entries words table r s ha.fewest hb.fewest ha.chosen hb.chosen)
