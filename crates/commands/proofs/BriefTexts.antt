-- The texts of briefs, and their outlines, one after another.
use Rattle.std.proofs.Common.{◌≡◌, ℕ, zero, suc, ◌+◌, ◌<◌, ◌≤◌, ◌∙◌, List, [], ◌∷◌, ◌++◌, length, map, take, get_or, ap, ap₂, sym, subst, arith, Bool, true, false, true≢false, cond, All, Option, Some, None}
use Rattle.std.specs.Prelude.{unwrap_or, is_some, nat_le, ◌==◌}
use Rattle.std.proofs.lemmas.Bool.{and_parts}
use Rattle.std.proofs.lemmas.Bool.Decides.{nat_tests}
use Rattle.std.specs.List.{onto_first}
use Rattle.std.proofs.lemmas.List.{get_or-map, length-map, map-append, take_all, take_more}
use Rattle.std.proofs.lemmas.List.Splits.{length-slice_split}
use Rattle.std.proofs.lemmas.List.Elements.{All-append, All-cons, All-nil}
use Rattle.text_rules.specs.Lines.{parts_between}
use Rattle.steno_rules.specs.Outlines.{IsOutline, most_strokes}
use Rattle.steno_order.specs.Reading.{spelt_strokes}
use Rattle.steno_order.specs.Spelling.{parts_of}
use Rattle.dict_json.proofs.Parts.{spelt_strokes-length}
use Rattle.commands.specs.Commands.{is_brief, is_spelt}

-- A part of a text is no longer than it.
pub part-short : (c : ℕ) (text : List ℕ) (k : ℕ) → length (get_or (parts_between c text) k []) ≤ length text
part-short c [] zero = omega arith
part-short c [] (suc k) = omega arith
part-short c (x ∷ xs) k = by (x == c) (parts_between c xs) k (part-short c xs)
  where
    by : (b : Bool) (parts : List (List ℕ)) (k : ℕ) → ((j : ℕ) → length (get_or parts j []) ≤ length xs) → length (get_or (cond b ([] ∷ parts) (onto_first x parts)) k []) ≤ length (x ∷ xs)
    by true parts zero h = omega arith
    by true parts (suc j) h = let before = h j in omega arith
    by false [] zero h = omega arith
    by false [] (suc j) h = omega arith
    by false (p ∷ ps) zero h = let before = h 0 in omega arith
    by false (p ∷ ps) (suc j) h = let before = h (suc j) in omega arith

-- A text that is readable as an outline spells strokes, and no more than an outline has.
pub brief-spelt : (text : List ℕ) → is_brief text ≡ true → spelt_strokes text ≡ None → ⊥
brief-spelt text brief none = true≢false (sym (and_parts (is_spelt text) (nat_le (length (parts_of text)) most_strokes) brief).0 ∙ ap is_some none)

pub brief-few : (text strokes : List ℕ) → is_brief text ≡ true → spelt_strokes text ≡ Some strokes → length strokes ≤ most_strokes
brief-few text strokes brief is =
    let few = (and_parts (is_spelt text) (nat_le (length (parts_of text)) most_strokes) brief).1 in
    few_of (length strokes) (length (parts_of text)) (spelt_strokes-length text strokes is) few
  where
    few_of : (n parts : ℕ) → n ≡ parts → nat_le parts most_strokes ≡ true → n ≤ most_strokes
    few_of n parts same few = grind (arith, nat_tests)

-- the outline of a text
abbrev pub read_text : List ℕ → List ℕ
read_text text = unwrap_or (spelt_strokes text) []

-- The text at this turn.
pub text-turn : {A : Type 0} (f : A → List ℕ) (items now : List A) (texts : List (List ℕ)) (i : ℕ) (d : A) → now ≡ items → map f items ≡ texts → i < length now → f (get_or now i d) ≡ get_or texts i []
text-turn f items now texts i d same cut within = sym (get_or-map f now i d [] within) ∙ ap (λ l. get_or (map f l) i []) same ∙ ap (λ l. get_or l i []) cut

-- One more outline was read.
pub outlines-more : (texts : List (List ℕ)) (i : ℕ) (outlines : List (List ℕ)) (outline : List ℕ) → i < length texts → outlines ≡ map read_text (take i texts) → spelt_strokes (get_or texts i []) ≡ Some outline
    → outlines ++ outline ∷ [] ≡ map read_text (take (i + 1) texts)
outlines-more texts i outlines outline within before is =
    ap₂ (λ (a : List (List ℕ)) (o : List ℕ). a ++ o ∷ []) before (sym (ap (λ (o : Option (List ℕ)). unwrap_or o []) is))
    ∙ sym (map-append read_text (take i texts) (get_or texts i [] ∷ []))
    ∙ ap (map read_text) (sym (take_more texts i [] within))

-- There is at least one.
pub some-outlines : (c : ℕ) (text : List ℕ) (i : ℕ) (outlines : List (List ℕ)) → length (parts_between c text) ≤ i → outlines ≡ map read_text (take i (parts_between c text)) → 1 ≤ length outlines
some-outlines c text i outlines all is =
    let parts = parts_between c text in
    omega (arith, ap length is, length-map (take i parts) read_text, ap length (take_all i parts all), length-slice_split (λ b. b == c) text)

pub are-outlines-more : (outlines all : List (List ℕ)) (outline : List ℕ) → All IsOutline outlines → IsOutline outline → all ≡ outlines ++ outline ∷ [] → All IsOutline all
are-outlines-more outlines all outline before is next =
    subst (All IsOutline) (sym next) (All-append IsOutline outlines (outline ∷ []) before (All-cons IsOutline outline [] is (All-nil IsOutline)))
