-- Lists of strokes and their texts.
use Rattle.std.proofs.Common.{◌≡◌, ℕ, List, [], ◌∷◌, ◌++◌, map, refl, sym, ap, subst, arith, Bool, true, false, true≢false, ◌⊎◌, inl, inr, ◌∙◌}
use Rattle.std.specs.Prelude.{◌||◌, ◌==◌, not, Option, Some, None, option_map, option_and_then}
use Rattle.std.specs.List.{AllZip, AllByRecursion}
use Rattle.std.proofs.lemmas.List.Folds.{list_any-append}
use Rattle.std.proofs.lemmas.Bool.{eqb-true}
use Rattle.text_rules.specs.Lines.{has_byte}
use Rattle.text_rules.proofs.Splits.{one_part, next_part}
use Rattle.steno_rules.specs.Outlines.{IsStroke}
use Rattle.steno_order.specs.Keys.{is_written, slash, hyphen, bar}
use Rattle.steno_order.specs.Spelling.{Press, chars_of, last_key, Spelling, SpellingOfAll, parts_of}
use Rattle.steno_order.specs.Canonical.{canonical, canonical_text}
use Rattle.steno_order.specs.Reading.{stroke_of, all_some, spelt_strokes}
use Rattle.steno_order.proofs.Ranges.{tested}
use Rattle.steno_order.proofs.Presses.{below_23, false_or_true, Chain, ArePressed-chain}
use Rattle.steno_order.proofs.Spellings.{not_of, Spelling-stroke, stroke-Spelling}
use Rattle.steno_order.proofs.Canonicals.{canonical-Spelling}

-- the function on parts
all-parts : (parts : List (List ℕ)) (strokes : List ℕ) → AllZip Spelling parts strokes → all_some (map stroke_of parts) ≡ Some strokes
all-parts [] [] h = refl
all-parts [] (s ∷ ss) h = absurd h
all-parts (p ∷ ps) [] h = absurd h
all-parts (p ∷ ps) (s ∷ ss) h = rw (Spelling-stroke p s h.0, all-parts ps ss h.1) refl

parts-all : (parts : List (List ℕ)) (strokes : List ℕ) → all_some (map stroke_of parts) ≡ Some strokes → AllZip Spelling parts strokes
parts-all [] [] e = tt
parts-all [] (s ∷ ss) e = absurd (true≢false cc)
parts-all (p ∷ ps) strokes e = by (stroke_of p) refl (all_some (map stroke_of ps)) refl e (λ rest. parts-all ps rest)
  where
    by : (o : Option ℕ) → stroke_of p ≡ o → (os : Option (List ℕ)) → all_some (map stroke_of ps) ≡ os → option_and_then (λ x. option_map (λ xs. x ∷ xs) os) o ≡ Some strokes →
        ((rest : List ℕ) → all_some (map stroke_of ps) ≡ Some rest → AllZip Spelling ps rest) → AllZip Spelling (p ∷ ps) strokes
    by None is os iss e rec = absurd (true≢false cc)
    by (Some s) is None iss e rec = absurd (true≢false cc)
    by (Some s) is (Some ss) iss e rec = let same : s ∷ ss ≡ strokes = cc in subst (λ l. AllZip Spelling (p ∷ ps) l) same (stroke-Spelling p s is, rec ss iss)

pub SpellingOfAll-strokes : (text : List ℕ) (strokes : List ℕ) → SpellingOfAll text strokes → spelt_strokes text ≡ Some strokes
SpellingOfAll-strokes text strokes h = all-parts (parts_of text) strokes h

pub strokes-SpellingOfAll : (text : List ℕ) (strokes : List ℕ) → spelt_strokes text ≡ Some strokes → SpellingOfAll text strokes
strokes-SpellingOfAll text strokes e = parts-all (parts_of text) strokes e

pub SpellingOfAll-unique : (text : List ℕ) (xs ys : List ℕ) → SpellingOfAll text xs → SpellingOfAll text ys → xs ≡ ys
SpellingOfAll-unique text xs ys x y = let same : Some xs ≡ Some ys = sym (SpellingOfAll-strokes text xs x) ∙ SpellingOfAll-strokes text ys y in cc

-- no spelling has a slash
no_slash_key : (key : ℕ) → is_written slash key ≡ true → ⊥
no_slash_key key w = not_of (is_written slash key) (tested (λ k. not (is_written slash k)) 0 23 refl key (omega arith) (below_23 slash key w)) w

presses_slash : (last least : ℕ) (ps : List Press) → Chain last least ps → has_byte slash (chars_of ps) ≡ false
presses_slash last least [] h = refl
presses_slash last least (p ∷ ps) h = elim (false_or_true (p.char == slash)) [
  | inl is ↦ absurd (no_slash_key p.key (subst (λ c. is_written c p.key ≡ true) (eqb-true p.char slash is) (h.0).written))
  | inr isnt ↦ rw (isnt, presses_slash p.key least ps h.1) refl
]

bar_slash : (first : List ℕ) → (first ≡ []) ⊎ (first ≡ bar ∷ []) → has_byte slash first ≡ false
bar_slash first (inl e) = rw e refl
bar_slash first (inr e) = rw e refl

hyphen_slash : (middle : List ℕ) (A B : Type 0) → ((middle ≡ []) × A) ⊎ ((middle ≡ hyphen ∷ []) × B) → has_byte slash middle ≡ false
hyphen_slash middle A B (inl e) = rw (e.0) refl
hyphen_slash middle A B (inr e) = rw (e.0) refl

spelling_slash : (text : List ℕ) (code : ℕ) → Spelling text code → has_byte slash text ≡ false
spelling_slash text code s =
    ap (has_byte slash) s.whole
    ∙ (list_any-append (λ c. c == slash) s.first (chars_of s.before ++ (s.middle ++ chars_of s.after))
    ∙ (ap (λ b. has_byte slash s.first || b) (list_any-append (λ c. c == slash) (chars_of s.before) (s.middle ++ chars_of s.after) ∙ ap (λ b. has_byte slash (chars_of s.before) || b) (list_any-append (λ c. c == slash) s.middle (chars_of s.after)))
    ∙ none (has_byte slash s.first) (has_byte slash (chars_of s.before)) (has_byte slash s.middle) (has_byte slash (chars_of s.after)) (bar_slash s.first s.bar_or_none)
    (presses_slash 0 1 s.before (ArePressed-chain 0 1 s.before s.keys_before)) (hyphen_slash s.middle _ _ s.hyphen_or_none) (presses_slash (last_key 0 s.before) 11 s.after (ArePressed-chain (last_key 0 s.before) 11 s.after s.keys_after))))
  where
    none : (a b c d : Bool) → a ≡ false → b ≡ false → c ≡ false → d ≡ false → (a || (b || (c || d))) ≡ false
    none a b c d ea eb ec ed = rw (ea, eb, ec, ed) refl

canonical_slash : (code : ℕ) → IsStroke code → has_byte slash (canonical code) ≡ false
canonical_slash code h = spelling_slash (canonical code) code (canonical-Spelling code h.0 h.1)

parts_canonical : (s : ℕ) (ss : List ℕ) → AllByRecursion IsStroke (s ∷ ss) → parts_of (canonical_text (s ∷ ss)) ≡ map canonical (s ∷ ss)
parts_canonical s [] h = one_part slash (canonical s) (canonical_slash s h.0)
parts_canonical s (t ∷ ss) h = next_part slash (canonical s) (canonical_text (t ∷ ss)) (canonical_slash s h.0) ∙ ap (λ l. canonical s ∷ l) (parts_canonical t ss h.1)

each_spells : (ss : List ℕ) → AllByRecursion IsStroke ss → AllZip Spelling (map canonical ss) ss
each_spells [] h = tt
each_spells (s ∷ ss) h = (canonical-Spelling s (h.0).0 (h.0).1, each_spells ss h.1)

-- the canonical text of one or more strokes spells them
pub canonical-SpellingOfAll : (s : ℕ) (ss : List ℕ) → AllByRecursion IsStroke (s ∷ ss) → SpellingOfAll (canonical_text (s ∷ ss)) (s ∷ ss)
canonical-SpellingOfAll s ss h = subst (λ parts. AllZip Spelling parts (s ∷ ss)) (sym (parts_canonical s ss h)) (each_spells (s ∷ ss) h)
