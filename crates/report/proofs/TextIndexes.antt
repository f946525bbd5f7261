-- Texts laid end to end.
use Rattle.std.proofs.Common.{◌≡◌, ℕ, zero, suc, ◌+◌, ◌-◌, ◌<◌, ◌≤◌, List, [], ◌∷◌, ◌++◌, length, take, take_all, drop, get_or, refl, sym, ap, ◌∙◌, arith, inl, inr, append_assoc, append-nil, length-append}
use Rattle.std.proofs.lemmas.Bool.{cases_lt}
use Rattle.std.proofs.lemmas.List.{drop_at, get_or_append_left, get_or_at, length_push, take_at, take_more, take-append-drop}
use Rattle.std.proofs.lemmas.Grind.{flat_map-append}
use Rattle.std.specs.List.{slice_range}
use Rattle.steno_rules.specs.Outlines.{outline_of}
use Rattle.steno_order.specs.Canonical.{canonical_text}
use Rattle.report.specs.inside.Indexes.{IsTextIndex, texts_of}

-- the first so many outlines have their texts
pub record IsTextsSoFar (outlines : List (List ℕ)) (n : ℕ) (text ends : List ℕ) : Type 0 where
  pub text_is : text ≡ texts_of (take n outlines)
  pub count : length ends ≡ n + 1
  pub each : (e : ℕ) → e ≤ n → get_or ends e 0 ≡ length (texts_of (take e outlines))

pub texts_none : (outlines : List (List ℕ)) → IsTextsSoFar outlines 0 [] (0 ∷ [])
texts_none outlines = record { text_is = refl; count = refl; each = λ e low. first e (omega arith) }
  where
    first : (e : ℕ) → e ≡ 0 → get_or (0 ∷ []) e 0 ≡ length (texts_of (take e outlines))
    first zero none = refl
    first (suc e) none = absurd (omega arith)

-- the texts of one outline more
texts_step : (outlines : List (List ℕ)) (n : ℕ) → n < length outlines → texts_of (take (n + 1) outlines) ≡ texts_of (take n outlines) ++ canonical_text (outline_of outlines n)
texts_step outlines n inside =
    ap texts_of (take_more outlines n [] inside)
    ∙ flat_map-append canonical_text (take n outlines) (outline_of outlines n ∷ [])
    ∙ ap (λ l. texts_of (take n outlines) ++ l) (append-nil (canonical_text (outline_of outlines n)))

pub texts_more : (outlines : List (List ℕ)) (n : ℕ) (text ends outline new : List ℕ) → n < length outlines → outline ≡ outline_of outlines n → new ≡ text ++ canonical_text outline →
    IsTextsSoFar outlines n text ends → IsTextsSoFar outlines (n + 1) new (ends ++ length new ∷ [])
texts_more outlines n text ends outline new inside is new_is h =
    let whole : new ≡ texts_of (take (n + 1) outlines) =
    new_is ∙ ap (λ l. text ++ canonical_text l) is ∙ ap (λ l. l ++ canonical_text (outline_of outlines n)) h.text_is ∙ sym (texts_step outlines n inside) in
    record {
      text_is = whole;
      count = omega (arith, length_push ends (length new), h.count);
      each = λ e low. elim (cases_lt e (n + 1)) [
        | inl lt ↦ get_or_append_left ends (length new ∷ []) 0 e (omega (arith, h.count)) ∙ h.each e (omega arith)
        | inr ge ↦ let same : n + 1 ≡ e = omega arith in
            get_or_at ends (length new) [] 0 e (h.count ∙ same) ∙ ap length whole ∙ ap (λ k. length (texts_of (take k outlines))) same
      ];
    }

pub texts_all : (outlines : List (List ℕ)) (n : ℕ) (text ends : List ℕ) → n ≡ length outlines → IsTextsSoFar outlines n text ends → IsTextIndex outlines text ends
texts_all outlines n text ends all h = record {
  text_is = h.text_is ∙ ap texts_of (take_all n outlines (omega (arith, all)));
  count = omega (arith, h.count, all);
  each = λ e low. h.each e (omega (arith, all));
}

-- the texts up to an outline, its own, and those behind it
split : (outlines : List (List ℕ)) (e : ℕ) → e < length outlines →
    texts_of outlines ≡ texts_of (take e outlines) ++ (canonical_text (outline_of outlines e) ++ texts_of (drop (e + 1) outlines))
split outlines e inside =
    ap texts_of (sym (take-append-drop (e + 1) outlines))
    ∙ flat_map-append canonical_text (take (e + 1) outlines) (drop (e + 1) outlines)
    ∙ ap (λ l. l ++ texts_of (drop (e + 1) outlines)) (texts_step outlines e inside)
    ∙ append_assoc (texts_of (take e outlines)) (canonical_text (outline_of outlines e)) (texts_of (drop (e + 1) outlines))

pub record IsPlace (text : List ℕ) (from to : ℕ) (part : List ℕ) : Type 0 where
  pub order : from ≤ to
  pub within : to ≤ length text
  pub is : slice_range text from to ≡ part

-- a part of a text
cut : (text a b c : List ℕ) (from to : ℕ) → text ≡ a ++ (b ++ c) → from ≡ length a → to ≡ length a + length b → IsPlace text from to b
cut text a b c from to is from_is to_is = record {
  order = omega arith;
  within = omega (arith, ap length is, length-append a (b ++ c), length-append b c);
  is = let n : to - from ≡ length b = omega arith in
      ap (λ l. slice_range l from to) is ∙ rw n (ap (take (length b)) (drop_at a (b ++ c) from (sym from_is)) ∙ take_at b c (length b) refl);
}

-- The text of an outline stands at its place.
pub text_at : (outlines : List (List ℕ)) (text ends : List ℕ) (e : ℕ) → e < length outlines → IsTextIndex outlines text ends →
    IsPlace text (get_or ends e 0) (get_or ends (e + 1) 0) (canonical_text (outline_of outlines e))
text_at outlines text ends e inside h =
    cut text (texts_of (take e outlines)) (canonical_text (outline_of outlines e)) (texts_of (drop (e + 1) outlines)) (get_or ends e 0) (get_or ends (e + 1) 0)
    (h.text_is ∙ split outlines e inside) (h.each e (omega arith))
    (h.each (e + 1) (omega arith) ∙ ap length (texts_step outlines e inside) ∙ length-append (texts_of (take e outlines)) (canonical_text (outline_of outlines e)))

-- what is cut out of the text in two steps
pub place_read : (text : List ℕ) (from to : ℕ) (part : List ℕ) (a b : ℕ) (rest found : List ℕ) → IsPlace text from to part → a ≡ from → b ≡ to →
    rest ≡ drop a text → found ≡ take (b - a) rest → found ≡ part
place_read text from to part a b rest found h a_is b_is rest_is found_is =
    found_is ∙ ap (take (b - a)) rest_is ∙ ap (λ k. take (b - k) (drop k text)) a_is ∙ ap (λ k. take (k - from) (drop from text)) b_is ∙ h.is
