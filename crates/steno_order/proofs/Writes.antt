-- The pressed keys are appended one after another.
use Rattle.std.proofs.Common.{◌≡◌, ℕ, zero, suc, ◌/◌, ◌^◌, inl, inr, subst, ap₂, ◌+◌, ◌-◌, ◌*◌, ◌<◌, ◌≤◌, List, [], ◌∷◌, ◌++◌, map, length, get_or, drop, drop-cons, add-one, refl, sym, ap, arith, true, false, ◌∙◌, append-nil, append_assoc}
use Rattle.std.specs.Int.{bit_at, trailing_zeros, w32}
use Rattle.std.proofs.lemmas.Bool.{cases_lt, eq-eqb, ne_eqb}
use Rattle.std.proofs.lemmas.Nat.Bits.{bit_at-zero}
use Rattle.steno_order.proofs.NextKeys.{IsLowest, lowest, positive, shifted}
use Rattle.steno_order.specs.Keys.{has, slash}
use Rattle.steno_order.specs.Canonical.{keys_from, mark, canonical, canonical_text}
use Rattle.steno_order.specs.inside.Steps.{others_text}

-- a bit that is not set
unset : (code j : ℕ) → bit_at code j ≡ 0 → has code j ≡ false
unset code j none = ne_eqb (bit_at code j) 1 (λ e. absurd (omega (arith, none, e)))

-- no bit is set where none is left
bit_of_rest : (code key j : ℕ) → key ≤ j → code / 2 ^ key ≡ 0 → bit_at code j ≡ 0
bit_of_rest code key j ge none =
    let place : key + (j - key) ≡ j = omega arith in
    ap (bit_at code) (sym place) ∙ (sym (shifted code key (j - key)) ∙ (ap (λ n. bit_at n (j - key)) none ∙ bit_at-zero (j - key)))

-- what was written so far, with what is left to be written, is the whole; and there is room for that
pub record IsWriting (code first end key : ℕ) (old now : List ℕ) (old_len len old_room room : ℕ) : Type 0 where
  pub whole : now ++ map (mark code) (keys_from code key (end - key)) ≡ old ++ map (mark code) (keys_from code first (end - first))
  pub fits : len + (end - key) ≤ room
  pub short : len + (end - key) ≤ old_len + (end - first)
  pub kept : old_room ≤ room

-- ---- the pressed keys

-- none of these keys is pressed
pub keys_none : (code key n : ℕ) → ((j : ℕ) → key ≤ j → j < key + n → has code j ≡ false) → keys_from code key n ≡ []
keys_none code key zero none = refl
keys_none code key (suc n) none = rw (none key (omega arith) (omega arith)) (keys_none code (key + 1) n (λ j ge lt. none j (omega arith) (omega arith)))

-- the first of these keys that is pressed
pub keys_first : (code key n pressed : ℕ) → has code pressed ≡ true → key ≤ pressed → pressed < key + n → ((j : ℕ) → key ≤ j → j < pressed → has code j ≡ false) →
    keys_from code key n ≡ pressed ∷ keys_from code (pressed + 1) (key + n - (pressed + 1))
keys_first code key zero pressed set ge lt none = absurd (omega arith)
keys_first code key (suc n) pressed set ge lt none = elim (cases_lt key pressed) [
  | inl later ↦
      let left : key + 1 + n - (pressed + 1) ≡ key + suc n - (pressed + 1) = omega arith in
      rw (none key (omega arith) later)
      (keys_first code (key + 1) n pressed set (omega arith) (omega arith) (λ j ge' lt'. none j (omega arith) lt') ∙ ap (λ m. pressed ∷ keys_from code (pressed + 1) m) left)
  | inr here ↦
      let same : key ≡ pressed = omega arith in
      let left : n ≡ key + suc n - (pressed + 1) = omega arith in
      rw (subst (λ j. has code j ≡ true) (sym same) set) (ap₂ (λ j m. j ∷ keys_from code (j + 1) m) same left)
]

-- Where no bit is left no key is pressed.
pub rest_none : (code key end : ℕ) → key ≤ end → code / 2 ^ key ≡ 0 → keys_from code key (end - key) ≡ []
rest_none code key end order none = keys_none code key (end - key) (λ j ge lt. unset code j (bit_of_rest code key j ge none))

-- A code of which something is left has a lowest bit there.
pub lowest_left : (code told key : ℕ) → told ≡ code → told < 2 ^ 23 → key ≤ 23 → (told / 2 ^ key ≡ 0 → ⊥) → IsLowest code key (key + trailing_zeros w32 (told / 2 ^ key))
lowest_left code told key same small few some =
    subst (λ n. IsLowest n key (key + trailing_zeros w32 (told / 2 ^ key))) same (lowest told key small few (positive (told / 2 ^ key) some))

-- The lowest bit that is left is the first pressed key, where it isn't behind the last of the keys,
pub rest_first : (code key end pressed : ℕ) → IsLowest code key pressed → pressed < end → keys_from code key (end - key) ≡ pressed ∷ keys_from code (pressed + 1) (end - (pressed + 1))
rest_first code key end pressed low before =
    let from = low.from in
    let left : key + (end - key) - (pressed + 1) ≡ end - (pressed + 1) = omega arith in
    keys_first code key (end - key) pressed (eq-eqb (bit_at code pressed) 1 low.set) low.from (omega arith) (λ j ge lt. unset code j (low.none j ge lt))
    ∙ ap (λ m. pressed ∷ keys_from code (pressed + 1) m) left

-- and else none of them is pressed.
pub rest_behind : (code key end pressed : ℕ) → key ≤ end → IsLowest code key pressed → end ≤ pressed → keys_from code key (end - key) ≡ []
rest_behind code key end pressed order low behind = keys_none code key (end - key) (λ j ge lt. unset code j (low.none j ge (omega arith)))

-- A key is written.
pub one_written : (code first end key pressed : ℕ) (old now more : List ℕ) (old_len len len' old_room room room' : ℕ) → IsWriting code first end key old now old_len len old_room room →
    keys_from code key (end - key) ≡ pressed ∷ keys_from code (pressed + 1) (end - (pressed + 1)) → key ≤ pressed → pressed < end →
    more ≡ now ++ mark code pressed ∷ [] → len' ≤ len + 1 → room ≤ room' → IsWriting code first end (pressed + 1) old more old_len len' old_room room'
one_written code first end key pressed old now more old_len len len' old_room room room' h is ge lt e le wide =
    let fits = h.fits in
    let short = h.short in
    let kept = h.kept in
    record {
      whole = ap (λ l. l ++ map (mark code) (keys_from code (pressed + 1) (end - (pressed + 1)))) e
          ∙ (append_assoc now (mark code pressed ∷ []) (map (mark code) (keys_from code (pressed + 1) (end - (pressed + 1))))
          ∙ (ap (λ l. now ++ map (mark code) l) (sym is) ∙ h.whole));
      fits = omega arith;
      short = omega arith;
      kept = omega arith;
    }

-- No key is left.
pub all_written : (code first end key : ℕ) (old now : List ℕ) (old_len len old_room room : ℕ) → IsWriting code first end key old now old_len len old_room room →
    keys_from code key (end - key) ≡ [] → now ≡ old ++ map (mark code) (keys_from code first (end - first))
all_written code first end key old now old_len len old_room room h none =
    sym (append-nil now) ∙ (ap (λ l. now ++ map (mark code) l) (sym none) ∙ h.whole)

-- the four parts of a canonical text
pub four_parts : (old one two three four a b c d : List ℕ) → one ≡ old ++ a → two ≡ one ++ b → three ≡ two ++ c → four ≡ three ++ d → four ≡ old ++ (a ++ (b ++ (c ++ d)))
four_parts old one two three four a b c d ea eb ec ed =
    ed ∙ (ap (λ l. l ++ d) (ec ∙ ap (λ l. l ++ c) (eb ∙ ap (λ l. l ++ b) ea))
    ∙ (append_assoc ((old ++ a) ++ b) c d ∙ (append_assoc (old ++ a) b (c ++ d) ∙ append_assoc old a (b ++ (c ++ d)))))

-- what was written of the strokes so far, with the texts of the others, is the whole; and there is room for these
pub record IsListing (strokes : List ℕ) (place : ℕ) (old now : List ℕ) (len room : ℕ) : Type 0 where
  pub whole : now ++ others_text (drop place strokes) ≡ old ++ others_text strokes
  pub fits : len + 25 * (length strokes - place) ≤ room

pub one_listed : (strokes : List ℕ) (place stroke : ℕ) (old now slashed more : List ℕ) (len len' len'' room room' room'' : ℕ) → IsListing strokes place old now len room → place < length strokes → stroke ≡ get_or strokes place stroke →
    slashed ≡ now ++ slash ∷ [] → len' ≤ len + 1 → room ≤ room' → more ≡ slashed ++ canonical stroke → len'' ≤ len' + 24 → room' ≤ room'' → IsListing strokes (place + 1) old more len'' room''
one_listed strokes place stroke old now slashed more len len' len'' room room' room'' h lt is e le ge e' le' ge' =
    let fits = h.fits in
    let next : drop place strokes ≡ stroke ∷ drop (place + 1) strokes = rw (add-one) (drop-cons strokes place stroke lt) ∙ ap (λ s. s ∷ drop (place + 1) strokes) (sym is) in
    record {
      whole = ap (λ l. l ++ others_text (drop (place + 1) strokes)) (e' ∙ (ap (λ l. l ++ canonical stroke) e ∙ append_assoc now (slash ∷ []) (canonical stroke)))
          ∙ (append_assoc now (slash ∷ canonical stroke) (others_text (drop (place + 1) strokes))
          ∙ (ap (λ l. now ++ others_text l) (sym next) ∙ h.whole));
      fits = omega arith;
    }

others_after : (stroke : ℕ) (strokes : List ℕ) → canonical_text (stroke ∷ strokes) ≡ canonical stroke ++ others_text strokes
others_after stroke [] = sym (append-nil (canonical stroke))
others_after stroke (s ∷ ss) = ap (λ l. canonical stroke ++ slash ∷ l) (others_after s ss)

pub first_and_others : (strokes : List ℕ) (stroke : ℕ) (others old first whole : List ℕ) → strokes ≡ stroke ∷ others → first ≡ old ++ canonical stroke → whole ≡ first ++ others_text others → whole ≡ old ++ canonical_text strokes
first_and_others strokes stroke others old first whole is e e' =
    e' ∙ (ap (λ l. l ++ others_text others) e ∙ (append_assoc old (canonical stroke) (others_text others) ∙ ap (λ l. old ++ l) (sym (ap canonical_text is ∙ others_after stroke others))))
