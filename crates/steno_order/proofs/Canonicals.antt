-- The canonical text of a stroke spells it.
use Rattle.std.proofs.Common.{◌≡◌, ℕ, suc, ◌^◌, ◌<◌, List, [], ◌∷◌, ◌++◌, map, length, refl, sym, ap, arith, Bool, true, false, cond, true≢false, ◌⊎◌, inl, inr, ◌∙◌, append-nil}
use Rattle.std.specs.Prelude.{◌&&◌, ◌==◌, nat_lt, sum_by, not, if◌then◌else◌, Some}
use Rattle.std.proofs.lemmas.List.{map-append}
use Rattle.std.proofs.lemmas.List.Sums.{sum_by-cons}
use Rattle.std.proofs.lemmas.Bool.{lt-ltb}
use Rattle.steno_order.specs.Keys.{has, keys_code, has_bar, hyphen, bar}
use Rattle.steno_order.specs.Spelling.{Press, chars_of, keys_of, last_key, Spelling}
use Rattle.steno_order.specs.Canonical.{keys_from, mark, bar_text, hyphen_text, canonical}
use Rattle.steno_order.specs.Reading.{stroke_of}
use Rattle.steno_order.proofs.Presses.{Chain, chain-ArePressed}
use Rattle.steno_order.proofs.Spellings.{Spelling-stroke}
use Rattle.steno_order.proofs.Bits.{keys_sum}
use Rattle.steno_order.proofs.Marks.{pressing, chars_same, keys_same, chain_keys, chain-append, last_below, low_all, reached_8}
use Rattle.steno_order.proofs.Bars.{cut_22, has_digit, bar_is}

-- the code is that of its keys
code_is : (code : ℕ) → code < 2 ^ 23 → code ≡ keys_code (has_bar (canonical code)) (keys_from code 1 12 ++ keys_from code 13 10)
code_is code lt = sym (ap (λ ks. keys_code (has_bar (canonical code)) ks) (sym (cut_22 code)) ∙ (ap (λ b. keys_code b (keys_from code 1 22)) (bar_is code) ∙ by (has code 0) (keys_sum code lt)))
  where
    by : (b : Bool) → sum_by (λ key. 2 ^ key) (cond b (0 ∷ keys_from code 1 22) (keys_from code 1 22)) ≡ code → keys_code b (keys_from code 1 22) ≡ code
    by true sum = let first = sum_by-cons (λ key. 2 ^ key) 0 (keys_from code 1 22) in omega (arith, first, sum)
    by false sum = omega (arith, sum)

bar_kinds : (code : ℕ) → (bar_text code ≡ []) ⊎ (bar_text code ≡ bar ∷ [])
bar_kinds code = by (has code 0 && not (has_digit code (keys_from code 1 22)))
  where
    by : (b : Bool) → ((if b then bar ∷ [] else []) ≡ []) ⊎ ((if b then bar ∷ [] else []) ≡ bar ∷ [])
    by true = inr refl
    by false = inl refl

abbrev lefts : ℕ → List Press
lefts code = pressing code (keys_from code 1 12)

abbrev rights : ℕ → List Press
rights code = pressing code (keys_from code 13 10)

left_chain : (code : ℕ) → Chain 0 1 (lefts code)
left_chain code = chain_keys code 0 1 1 12 (omega arith) (omega arith) (omega arith) (omega arith) (inl (omega arith))

left_last : (code : ℕ) → last_key 0 (lefts code) < 13
left_last code = last_below code 0 1 12 (omega arith)

with_hyphen : (code : ℕ) → 0 < code → code < 2 ^ 23 → hyphen_text code ≡ hyphen ∷ [] → Spelling (canonical code) code
with_hyphen code pos lt h = record {
  first = bar_text code;
  before = lefts code;
  middle = hyphen ∷ [];
  after = rights code;
  whole = ap (λ l. bar_text code ++ (map (mark code) (keys_from code 1 12) ++ (l ++ map (mark code) (keys_from code 13 10)))) h
      ∙ (ap (λ l. bar_text code ++ (l ++ (hyphen ∷ [] ++ map (mark code) (keys_from code 13 10)))) (sym (chars_same code (keys_from code 1 12)))
      ∙ ap (λ l. bar_text code ++ (chars_of (lefts code) ++ (hyphen ∷ [] ++ l))) (sym (chars_same code (keys_from code 13 10))));
  bar_or_none = bar_kinds code;
  hyphen_or_none = inr (refl, low_all code 1 12 (omega arith));
  keys_before = chain-ArePressed 0 1 (lefts code) (left_chain code);
  keys_after = chain-ArePressed (last_key 0 (lefts code)) 11 (rights code) (chain_keys code (last_key 0 (lefts code)) 11 13 10 (omega arith) (omega arith) (left_last code) (omega arith) (inr (inr (omega arith))));
  stroke = code_is code lt ∙ ap (keys_code (has_bar (canonical code))) (ap (λ l. l ++ keys_from code 13 10) (sym (keys_same code (keys_from code 1 12))) ∙ (ap (λ l. keys_of (lefts code) ++ l) (sym (keys_same code (keys_from code 13 10))) ∙ sym (map-append (λ p. p.key) (lefts code) (rights code))));
  some_key = pos;
}

lt-and : (n : ℕ) → (nat_lt 0 (suc n) && 0 == 0) ≡ true
lt-and n = rw (lt-ltb 0 (suc n) (omega arith)) refl

-- where no hyphen is written, a key from 8 on comes before the right keys, or there are none
right_chain : (code : ℕ) → (nat_lt 0 (length (keys_from code 13 10)) && length (keys_from code 8 5) == 0) ≡ false → Chain (last_key 0 (lefts code)) 1 (rights code)
right_chain code no_test = elim (reached_8 code) [
  | inr some ↦ chain_keys code (last_key 0 (lefts code)) 1 13 10 (omega arith) (omega arith) (left_last code) (omega arith) (inr (inl some))
  | inl none ↦ by (keys_from code 13 10) (rw none at no_test)
]
  where
    by : (ks : List ℕ) → (nat_lt 0 (length ks) && 0 == 0) ≡ false → Chain (last_key 0 (lefts code)) 1 (pressing code ks)
    by [] e = tt
    by (k ∷ ks) e = absurd (true≢false (sym (lt-and (length ks)) ∙ e))

without_hyphen : (code : ℕ) → 0 < code → code < 2 ^ 23 → (nat_lt 0 (length (keys_from code 13 10)) && length (keys_from code 8 5) == 0) ≡ false → hyphen_text code ≡ [] → Spelling (canonical code) code
without_hyphen code pos lt no_test h = record {
  first = bar_text code;
  before = lefts code ++ rights code;
  middle = [];
  after = [];
  whole = ap (λ l. bar_text code ++ (map (mark code) (keys_from code 1 12) ++ (l ++ map (mark code) (keys_from code 13 10)))) h
      ∙ ap (λ l. bar_text code ++ l) (ap (λ l. l ++ map (mark code) (keys_from code 13 10)) (sym (chars_same code (keys_from code 1 12))) ∙ (ap (λ l. chars_of (lefts code) ++ l) (sym (chars_same code (keys_from code 13 10)))
      ∙ (sym (map-append (λ p. p.char) (lefts code) (rights code)) ∙ sym (append-nil (chars_of (lefts code ++ rights code))))));
  bar_or_none = bar_kinds code;
  hyphen_or_none = inl (refl, refl);
  keys_before = chain-ArePressed 0 1 (lefts code ++ rights code) (chain-append 0 1 (lefts code) (rights code) (left_chain code) (right_chain code no_test));
  keys_after = chain-ArePressed (last_key 0 (lefts code ++ rights code)) 11 [] tt;
  stroke = code_is code lt ∙ ap (keys_code (has_bar (canonical code))) (ap (λ l. l ++ keys_from code 13 10) (sym (keys_same code (keys_from code 1 12))) ∙ (ap (λ l. keys_of (lefts code) ++ l) (sym (keys_same code (keys_from code 13 10))) ∙ (sym (map-append (λ p. p.key) (lefts code) (rights code)) ∙ ap keys_of (sym (append-nil (lefts code ++ rights code))))));
  some_key = pos;
}

pub canonical-Spelling : (code : ℕ) → 0 < code → code < 2 ^ 23 → Spelling (canonical code) code
canonical-Spelling code pos lt = by (nat_lt 0 (length (keys_from code 13 10)) && length (keys_from code 8 5) == 0) refl
  where
    by : (b : Bool) → (nat_lt 0 (length (keys_from code 13 10)) && length (keys_from code 8 5) == 0) ≡ b → Spelling (canonical code) code
    by true is = with_hyphen code pos lt (ap (λ b. if b then hyphen ∷ [] else []) is)
    by false isnt = without_hyphen code pos lt isnt (ap (λ b. if b then hyphen ∷ [] else []) isnt)

pub read_canonical : (code : ℕ) → 0 < code → code < 2 ^ 23 → stroke_of (canonical code) ≡ Some code
read_canonical code pos lt = Spelling-stroke (canonical code) code (canonical-Spelling code pos lt)

pub canonical-unique : (a b : ℕ) → 0 < a → a < 2 ^ 23 → 0 < b → b < 2 ^ 23 → canonical a ≡ canonical b → a ≡ b
canonical-unique a b apos alt bpos blt e = let same : Some a ≡ Some b = sym (read_canonical a apos alt) ∙ (ap stroke_of e ∙ read_canonical b bpos blt) in cc
