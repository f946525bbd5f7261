-- Texts each byte of which is written as itself, in one way of writing bytes.
use Rattle.std.proofs.Common.{ℕ, zero, suc, ◌≡◌, ◌<◌, ◌+◌, ◌%◌, ◌/◌, ◌^◌, List, [], ◌∷◌, ◌++◌, refl, sym, ap, ap₂, ◌∙◌, arith, decimal, codes, flat_map, map, slice_index_or, append_assoc, Bool, true, bytes_eq}
use Rattle.std.specs.List.{list_all, join_with_byte, range_with_len}
use Rattle.std.proofs.lemmas.Bool.{and_parts}
use Rattle.std.proofs.lemmas.Slice.Eq.{bytes_eq-Decides}
use Rattle.std.proofs.lemmas.Grind.{flat_map-append}
use Rattle.std.proofs.lemmas.Fmt.{decimal_by_steps}
use Rattle.json.specs.Print.{escape_byte}
use Rattle.steno_order.specs.Keys.{slash}
use Rattle.dict_json.specs.Generated.{left_texts, vowel_texts, right_texts, after_draws, entry_length, stroke_text, key_text}
use Rattle.text_rules.specs.Quoted.{escaped, quoted}

module _ (write : ℕ → List ℕ) where
  -- a text that is written as itself
  abbrev pub IsPlain : List ℕ → Type 0
  IsPlain text = flat_map write text ≡ text

  plain_append : (a b : List ℕ) → IsPlain a → IsPlain b → IsPlain (a ++ b)
  plain_append a b p q = flat_map-append write a b ∙ ap₂ (λ x y. x ++ y) p q

  decimal_plain : ((n : ℕ) → n < 10 → IsPlain ((48 + n) ∷ [])) → (n : ℕ) → n < 2 ^ 64 → IsPlain (decimal n)
  decimal_plain digit n h = decimal_by_steps (λ m text. IsPlain text) digit (λ m text le rest. plain_append text ((48 + m % 10) ∷ []) rest (digit (m % 10) (omega arith))) n h

  -- the test of it over a table
  abbrev are_plain : List (List ℕ) → Bool
  are_plain texts = list_all (λ text. bytes_eq (flat_map write text) text) texts

  table_plain : (texts : List (List ℕ)) (i : ℕ) → are_plain texts ≡ true → IsPlain (slice_index_or texts i [])
  table_plain [] i h = refl
  table_plain (text ∷ texts) zero h = (bytes_eq-Decides (flat_map write text) text).0 (and_parts (bytes_eq (flat_map write text) text) (are_plain texts) h).0
  table_plain (text ∷ texts) (suc i) h = table_plain texts i (and_parts (bytes_eq (flat_map write text) text) (are_plain texts) h).1

  join_plain : IsPlain (slash ∷ []) → (f : ℕ → List ℕ) (ks : List ℕ) → ((k : ℕ) → IsPlain (f k)) → IsPlain (join_with_byte slash (map f ks))
  join_plain one f [] h = refl
  join_plain one f (k ∷ []) h = h k
  join_plain one f (k ∷ l ∷ ks) h = plain_append (f k) (slash ∷ join_with_byte slash (map f (l ∷ ks))) (h k) (plain_append (slash ∷ []) (join_with_byte slash (map f (l ∷ ks))) one (join_plain one f (l ∷ ks) h))

  generated_plain : are_plain left_texts ≡ true → are_plain vowel_texts ≡ true → are_plain right_texts ≡ true → IsPlain (slash ∷ []) → (x : ℕ) → IsPlain (key_text x)
  generated_plain left vowels right one x =
      let stroke = λ (y : ℕ). plain_append _ _ (plain_append _ _ (table_plain left_texts (y % 16) left) (table_plain vowel_texts (y / 16 % 8) vowels)) (table_plain right_texts (y / 128) right) in
      join_plain one (λ k. stroke_text (after_draws k x % 2048)) (range_with_len 1 (entry_length x)) (λ k. stroke (after_draws k x % 2048))

-- ---- between quotes

pub key_plain : (x : ℕ) → IsPlain escaped (key_text x)
key_plain x = generated_plain escaped refl refl refl refl x

digit_plain : (n : ℕ) → n < 10 → IsPlain escaped ((48 + n) ∷ [])
digit_plain n h = grind arith

-- a member whose key and value need no escape
pub member_plain : (key : List ℕ) (n : ℕ) → IsPlain escaped key → n < 2 ^ 64 → 34 ∷ (key ++ 34 ∷ 58 ∷ 32 ∷ 34 ∷ 119 ∷ (decimal n ++ 34 ∷ [])) ≡ quoted key ++ codes ": " ++ quoted (codes "w" ++ decimal n)
member_plain key n p small =
    let value : List ℕ = 34 ∷ 119 ∷ (decimal n ++ 34 ∷ []) in
    ap (λ l. 34 ∷ l) (sym (append_assoc key (34 ∷ 58 ∷ 32 ∷ []) value) ∙ ap (λ l. l ++ value) (sym (append_assoc key (34 ∷ []) (58 ∷ 32 ∷ []))))
    ∙ (λ i. 34 ∷ (((sym p i ++ 34 ∷ []) ++ 58 ∷ 32 ∷ []) ++ 34 ∷ 119 ∷ (sym (decimal_plain escaped digit_plain n small) i ++ 34 ∷ [])))

-- ---- in JSON

pub key_unescaped : (x : ℕ) → IsPlain escape_byte (key_text x)
unfolding escape_byte
key_unescaped x = generated_plain escape_byte refl refl refl refl x

digit_unescaped : (n : ℕ) → n < 10 → IsPlain escape_byte ((48 + n) ∷ [])
unfolding escape_byte
digit_unescaped n h = grind arith

pub value_unescaped : (n : ℕ) → n < 2 ^ 64 → IsPlain escape_byte (codes "w" ++ decimal n)
unfolding escape_byte
value_unescaped n small = ap (λ l. 119 ∷ l) (decimal_plain escape_byte digit_unescaped n small)
