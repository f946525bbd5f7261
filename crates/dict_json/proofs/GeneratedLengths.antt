-- A generated dictionary has few bytes.
use Rattle.std.proofs.Common.{ℕ, zero, suc, ◌≡◌, ◌<◌, ◌≤◌, ◌+◌, ◌*◌, ◌%◌, ◌/◌, ◌^◌, List, [], ◌∷◌, ◌++◌, Bool, true, false, cond, length, map, filter, flat_map, refl, sym, ap, arith, codes, decimal, nat_le, slice_index_or}
use Rattle.std.specs.List.{list_all, join_with_byte, range_with_len}
use Rattle.std.proofs.lemmas.Bool.{and_parts, leb-true}
use Rattle.std.proofs.lemmas.List.{length-append}
use Rattle.std.proofs.lemmas.List.FromFn.{length-range_with_len}
use Rattle.std.proofs.lemmas.Fmt.{length-decimal-le}
use Rattle.steno_order.specs.Keys.{slash}
use Rattle.dict_json.specs.Generated.{left_texts, vowel_texts, right_texts, after_draws, entry_length, stroke_text, first_draw, key_text, key_of, is_new, member_text, most_generated, generated_text}
use Rattle.dict_json.proofs.PlainTexts.{key_plain, member_plain}

-- each text of a table has at most 4 bytes
abbrev are_short : List (List ℕ) → Bool
are_short texts = list_all (λ text. nat_le (length text) 4) texts

table_short : (texts : List (List ℕ)) (i : ℕ) → are_short texts ≡ true → length (slice_index_or texts i []) ≤ 4
table_short [] i h = omega arith
table_short (text ∷ texts) zero h = leb-true (length text) 4 (and_parts (nat_le (length text) 4) (are_short texts) h).0
table_short (text ∷ texts) (suc i) h = table_short texts i (and_parts (nat_le (length text) 4) (are_short texts) h).1

three : (a b c : List ℕ) → length a ≤ 4 → length b ≤ 4 → length c ≤ 4 → length (a ++ b ++ c) ≤ 12
three a b c p q r = omega (arith, p, q, r, length-append (a ++ b) c, length-append a b)

stroke_short : (y : ℕ) → length (stroke_text y) ≤ 12
stroke_short y =
    let left = slice_index_or left_texts (y % 16) [] in
    let vowels = slice_index_or vowel_texts (y / 16 % 8) [] in
    let right = slice_index_or right_texts (y / 128) [] in
    three left vowels right (table_short left_texts (y % 16) refl) (table_short vowel_texts (y / 16 % 8) refl) (table_short right_texts (y / 128) refl)

join_short : (f : ℕ → List ℕ) (ks : List ℕ) → ((k : ℕ) → length (f k) ≤ 12) → length (join_with_byte slash (map f ks)) ≤ 13 * length ks
join_short f [] h = omega arith
join_short f (k ∷ []) h = omega (arith, h k)
join_short f (k ∷ l ∷ ks) h = omega (arith, h k, join_short f (l ∷ ks) h, length-append (f k) (slash ∷ join_with_byte slash (map f (l ∷ ks))))

key_short : (x : ℕ) → length (key_text x) ≤ 39
key_short x =
    let ks = range_with_len 1 (entry_length x) in
    omega (arith, join_short (λ k. stroke_text (after_draws k x % 2048)) ks (λ k. stroke_short (after_draws k x % 2048)), length-range_with_len 1 (entry_length x))

member_short : (start i : ℕ) → i < 10 ^ 6 → length (member_text start i) ≤ 66
member_short start i small =
    let k = key_of start i in
    let rest : List ℕ = 34 ∷ 58 ∷ 32 ∷ 34 ∷ 119 ∷ (decimal i ++ 34 ∷ []) in
    let whole = ap length (sym (member_plain k i (key_plain (first_draw start i)) (omega (arith, small)))) in
    omega (arith, whole, length-append k rest, length-append (decimal i) (34 ∷ []), key_short (first_draw start i), length-decimal-le 6 i (omega arith) small (omega (arith, small)))

more_short : (start a n : ℕ) → a + n ≤ most_generated → length (flat_map (λ i. codes ",\n" ++ member_text start i) (filter (is_new start) (range_with_len a n))) ≤ 68 * n
more_short start a zero le = omega arith
more_short start a (suc n) le = by (is_new start a) (more_short start (a + 1) n (omega (arith, le)))
  where
    others : List ℕ
    others = filter (is_new start) (range_with_len (a + 1) n)

    by : (b : Bool) → length (flat_map (λ i. codes ",\n" ++ member_text start i) others) ≤ 68 * n → length (flat_map (λ i. codes ",\n" ++ member_text start i) (cond b (a ∷ others) others)) ≤ 68 * suc n
    by true rest = omega (arith, rest, member_short start a (omega (arith, le)), length-append (codes ",\n" ++ member_text start a) (flat_map (λ i. codes ",\n" ++ member_text start i) others))
    by false rest = omega (arith, rest)

text_short : (start count : ℕ) → count ≤ most_generated → length (generated_text start count) < 2 ^ 32
text_short start zero le = omega arith
text_short start (suc n) le =
    let more = flat_map (λ i. codes ",\n" ++ member_text start i) (filter (is_new start) (range_with_len 1 n)) in
    let members = member_text start 0 ++ more in
    omega (arith, le, member_short start 0 (omega arith), more_short start 1 n (omega (arith, le)), length-append (member_text start 0) more, length-append (codes "{\n" ++ members) (codes "\n}\n"))

pub generated_few : (start count : ℕ) (bytes : List ℕ) → count ≤ most_generated → bytes ≡ generated_text start count → length bytes < 2 ^ 32
generated_few start count bytes le is = omega (arith, text_short start count le, ap length is)
