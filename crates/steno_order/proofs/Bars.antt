-- A canonical text has a bar or a digit just where key 0 is pressed.
use Rattle.std.proofs.Common.{◌≡◌, ℕ, zero, suc, ◌+◌, ◌<◌, ◌≤◌, List, [], ◌∷◌, ◌++◌, map, length, refl, sym, ap, arith, Bool, true, false, cond, inl, inr, ◌∙◌}
use Rattle.std.specs.Prelude.{◌&&◌, ◌||◌, ◌==◌, nat_lt, not, if◌then◌else◌}
use Rattle.std.specs.List.{range_with_len, list_any}
use Rattle.std.specs.Char.{is_ascii_digit}
use Rattle.std.proofs.lemmas.List.Elements.{filter-append}
use Rattle.std.proofs.lemmas.List.Folds.{list_any-append}
use Rattle.std.proofs.lemmas.Bool.{or_cases, or_right, or_left, not-true}
use Rattle.steno_order.specs.Keys.{letter, has, has_bar, hyphen, bar}
use Rattle.steno_order.specs.Canonical.{keys_from, mark, bar_text, hyphen_text, canonical}
use Rattle.steno_order.proofs.Ranges.{tested}
use Rattle.steno_order.proofs.Presses.{false_or_true}

-- bars and digits
abbrev barring : ℕ → Bool
barring c = c == bar || is_ascii_digit c

any_map : (t : ℕ → Bool) (f : ℕ → ℕ) (xs : List ℕ) → list_any t (map f xs) ≡ list_any (λ x. t (f x)) xs
any_map t f [] = refl
any_map t f (x ∷ xs) = ap (λ b. t (f x) || b) (any_map t f xs)

plain_letter : (key : ℕ) → 1 ≤ key → key < 23 → not (barring (letter key)) ≡ true
plain_letter = tested (λ key. not (barring (letter key))) 1 22 refl

-- no letter of a key from 1 on is a bar or a digit
no_bars : (code a n : ℕ) → 1 ≤ a → a + n ≤ 23 → list_any (λ key. barring (letter key)) (keys_from code a n) ≡ false
no_bars code a zero pos top = refl
no_bars code a (suc n) pos top = by (has code a) (no_bars code (a + 1) n (omega arith) (omega arith))
  where
    by : (b : Bool) → list_any (λ key. barring (letter key)) (keys_from code (a + 1) n) ≡ false → list_any (λ key. barring (letter key)) (cond b (a ∷ keys_from code (a + 1) n) (keys_from code (a + 1) n)) ≡ false
    by true rest = rw (not-true (barring (letter a)) (plain_letter a pos (omega arith)), rest) refl
    by false rest = rest

weaker : (f : ℕ → ℕ) (xs : List ℕ) → list_any (λ x. is_ascii_digit (f x)) xs ≡ true → list_any (λ x. barring (f x)) xs ≡ true
weaker f [] e = e
weaker f (x ∷ xs) e = by (is_ascii_digit (f x)) refl e (weaker f xs)
  where
    by : (b : Bool) → is_ascii_digit (f x) ≡ b → (b || list_any (λ y. is_ascii_digit (f y)) xs) ≡ true → (list_any (λ y. is_ascii_digit (f y)) xs ≡ true → list_any (λ y. barring (f y)) xs ≡ true) → list_any (λ y. barring (f y)) (x ∷ xs) ≡ true
    by true is e rest = or_left (barring (f x)) (list_any (λ y. barring (f y)) xs) (rw is (or_right (f x == bar) true refl))
    by false is e rest = or_right (barring (f x)) (list_any (λ y. barring (f y)) xs) (rest e)

-- the keys of the left and those of the right
pub cut_22 : (code : ℕ) → keys_from code 1 22 ≡ keys_from code 1 12 ++ keys_from code 13 10
cut_22 code = filter-append (has code) (range_with_len 1 12) (range_with_len 13 10)

-- what the text has of bars and digits
text_bars : (first left middle right : List ℕ) → list_any barring (first ++ (left ++ (middle ++ right))) ≡ (list_any barring first || (list_any barring left || (list_any barring middle || list_any barring right)))
text_bars first left middle right =
    list_any-append barring first (left ++ (middle ++ right))
    ∙ ap (λ b. list_any barring first || b) (list_any-append barring left (middle ++ right) ∙ ap (λ b. list_any barring left || b) (list_any-append barring middle right))

no_hyphen_bars : (b : Bool) → list_any barring (if b then hyphen ∷ [] else []) ≡ false
no_hyphen_bars true = refl
no_hyphen_bars false = refl

four : (a b c d : Bool) → a ≡ false → b ≡ false → c ≡ false → d ≡ false → (a || (b || (c || d))) ≡ false
four a b c d ea eb ec ed = rw (ea, eb, ec, ed) refl

marks_plain : (code a n : ℕ) → 1 ≤ a → a + n ≤ 23 → has code 0 ≡ false → list_any barring (map (mark code) (keys_from code a n)) ≡ false
marks_plain code a n pos top none = any_map barring (mark code) (keys_from code a n) ∙ rw none (no_bars code a n pos top)

bar_plain : (code : ℕ) → has code 0 ≡ false → list_any barring (bar_text code) ≡ false
bar_plain code none = rw none refl

-- without key 0 nothing is a bar or a digit
plain_text : (code : ℕ) → has code 0 ≡ false → has_bar (canonical code) ≡ false
plain_text code none =
    text_bars (bar_text code) (map (mark code) (keys_from code 1 12)) (hyphen_text code) (map (mark code) (keys_from code 13 10))
    ∙ four (list_any barring (bar_text code)) (list_any barring (map (mark code) (keys_from code 1 12))) (list_any barring (hyphen_text code)) (list_any barring (map (mark code) (keys_from code 13 10)))
    (bar_plain code none) (marks_plain code 1 12 (omega arith) (omega arith) none) (no_hyphen_bars (nat_lt 0 (length (keys_from code 13 10)) && length (keys_from code 8 5) == 0)) (marks_plain code 13 10 (omega arith) (omega arith) none)

abbrev pub has_digit : ℕ → List ℕ → Bool
has_digit code keys = list_any (λ key. is_ascii_digit (mark code key)) keys

first_of_four : (a b c d : Bool) → a ≡ true → (a || (b || (c || d))) ≡ true
first_of_four a b c d e = rw e refl

second_of_four : (a b c d : Bool) → b ≡ true → (a || (b || (c || d))) ≡ true
second_of_four a b c d e = or_right a (b || (c || d)) (or_left b (c || d) e)

fourth_of_four : (a b c d : Bool) → d ≡ true → (a || (b || (c || d))) ≡ true
fourth_of_four a b c d e = or_right a (b || (c || d)) (or_right b (c || d) (or_right c d e))

marks_bar : (code : ℕ) (keys : List ℕ) → has_digit code keys ≡ true → list_any barring (map (mark code) keys) ≡ true
marks_bar code keys e = any_map barring (mark code) keys ∙ weaker (mark code) keys e

bar_first : (code : ℕ) → has code 0 ≡ true → has_digit code (keys_from code 1 22) ≡ false → list_any barring (bar_text code) ≡ true
bar_first code is none = by (has code 0) (has_digit code (keys_from code 1 22)) is none
  where
    by : (a d : Bool) → a ≡ true → d ≡ false → list_any barring (if a && not d then bar ∷ [] else []) ≡ true
    by a d ea ed = rw (ea, ed) refl

-- with key 0 a bar or a digit is written
barred_text : (code : ℕ) → has code 0 ≡ true → has_bar (canonical code) ≡ true
barred_text code is =
    text_bars (bar_text code) (map (mark code) (keys_from code 1 12)) (hyphen_text code) (map (mark code) (keys_from code 13 10))
    ∙ elim (false_or_true (has_digit code (keys_from code 1 22))) [
      | inl some ↦ (
          let split : (has_digit code (keys_from code 1 12) || has_digit code (keys_from code 13 10)) ≡ true = sym (ap (has_digit code) (cut_22 code) ∙ list_any-append (λ key. is_ascii_digit (mark code key)) (keys_from code 1 12) (keys_from code 13 10)) ∙ some in
          elim (or_cases (has_digit code (keys_from code 1 12)) (has_digit code (keys_from code 13 10)) split) [
            | inl l ↦ second_of_four (list_any barring (bar_text code)) (list_any barring (map (mark code) (keys_from code 1 12))) (list_any barring (hyphen_text code)) (list_any barring (map (mark code) (keys_from code 13 10))) (marks_bar code (keys_from code 1 12) l)
            | inr r ↦ fourth_of_four (list_any barring (bar_text code)) (list_any barring (map (mark code) (keys_from code 1 12))) (list_any barring (hyphen_text code)) (list_any barring (map (mark code) (keys_from code 13 10))) (marks_bar code (keys_from code 13 10) r)
          ])
      | inr none ↦ first_of_four (list_any barring (bar_text code)) (list_any barring (map (mark code) (keys_from code 1 12))) (list_any barring (hyphen_text code)) (list_any barring (map (mark code) (keys_from code 13 10))) (bar_first code is none)
    ]

pub bar_is : (code : ℕ) → has_bar (canonical code) ≡ has code 0
bar_is code = elim (false_or_true (has code 0)) [ inl is ↦ barred_text code is ∙ sym is | inr none ↦ plain_text code none ∙ sym none ]
