-- The tests of sets of keys are those of the canonical text.
use Rattle.std.proofs.Common.{◌≡◌, ℕ, zero, suc, ◌+◌, ◌<◌, ◌≤◌, List, [], ◌∷◌, length, refl, sym, ap, arith, Bool, true, false, cond, true≢false, ◌∙◌}
use Rattle.std.specs.Prelude.{◌&&◌, ◌||◌, ◌==◌, nat_lt, not, filter, if◌then◌else◌}
use Rattle.std.specs.List.{list_any, range_with_len}
use Rattle.std.specs.Char.{is_ascii_digit}
use Rattle.std.proofs.lemmas.Bool.{lt-ltb, ne_eqb}
use Rattle.steno_order.specs.Keys.{has, numbered, letter}
use Rattle.steno_order.specs.Canonical.{keys_from, mark, needs_bar, needs_hyphen}
use Rattle.steno_order.specs.inside.Steps.{has_one}
use Rattle.steno_order.proofs.Ranges.{tested}

any_filter : (p q : ℕ → Bool) (xs : List ℕ) → list_any p (filter q xs) ≡ list_any (λ x. q x && p x) xs
any_filter p q [] = refl
any_filter p q (x ∷ xs) = by (q x) (any_filter p q xs)
  where
    by : (b : Bool) → list_any p (filter q xs) ≡ list_any (λ y. q y && p y) xs → list_any p (cond b (x ∷ filter q xs) (filter q xs)) ≡ ((b && p x) || list_any (λ y. q y && p y) xs)
    by true rest = ap (λ t. p x || t) rest
    by false rest = rest

some_kept : (q : ℕ → Bool) (xs : List ℕ) → nat_lt 0 (length (filter q xs)) ≡ list_any q xs
some_kept q [] = refl
some_kept q (x ∷ xs) = by (q x) (some_kept q xs)
  where
    by : (b : Bool) → nat_lt 0 (length (filter q xs)) ≡ list_any q xs → nat_lt 0 (length (cond b (x ∷ filter q xs) (filter q xs))) ≡ (b || list_any q xs)
    by true rest = lt-ltb 0 (length (x ∷ filter q xs)) (omega arith)
    by false rest = rest

none_kept : (q : ℕ → Bool) (xs : List ℕ) → (length (filter q xs) == 0) ≡ not (list_any q xs)
none_kept q [] = refl
none_kept q (x ∷ xs) = by (q x) (none_kept q xs)
  where
    by : (b : Bool) → (length (filter q xs) == 0) ≡ not (list_any q xs) → (length (cond b (x ∷ filter q xs) (filter q xs)) == 0) ≡ not (b || list_any q xs)
    by true rest = ne_eqb (suc (length (filter q xs))) 0 (λ e. absurd (omega arith))
    by false rest = rest

any_same : (t u : ℕ → Bool) (a n : ℕ) → ((k : ℕ) → a ≤ k → k < a + n → t k ≡ u k) → list_any t (range_with_len a n) ≡ list_any u (range_with_len a n)
any_same t u a zero same = refl
any_same t u a (suc n) same = rw (same a (omega arith) (omega arith), any_same t u (a + 1) n (λ k ge lt. same k (omega arith) (omega arith))) refl

-- the keys with a digit
abbrev with_digit : ℕ
with_digit = 697174

agree : (x y : Bool) → (if x then y else not y) ≡ true → x ≡ y
agree true y e = sym e
agree false true e = absurd (true≢false (sym e))
agree false false e = refl

digit_keys : (key : ℕ) → 1 ≤ key → key < 23 → is_ascii_digit (numbered key) ≡ has with_digit key
digit_keys key pos lt = agree (is_ascii_digit (numbered key)) (has with_digit key) (tested (λ k. if is_ascii_digit (numbered k) then has with_digit k else not (has with_digit k)) 1 22 refl key pos lt)

and_swap : (x y : Bool) → (x && y) ≡ (y && x)
and_swap true true = refl
and_swap true false = refl
and_swap false true = refl
and_swap false false = refl

some_digit : (code : ℕ) → has code 0 ≡ true → list_any (λ key. is_ascii_digit (mark code key)) (keys_from code 1 22) ≡ has_one code with_digit
unfolding has_one
some_digit code barred =
    any_filter (λ key. is_ascii_digit (mark code key)) (has code) (range_with_len 1 22)
    ∙ any_same (λ key. has code key && is_ascii_digit (mark code key)) (λ key. has with_digit key && has code key) 1 22 same
  where
    same : (key : ℕ) → 1 ≤ key → key < 1 + 22 → (has code key && is_ascii_digit (mark code key)) ≡ (has with_digit key && has code key)
    same key pos lt = ap (λ b. has code key && is_ascii_digit (if b then numbered key else letter key)) barred ∙ (ap (λ b. has code key && b) (digit_keys key pos lt) ∙ and_swap (has code key) (has with_digit key))

true_and : (b x : Bool) → b ≡ true → x ≡ (b && x)
true_and true x e = refl
true_and false x e = absurd (true≢false (sym e))

false_and : (b x : Bool) → b ≡ false → false ≡ (b && x)
false_and true x e = absurd (true≢false e)
false_and false x e = refl

abbrev no_digit : ℕ → Bool
no_digit code = not (list_any (λ key. is_ascii_digit (mark code key)) (keys_from code 1 22))

-- where the number bar is pressed, and where it isn't
pub bar_needed : (code : ℕ) → has code 0 ≡ true → not (has_one code 697174) ≡ needs_bar code
bar_needed code barred = ap not (sym (some_digit code barred)) ∙ true_and (has code 0) (no_digit code) barred

pub bar_not_needed : (code : ℕ) → has code 0 ≡ false → false ≡ needs_bar code
bar_not_needed code none = false_and (has code 0) (no_digit code) none

-- a key of the right side, and one of the middle
right_keys : (code : ℕ) → has_one code 8380416 ≡ nat_lt 0 (length (keys_from code 13 10))
unfolding has_one
right_keys code = sym (some_kept (has code) (range_with_len 13 10))

middle_keys : (code : ℕ) → not (has_one code 7936) ≡ (length (keys_from code 8 5) == 0)
unfolding has_one
middle_keys code = sym (none_kept (has code) (range_with_len 8 5))

pub hyphen_needed : (code : ℕ) → has_one code 8380416 ≡ true → not (has_one code 7936) ≡ needs_hyphen code
hyphen_needed code some = middle_keys code ∙ true_and (nat_lt 0 (length (keys_from code 13 10))) (length (keys_from code 8 5) == 0) (sym (right_keys code) ∙ some)

pub hyphen_not_needed : (code : ℕ) → has_one code 8380416 ≡ false → false ≡ needs_hyphen code
hyphen_not_needed code none = false_and (nat_lt 0 (length (keys_from code 13 10))) (length (keys_from code 8 5) == 0) (sym (right_keys code) ∙ none)
