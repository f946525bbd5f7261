-- The line of a conflict's numbers.
use Rattle.std.proofs.Common.{◌≡◌, ℕ, suc, ◌<◌, ◌≤◌, ◌^◌, List, [], ◌∷◌, length, refl, sym, ap, subst, arith, true, ◌∙◌}
use Rattle.std.specs.Prelude.{◌&&◌, nat_lt, Some, option_and_then, slice_index, codes}
use Rattle.std.specs.List.{list_all, slice_range}
use Rattle.std.specs.Str.{bytes_eq}
use Rattle.std.proofs.lemmas.Bool.{lt-ltb, and_parts}
use Rattle.outside.proofs.Known.{slice_range-rest}
use Rattle.longest_match.specs.Rows.{Row}
use Rattle.certificate.specs.CertLines.{fits, is_u32}
use Rattle.certificate.specs.CertReading.{if_fits, named}
use Rattle.certificate.specs.declared.lines.CertLine.TheVariants as of

-- numbers of 32 bits have room
pub all_fit : (ns : List ℕ) → ((i : ℕ) → slice_index ns i < 2 ^ 32) → list_all is_u32 ns ≡ true
all_fit [] fit = refl
all_fit (n ∷ ns) fit = rw (lt-ltb n (2 ^ 32) (fit 0), all_fit ns (λ i. fit (suc i))) refl

-- a conflict's numbers have room in their fields
pub row_fits : (r : Row) → list_all is_u32 (r.entry ∷ r.place ∷ r.strokes ∷ []) ≡ true → r.place < 256 → list_all is_u32 r.words ≡ true → 0 < length r.words → fits (of.Row r) ≡ true
row_fits r three small words some =
    let first = and_parts (is_u32 r.entry) (is_u32 r.place && (is_u32 r.strokes && true)) three in
    let others = and_parts (is_u32 r.place) (is_u32 r.strokes && true) first.1 in
    let last = and_parts (is_u32 r.strokes) true others.1 in
    rw (first.0, lt-ltb r.place 256 small, last.0, lt-ltb 0 (length r.words) some, words) refl

-- the row of a conflict with a place that has room
pub row_line : (name numbers words : List ℕ) (place : ℕ) (row : Row) → 4 ≤ length numbers → ((i : ℕ) → slice_index numbers i < 2 ^ 32)
    → bytes_eq name (codes "r") ≡ true → place < 256 → place ≡ slice_index numbers 1 → words ≡ slice_range numbers 3 (length numbers)
    → row ≡ record { entry = slice_index numbers 0; place = place; strokes = slice_index numbers 2; words = words }
    → Some (of.Row row) ≡ option_and_then if_fits (named name numbers)
row_line name [] words place row some fit is small at words_are row_is = absurd (omega arith)
row_line name (e ∷ []) words place row some fit is small at words_are row_is = absurd (omega arith)
row_line name (e ∷ j ∷ []) words place row some fit is small at words_are row_is = absurd (omega arith)
row_line name (e ∷ j ∷ n ∷ []) words place row some fit is small at words_are row_is = absurd (omega arith)
row_line name (e ∷ j ∷ n ∷ w ∷ ws) words place row some fit is small at words_are row_is =
    ap (λ r. Some (of.Row r)) (row_is ∙ ap (λ p. record { entry = e; place = p; strokes = n; words = words }) at
    ∙ ap (λ ys. record { entry = e; place = j; strokes = n; words = ys }) (words_are ∙ slice_range-rest (e ∷ j ∷ n ∷ w ∷ ws) 3))
    ∙ sym (let word : nat_lt 0 (length (w ∷ ws)) ≡ true = lt-ltb 0 (length (w ∷ ws)) (omega arith) in rw (is, word, lt-ltb e (2 ^ 32) (fit 0), lt-ltb j 256 (subst (λ p. p < 256) at small), lt-ltb n (2 ^ 32) (fit 2), lt-ltb w (2 ^ 32) (fit 3), all_fit ws (λ i. fit (suc (suc (suc (suc i)))))) refl)
