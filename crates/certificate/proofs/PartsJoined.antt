-- The parts of a text behind a space, and the numbers of parts one after another.
use Rattle.std.proofs.Common.{◌≡◌, ℕ, ◌-◌, ◌^◌, ◌<◌, List, [], ◌∷◌, ◌++◌, length, refl, sym, ap, arith, Bool, true, false, true≢false, cond, ◌∙◌, append_assoc}
use Rattle.std.specs.Prelude.{◌||◌, ◌==◌, Option, Some, None, option_map, option_and_then, codes}
use Rattle.std.specs.List.{onto_first}
use Rattle.std.proofs.lemmas.List.{length-append}
use Rattle.std.proofs.lemmas.Fmt.{length-decimal-le}
use Rattle.text_rules.specs.Decimals.{decimal_value}
use Rattle.text_rules.specs.Lines.{has_byte, parts_between}
use Rattle.text_rules.proofs.Numbers.{number-decimal}
use Rattle.text_rules.proofs.Splits.{next_part, some_part}
use Rattle.certificate.specs.CertReading.{numbers_of, if_fits, named}
use Rattle.certificate.specs.inside.Reads.{row_with}

onto_first-append : (d : ℕ) (ps qs : List (List ℕ)) → (ps ≡ [] → ⊥) → onto_first d (ps ++ qs) ≡ onto_first d ps ++ qs
onto_first-append d [] qs some = absurd (some refl)
onto_first-append d (p ∷ ps) qs some = refl

-- the parts before a byte, and those behind it
pub parts-append : (c : ℕ) (xs ys : List ℕ) → parts_between c (xs ++ c ∷ ys) ≡ parts_between c xs ++ parts_between c ys
parts-append c [] ys = next_part c [] ys refl
parts-append c (x ∷ xs) ys = by (x == c) (parts-append c xs ys)
  where
    by : (b : Bool) → parts_between c (xs ++ c ∷ ys) ≡ parts_between c xs ++ parts_between c ys
        → cond b ([] ∷ parts_between c (xs ++ c ∷ ys)) (onto_first x (parts_between c (xs ++ c ∷ ys))) ≡ cond b ([] ∷ parts_between c xs) (onto_first x (parts_between c xs)) ++ parts_between c ys
    by true rest = ap (λ ps. [] ∷ ps) rest
    by false rest = ap (onto_first x) rest ∙ onto_first-append x (parts_between c xs) (parts_between c ys) (some_part c xs)

-- where a text begins without this byte, so does its first part
first_longer : (c : ℕ) (xs ys : List ℕ) → has_byte c xs ≡ false → (p : List ℕ) × (ps : List (List ℕ)) × (parts_between c (xs ++ ys) ≡ (xs ++ p) ∷ ps)
first_longer c [] ys plain = by (parts_between c ys) (some_part c ys)
  where
    by : (ps : List (List ℕ)) → (ps ≡ [] → ⊥) → (p : List ℕ) × (qs : List (List ℕ)) × (ps ≡ p ∷ qs)
    by [] some = absurd (some refl)
    by (p ∷ ps) some = (p, ps, refl)
first_longer c (x ∷ xs) ys plain = by (x == c) plain (first_longer c xs ys)
  where
    by : (b : Bool) → (b || has_byte c xs) ≡ false → (has_byte c xs ≡ false → (p : List ℕ) × (ps : List (List ℕ)) × (parts_between c (xs ++ ys) ≡ (xs ++ p) ∷ ps))
        → (p : List ℕ) × (ps : List (List ℕ)) × (cond b ([] ∷ parts_between c (xs ++ ys)) (onto_first x (parts_between c (xs ++ ys))) ≡ (x ∷ xs ++ p) ∷ ps)
    by true e rec = absurd (true≢false e)
    by false e rec = let r = rec e in (r.0, r.1, ap (onto_first x) r.2)

-- the numbers of parts, and of those behind them
numbers-append : (ps qs : List (List ℕ)) → numbers_of (ps ++ qs) ≡ option_and_then (λ ns. option_map (λ ms. ns ++ ms) (numbers_of qs)) (numbers_of ps)
numbers-append [] qs = nothing (numbers_of qs)
  where
    nothing : (o : Option (List ℕ)) → o ≡ option_map (λ ms. ms) o
    nothing None = refl
    nothing (Some ms) = refl
numbers-append (p ∷ ps) qs =
    ap (λ o. option_and_then (λ n. option_map (λ ns. n ∷ ns) o) (decimal_value (2 ^ 32 - 1) p)) (numbers-append ps qs)
    ∙ by (decimal_value (2 ^ 32 - 1) p) (numbers_of ps) (numbers_of qs)
  where
    by : (first : Option ℕ) (others more : Option (List ℕ)) →
        option_and_then (λ n. option_map (λ ns. n ∷ ns) (option_and_then (λ ns. option_map (λ ms. ns ++ ms) more) others)) first
        ≡ option_and_then (λ ns. option_map (λ ms. ns ++ ms) more) (option_and_then (λ n. option_map (λ ns. n ∷ ns) others) first)
    by None others more = refl
    by (Some n) None more = refl
    by (Some n) (Some ns) None = refl
    by (Some n) (Some ns) (Some ms) = refl

-- numbers that were read are no longer ahead
pub row_more : (numbers more : List ℕ) (ps qs : List (List ℕ)) → option_map (λ ns. numbers ++ ns) (numbers_of ps) ≡ Some more → row_with numbers (ps ++ qs) ≡ row_with more qs
row_more numbers more ps qs is =
    ap (λ o. option_and_then if_fits (option_and_then (λ ns. named (codes "r") (numbers ++ ns)) o)) (numbers-append ps qs)
    ∙ by (numbers_of ps) (numbers_of qs) is
  where
    by : (first others : Option (List ℕ)) → option_map (λ ns. numbers ++ ns) first ≡ Some more →
        option_and_then if_fits (option_and_then (λ ns. named (codes "r") (numbers ++ ns)) (option_and_then (λ ns. option_map (λ ms. ns ++ ms) others) first))
        ≡ option_and_then if_fits (option_and_then (λ ns. named (codes "r") (more ++ ns)) others)
    by None others e = absurd (true≢false cc)
    by (Some ns) None e = refl
    by (Some ns) (Some ms) e =
        let same : numbers ++ ns ≡ more = cc in
        ap (λ xs. option_and_then if_fits (named (codes "r") xs)) (sym (append_assoc numbers ns ms) ∙ ap (λ xs. xs ++ ms) same)

-- parts that aren't numbers make no row
pub row_none : (numbers : List ℕ) (ps qs : List (List ℕ)) → numbers_of ps ≡ None → row_with numbers (ps ++ qs) ≡ None
row_none numbers ps qs is = rw (numbers-append ps qs, is) refl

-- a long part isn't a number
long_number : (text : List ℕ) → 10 < length text → decimal_value (2 ^ 32 - 1) text ≡ None
long_number text long = by (decimal_value (2 ^ 32 - 1) text) refl
  where
    by : (o : Option ℕ) → decimal_value (2 ^ 32 - 1) text ≡ o → o ≡ None
    by None e = refl
    by (Some n) e =
        let is = number-decimal (2 ^ 32 - 1) n text (omega arith) e in
        let short = length-decimal-le 10 n (omega arith) (let most = is.1 in omega arith) (let most = is.1 in omega arith) in
        absurd (let len = ap length is.0 in omega arith)

-- a part that is too long for a number makes no row
pub row_long : (numbers first rest : List ℕ) → has_byte 32 first ≡ false → 10 < length first → row_with numbers (parts_between 32 (first ++ rest)) ≡ None
row_long numbers first rest plain long =
    let cut = first_longer 32 first rest plain in
    let none = long_number (first ++ cut.0) (let len = length-append first cut.0 in omega arith) in
    ap (row_with numbers) cut.2 ∙ (rw none refl)
