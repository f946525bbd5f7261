-- Which lines fit within the limit.
use Rattle.std.proofs.Common.{◌≡◌, ℕ, ◌+◌, ◌<◌, ◌≤◌, List, [], ◌∷◌, ◌++◌, length, refl, ap, arith, Bool, true, false, cond, ◌∙◌}
use Rattle.std.specs.Prelude.{nat_le}
use Rattle.std.proofs.lemmas.Bool.{le-leb, lt-leb}
use Rattle.std.proofs.lemmas.Grind.{flat_map-append}
use Rattle.std.proofs.lemmas.List.{length-append}
use Rattle.certificate.specs.CertLines.{line_text}
use Rattle.certificate.specs.Readers.{certificate_limit}
use Rattle.certificate.specs.declared.lines.CertLine.{CertLine}
use Rattle.audit_certificate.specs.Written.{fitting_text, lines_text, lines_within}

-- The text of lines and then others.
pub lines_text-append : (xs ys : List CertLine) → lines_text (xs ++ ys) ≡ lines_text xs ++ lines_text ys
lines_text-append xs ys = flat_map-append line_text xs ys

-- Its length.
pub lines_text-length : (xs ys : List CertLine) → length (lines_text (xs ++ ys)) ≡ length (lines_text xs) + length (lines_text ys)
lines_text-length xs ys = ap length (lines_text-append xs ys) ∙ length-append (lines_text xs) (lines_text ys)

first_length : (x : CertLine) (xs : List CertLine) → length (lines_text (x ∷ xs)) ≡ length (line_text x) + length (lines_text xs)
first_length x xs = length-append (line_text x) (lines_text xs)

-- A line that fits is one of them.
pub fits_step : (put : ℕ) (x : CertLine) (xs : List CertLine) → put + length (line_text x) ≤ certificate_limit → lines_within put (x ∷ xs) ≡ x ∷ lines_within (put + length (line_text x)) xs
fits_step put x xs le = ap (λ b. cond b (x ∷ lines_within (put + length (line_text x)) xs) []) (le-leb (put + length (line_text x)) certificate_limit le)

-- A line that doesn't fit is left out, and all behind it.
pub passes_step : (put : ℕ) (x : CertLine) (xs : List CertLine) → certificate_limit < put + length (line_text x) → lines_within put (x ∷ xs) ≡ []
passes_step put x xs over = ap (λ b. cond b (x ∷ lines_within (put + length (line_text x)) xs) []) (lt-leb (put + length (line_text x)) certificate_limit over)

none_left : (put : ℕ) (ys : List CertLine) → certificate_limit < put → lines_within put ys ≡ []
none_left put [] over = refl
none_left put (y ∷ ys) over = passes_step put y ys (omega (arith, over))

-- Behind lines that fit are those that fit there,
pub within_then : (put : ℕ) (xs ys : List CertLine) → put + length (lines_text xs) ≤ certificate_limit → lines_within put (xs ++ ys) ≡ xs ++ lines_within (put + length (lines_text xs)) ys
within_then put [] ys le = let e : put ≡ put + 0 = omega arith in ap (λ n. lines_within n ys) e
within_then put (x ∷ xs) ys le =
    let long = first_length x xs in
    let here : put + length (line_text x) ≤ certificate_limit = omega (arith, long, le) in
    let rest : put + length (line_text x) + length (lines_text xs) ≤ certificate_limit = omega (arith, long, le) in
    let same : put + length (line_text x) + length (lines_text xs) ≡ put + length (lines_text (x ∷ xs)) = omega (arith, long) in
    fits_step put x (xs ++ ys) here ∙ ap (λ ls. x ∷ ls) (within_then (put + length (line_text x)) xs ys rest ∙ ap (λ n. xs ++ lines_within n ys) same)

-- and behind lines that don't fit none does.
pub within_more : (put : ℕ) (xs ys : List CertLine) → certificate_limit < put + length (lines_text xs) → lines_within put (xs ++ ys) ≡ lines_within put xs
within_more put [] ys over = none_left put ys (omega (arith, over))
within_more put (x ∷ xs) ys over =
    let long = first_length x xs in
    by (nat_le (put + length (line_text x)) certificate_limit) (within_more (put + length (line_text x)) xs ys (omega (arith, long, over)))
  where
    by : (b : Bool) → lines_within (put + length (line_text x)) (xs ++ ys) ≡ lines_within (put + length (line_text x)) xs →
        cond b (x ∷ lines_within (put + length (line_text x)) (xs ++ ys)) [] ≡ cond b (x ∷ lines_within (put + length (line_text x)) xs) []
    by true rest = ap (λ ls. x ∷ ls) rest
    by false rest = refl

-- Lines that fit are all of those that do.
pub within_all : (put : ℕ) (xs : List CertLine) → put + length (lines_text xs) ≤ certificate_limit → lines_within put xs ≡ xs
within_all put [] le = refl
within_all put (x ∷ xs) le =
    let long = first_length x xs in
    let here : put + length (line_text x) ≤ certificate_limit = omega (arith, long, le) in
    let rest : put + length (line_text x) + length (lines_text xs) ≤ certificate_limit = omega (arith, long, le) in
    fits_step put x xs here ∙ ap (λ ls. x ∷ ls) (within_all (put + length (line_text x)) xs rest)

-- Where the text doesn't pass the limit, it is the text of the lines that fit.
pub fitting_all : (xs : List CertLine) → length (lines_text xs) ≤ certificate_limit → fitting_text xs ≡ lines_text xs
fitting_all xs le = ap lines_text (within_all 0 xs (omega (arith, le)))

-- Of more lines, at least as many fit.
pub within_longer : (put : ℕ) (xs ys : List CertLine) → (more : List CertLine) × (lines_within put (xs ++ ys) ≡ lines_within put xs ++ more)
within_longer put [] ys = (lines_within put ys, refl)
within_longer put (x ∷ xs) ys = by (nat_le (put + length (line_text x)) certificate_limit) (within_longer (put + length (line_text x)) xs ys)
  where
    by : (b : Bool) → ((more : List CertLine) × (lines_within (put + length (line_text x)) (xs ++ ys) ≡ lines_within (put + length (line_text x)) xs ++ more)) →
        (more : List CertLine) × (cond b (x ∷ lines_within (put + length (line_text x)) (xs ++ ys)) [] ≡ cond b (x ∷ lines_within (put + length (line_text x)) xs) [] ++ more)
    by true rest = (rest.0, ap (λ ls. x ∷ ls) rest.1)
    by false rest = ([], refl)
