-- Values of digits: those of a prefix are no greater.
use Rattle.std.proofs.Common.{ℕ, ◌+◌, ◌-◌, ◌*◌, ◌≤◌, List, [], ◌∷◌, fold, take, drop, arith, sym, subst}
use Rattle.std.proofs.lemmas.List.{take-append-drop}
use Rattle.std.proofs.lemmas.List.Sums.{fold-append}
use Rattle.text_rules.specs.Decimals.{digits_value}

-- the value with one digit more
abbrev pub with_digit : ℕ → ℕ → ℕ
with_digit value digit = 10 * value + (digit - 48)

le-fold : (a : ℕ) (xs : List ℕ) → a ≤ fold with_digit a xs
le-fold a [] = omega arith
le-fold a (x ∷ xs) = let step = le-fold (with_digit a x) xs in omega arith

-- the value of a beginning is no greater than that of the whole
pub le-prefix : (xs : List ℕ) (i : ℕ) → digits_value (take i xs) ≤ digits_value xs
le-prefix xs i =
    subst (λ ys. digits_value (take i xs) ≤ digits_value ys) (take-append-drop i xs)
    (subst (λ v. digits_value (take i xs) ≤ v) (sym (fold-append with_digit 0 (take i xs) (drop i xs))) (le-fold (digits_value (take i xs)) (drop i xs)))
