-- What comes of checks where only so many lines can be read.
use Rattle.std.proofs.Common.{◌≡◌, ℕ, List, [], ◌∷◌, refl, sym, ap, Bool, true, false, not, cond, true≢false, Option, Some, None, ◌∙◌}
use Rattle.std.specs.Prelude.{◌&&◌, is_some}
use Rattle.report.specs.declared.faults.Why.{Why}
use Rattle.certificate.specs.CertReading.{read_lines}
use Rattle.certificate.specs.Readers.{certificate_limit}
use Rattle.certificate_laws.specs.Checks.{Check, accepted, rejected, too_long, announced, line_at, conflicts_line, readable_lines, can_be_made, first_failure, outcome_by, outcome_of}
use Rattle.certificate_laws.specs.Closures.{Closure}
use Rattle.certificate_laws.specs.Validity.{IsValid, all_checks, check_outcome}
use Rattle.certificate_laws.specs.inside.Holding.{AllHold}
use Rattle.certificate_laws.proofs.HoldLemmas.{accepted_holds}

-- where none is the first that isn't passed all hold
all_passed : (most : Option ℕ) (checks : List Check) → first_failure most checks ≡ None → first_failure None checks ≡ None
all_passed most [] e = refl
all_passed most (c ∷ cs) e = by c.holds (can_be_made most c) refl (all_passed most cs) e
  where
    by : (h r : Bool) → c.holds ≡ h → (first_failure most cs ≡ None → first_failure None cs ≡ None) → cond (not (h && r)) (Some c) (first_failure most cs) ≡ None → cond (not (c.holds && true)) (Some c) (first_failure None cs) ≡ None
    by true true is rec e' = rw is (rec e')
    by true false is rec e' = absurd (true≢false (ap is_some e'))
    by false r is rec e' = absurd (true≢false (ap is_some e'))

-- What is accepted within a limit is accepted without one.
pub accepted_without : (most : Option ℕ) (k n : ℕ) (checks : List Check) → outcome_by most k (first_failure most checks) ≡ accepted n → outcome_by None k (first_failure None checks) ≡ accepted n
accepted_without most k n checks e = by (first_failure most checks) refl e
  where
    test : (c : Check) (b : Bool) → cond b (rejected c.line c.reason) too_long ≡ accepted n → outcome_by None k (first_failure None checks) ≡ accepted n
    test c true e' = absurd (true≢false cc)
    test c false e' = absurd (true≢false cc)

    by : (o : Option Check) → first_failure most checks ≡ o → outcome_by most k o ≡ accepted n → outcome_by None k (first_failure None checks) ≡ accepted n
    by None is e' = ap (outcome_by None k) (all_passed most checks is) ∙ e'
    by (Some c) is e' = test c (can_be_made most c) e'

-- Checks that all hold aren't rejected.
pub holding_stands : (most : Option ℕ) (k line : ℕ) (why : Why) (checks : List Check) → AllHold checks → outcome_by most k (first_failure most checks) ≡ rejected line why → ⊥
holding_stands most k line why [] h e = true≢false cc
holding_stands most k line why (c ∷ cs) h e = by c.holds (can_be_made most c) refl h.0 (holding_stands most k line why cs h.1) e
  where
    by : (x r : Bool) → can_be_made most c ≡ r → x ≡ true → (outcome_by most k (first_failure most cs) ≡ rejected line why → ⊥) → outcome_by most k (cond (not (x && r)) (Some c) (first_failure most cs)) ≡ rejected line why → ⊥
    by true true is x rec e' = rec e'
    by true false is x rec e' = let far : too_long ≡ rejected line why = ap (λ b. cond b (rejected c.line c.reason) too_long) (sym is) ∙ e' in true≢false cc
    by false r is x rec e' = true≢false (sym x)

-- What is accepted is valid, with the same number.
pub valid_at : (closure : Closure) (bytes : List ℕ) (n : ℕ) → check_outcome closure bytes ≡ accepted n → outcome_of None (read_lines bytes) (all_checks closure (read_lines bytes)) ≡ accepted n
valid_at closure bytes n e =
    accepted_without (readable_lines certificate_limit bytes) (announced (line_at (read_lines bytes) (conflicts_line (read_lines bytes)))) n (all_checks closure (read_lines bytes)) e

pub accepted_valid : (closure : Closure) (bytes : List ℕ) (n : ℕ) → check_outcome closure bytes ≡ accepted n → IsValid closure bytes
accepted_valid closure bytes n e = (n, valid_at closure bytes n e)

-- What is rejected isn't valid.
pub rejected_invalid : (closure : Closure) (bytes : List ℕ) (line : ℕ) (why : Why) → check_outcome closure bytes ≡ rejected line why → IsValid closure bytes → ⊥
rejected_invalid closure bytes line why e valid =
    let k = announced (line_at (read_lines bytes) (conflicts_line (read_lines bytes))) in
    let all = accepted_holds k valid.0 (all_checks closure (read_lines bytes)) valid.1 in
    holding_stands (readable_lines certificate_limit bytes) k line why (all_checks closure (read_lines bytes)) all.0 e
