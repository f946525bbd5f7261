-- How far a check has come.
--     AreLeft closure bytes checks      the outcome is that of these checks, which are left
--     FailsWith line reason checks      the first of these checks that doesn't hold tells this line and this reason
use Rattle.std.specs.Prelude.{ℕ, ◌≡◌, List, ◌∷◌, ◌++◌, false}
use Rattle.certificate.specs.CertReading.{read_lines}
use Rattle.certificate.specs.Readers.{certificate_limit}
use Rattle.report.specs.declared.faults.Why.{Why}
use Rattle.certificate_laws.specs.Checks.{Check, readable_lines, outcome_of}
use Rattle.certificate_laws.specs.Closures.{Closure}
use Rattle.certificate_laws.specs.Validity.{check_outcome}
use Rattle.certificate_laws.specs.inside.Holding.{AllHold}

-- the outcome is that of the checks that are left
abbrev pub AreLeft : Closure → List ℕ → List Check → Type 0
AreLeft closure bytes checks =
    check_outcome closure bytes ≡ outcome_of (readable_lines certificate_limit bytes) (read_lines bytes) checks

-- the first of these checks that doesn't hold tells this line and this reason
pub record FailsWith (line : ℕ) (reason : Why) (checks : List Check) : Type 0 where
  pub before : List Check
  pub check : Check
  pub after : List Check
  pub split : checks ≡ before ++ check ∷ after
  pub hold : AllHold before
  pub fails : check.holds ≡ false
  pub tells_line : check.line ≡ line
  pub tells_reason : check.reason ≡ reason
