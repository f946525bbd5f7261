-- What is expected of the check of a certificate.
--     IsCheck bytes stack result     by the bytes of the certificate, where they are known
use Rattle.std.specs.Prelude.{ℕ, ◌≡◌, List, [], ◌∷◌, Option, Some, None, codes, decimal}
use Rattle.text_rules.specs.Lines.{line}
use Rattle.dict_stack.specs.Stacks.{StackView}
use Rattle.report.specs.Refusals.{certificate_too_long}
use Rattle.report.specs.Refusals as of_line
use Rattle.certificate_laws.specs.Checks.{CheckOutcome, accepted, rejected, too_long}
use Rattle.certificate_laws.specs.Validity.{check_outcome}
use Rattle.cert_check.specs.Verdicts.{closure_at}
use Rattle.audit_top.specs.Outcomes.{Expected, prints, refused}
use Rattle.audit_top.specs.declared.status.Status.TheVariants.{Clean}

-- the line that says how many conflicts a certificate has
abbrev pub accepted_line : ℕ → List ℕ
accepted_line n = line (codes "accepted" ∷ codes "conflicts" ∷ decimal n ∷ [])

-- what is written of an outcome
abbrev pub check_result : CheckOutcome → Expected
check_result (accepted n) = prints Clean (accepted_line n)
check_result (rejected at why) = refused (of_line.rejected at why)
check_result too_long = refused certificate_too_long

-- the outcome is that of the certificate's bytes; where the files don't tell them it is some outcome
abbrev pub IsCheck : Option (List ℕ) → StackView → Expected → Type 0
IsCheck (Some bytes) stack result =
    result ≡ check_result (check_outcome (closure_at stack) bytes)
IsCheck None stack result = (outcome : CheckOutcome) × (result ≡ check_result outcome)
