-- What the check of a certificate returns.
use Rattle.std.proofs.Common.{ℕ, ◌≡◌, ◌∙◌, List, ap, sym, subst, refl, Option, Some, None, IfSome, Result, Err}
use Rattle.outside.specs.Files.{FilesView, Held}
use Rattle.certificate.specs.Readers.{OpensFile}
use Rattle.dict_stack.specs.Stacks.{StackView}
use Rattle.report.specs.Refusals.{certificate_failed}
use Rattle.certificate_laws.specs.Checks.{CheckOutcome, accepted, rejected, too_long}
use Rattle.certificate_laws.specs.Validity.{check_outcome}
use Rattle.cert_check.specs.Verdicts.{IsAccepted, IsCheckCause, closure_at, is_failing}
use Rattle.cert_check.specs.declared.faults.CheckFault.{CheckFault}
use Rattle.cert_check.specs.declared.faults.CheckFault.TheVariants as fault
use Rattle.audit_top.specs.Checked.{IsCheck, check_result}
use Rattle.audit_top.specs.Runs.{OutputView}
use Rattle.audit_top.specs.inside.Answers.{Goes, reads_only}
use Rattle.audit_top.specs.inside.Stops.{refusal_of_check}
use Rattle.audit_top.specs.declared.refusals.Refusal.{Refusal}
use Rattle.audit_top.specs.declared.refusals.Refusal.TheVariants as of
use Rattle.audit_top.specs.declared.status.Status.{Status}
use Rattle.audit_top.proofs.OtherFiles.{reading-failed, reading-goes}
use Rattle.audit_top.proofs.Stacks.{at, some_file}
use Rattle.audit_top.proofs.Stops.{begins-nothing}

-- what came of the checks is what is expected
pub outcome-is : (held : Option Held) (name : List ℕ) (stack : StackView) (outcome : CheckOutcome) → IfSome held (λ held. check_outcome (closure_at stack) (held name) ≡ outcome)
    → IsCheck (some_file held (Some name)) stack (check_result outcome)
unfolding some_file
outcome-is None name stack outcome is = (outcome, refl)
outcome-is (Some held) name stack outcome is = ap check_result (sym is)

-- the certificate wasn't accepted
by_fault : (name : List ℕ) (stack : StackView) (old new : FilesView) (out : OutputView) (fault : CheckFault) → IfSome old.held (λ held. IsCheckCause stack (held name) fault) → OpensFile name (is_failing fault) old new
    → Goes certificate_failed None (reads_only name) (λ file. IsCheck file stack) (at old out) (at new out) (Err (refusal_of_check fault))
by_fault name stack old new out (fault.Rejected line why) cause opens =
    reading-goes certificate_failed None name (λ file. IsCheck file stack) old new out out (Err (of.Rejected line why)) opens
    (outcome-is old.held name stack (rejected line why) (outcome old.held cause), refl)
  where
    outcome : (held : Option Held) → IfSome held (λ held. IsCheckCause stack (held name) (fault.Rejected line why)) → IfSome held (λ held. check_outcome (closure_at stack) (held name) ≡ rejected line why)
    outcome None cause = tt
    outcome (Some held) cause = cause.outcome
by_fault name stack old new out fault.TooLong cause opens =
    reading-goes certificate_failed None name (λ file. IsCheck file stack) old new out out (Err of.CertificateLong) opens
    (outcome-is old.held name stack too_long (outcome old.held cause), refl)
  where
    outcome : (held : Option Held) → IfSome held (λ held. IsCheckCause stack (held name) fault.TooLong) → IfSome held (λ held. check_outcome (closure_at stack) (held name) ≡ too_long)
    outcome None cause = tt
    outcome (Some held) cause = cause.outcome
by_fault name stack old new out fault.Failed cause opens =
    reading-failed certificate_failed name (λ file. IsCheck file stack) old new out of.Certificate opens refl (λ e. cc)
by_fault name stack old new out fault.Memory cause opens =
    reading-goes certificate_failed None name (λ file. IsCheck file stack) old new out out (Err of.Memory) opens
    (begins-nothing (IsCheck (some_file old.held (Some name)) stack) out.text, refl)

pub check-stopped : (name : List ℕ) (stack : StackView) (old new : FilesView) (out : OutputView) (fault : CheckFault) (answer : Result Status Refusal) (refusal : Refusal)
    → IfSome old.held (λ held. IsCheckCause stack (held name) fault) → OpensFile name (is_failing fault) old new → answer ≡ Err refusal → refusal ≡ refusal_of_check fault
    → Goes certificate_failed None (reads_only name) (λ file. IsCheck file stack) (at old out) (at new out) answer
check-stopped name stack old new out fault answer refusal cause opens is by =
    subst (Goes certificate_failed None (reads_only name) (λ file. IsCheck file stack) (at old out) (at new out)) (sym (is ∙ ap Err by)) (by_fault name stack old new out fault cause opens)

-- it was accepted
pub accepted-is : (held : Option Held) (name : List ℕ) (stack : StackView) (n : ℕ) → IfSome held (λ held. IsAccepted stack (held name) n) → IsCheck (some_file held (Some name)) stack (check_result (accepted n))
accepted-is held name stack n is = outcome-is held name stack (accepted n) (by held is)
  where
    by : (held : Option Held) → IfSome held (λ held. IsAccepted stack (held name) n) → IfSome held (λ held. check_outcome (closure_at stack) (held name) ≡ accepted n)
    by None is = tt
    by (Some held) is = is.outcome
