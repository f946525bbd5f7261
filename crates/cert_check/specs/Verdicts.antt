-- What a check answers.
--     closure_at stack                  the closure of a stack's entries and words
--     IsAccepted stack bytes n          the file is a valid certificate, and its n rows are the conflicts
--     IsCheckCause stack bytes fault    why a file isn't accepted
--     is_check_failed result            the answer tells of a fault of the files
use Rattle.std.specs.Prelude.{ℕ, ◌≡◌, List, Bool, true, false, length, Result, Ok, Err, ⊤}
use Rattle.steno_rules.specs.Outlines.{flagged_entries}
use Rattle.longest_match.specs.Rows.{AreConflicts}
use Rattle.dict_stack.specs.Stacks.{StackView}
use Rattle.state_numbering.specs.Numberings.{NumberingView}
use Rattle.certificate.specs.CertReading.{read_lines}
use Rattle.certificate_laws.specs.Checks.{CheckOutcome, accepted, rejected, too_long, certificate_rows}
use Rattle.certificate_laws.specs.Closures.{Closure, closure_of}
use Rattle.certificate_laws.specs.Validity.{IsValid, check_outcome}
use Rattle.cert_check.specs.declared.faults.CheckFault.{CheckFault}
use Rattle.cert_check.specs.declared.faults.CheckFault.TheVariants as fault

-- the closure of a stack's entries and words
abbrev pub closure_at : StackView → Closure
closure_at stack = closure_of stack.outlines stack.words

-- the numbering of a stack's states
abbrev pub numbering_at : StackView → NumberingView
numbering_at stack = record { entries = stack.outlines; words = flagged_entries stack.outlines stack.words }

-- the file is a valid certificate; its rows are the conflicts, and there are n
pub record IsAccepted (stack : StackView) (bytes : List ℕ) (n : ℕ) : Type 0 where
  pub outcome : check_outcome (closure_at stack) bytes ≡ accepted n
  pub valid : IsValid (closure_at stack) bytes
  pub conflicts : AreConflicts stack.outlines (flagged_entries stack.outlines stack.words)
      (certificate_rows (read_lines bytes))
  pub number : n ≡ length (certificate_rows (read_lines bytes))

-- what a fault says of what comes of the checks
abbrev pub IsFaultOf : CheckOutcome → CheckFault → Type 0
IsFaultOf outcome (fault.Rejected line why) = outcome ≡ rejected line why
IsFaultOf outcome fault.TooLong = outcome ≡ too_long
IsFaultOf outcome fault.Failed = ⊤
IsFaultOf outcome fault.Memory = ⊤

-- a file that is rejected is no valid certificate
abbrev pub IsInvalidIfRejected : Closure → List ℕ → CheckFault → Type 0
IsInvalidIfRejected closure bytes (fault.Rejected line why) = IsValid closure bytes → ⊥
IsInvalidIfRejected closure bytes fault.TooLong = ⊤
IsInvalidIfRejected closure bytes fault.Failed = ⊤
IsInvalidIfRejected closure bytes fault.Memory = ⊤

-- why a file isn't accepted: the first check that fails, and then it isn't valid; or the limit is passed before
pub record IsCheckCause (stack : StackView) (bytes : List ℕ) (fault : CheckFault) : Type 0 where
  pub outcome : IsFaultOf (check_outcome (closure_at stack) bytes) fault
  pub invalid : IsInvalidIfRejected (closure_at stack) bytes fault

-- the fault is one of the files
abbrev pub is_failing : CheckFault → Bool
is_failing (fault.Rejected line why) = false
is_failing fault.Failed = true
is_failing fault.TooLong = false
is_failing fault.Memory = false

-- the answer tells of a fault of the files
abbrev pub is_check_failed : {T : Type 0} → Result T CheckFault → Bool
is_check_failed (Ok x) = false
is_check_failed (Err x) = is_failing x
