-- What of a file was read.
--     WhereTold o P                         where this is known, P holds of it
--     IsReadTo given bytes before ahead     these lines were read, in so many bytes, and these bytes are ahead
--     BeginsWithout room n bytes fault      why no line was given, behind n lines
use Rattle.std.specs.Prelude.{ℕ, ◌+◌, ◌-◌, ◌≤◌, ◌≡◌, ◌⊎◌, List, [], ◌++◌, ◌==◌, length, take, count_by, Option, Some, ⊤}
use Rattle.certificate.specs.CertReading.{read_lines}
use Rattle.certificate.specs.Readers.{BeginsBad, BeginsLong}
use Rattle.report.specs.declared.faults.Why.TheVariants as why
use Rattle.certificate_laws.specs.Checks.{Lines}
use Rattle.cert_check.specs.declared.faults.CheckFault.{CheckFault}
use Rattle.cert_check.specs.declared.faults.CheckFault.TheVariants as fault

-- where this is known, P holds of it
abbrev pub WhereTold : Option (List ℕ) → (List ℕ → Type 0) → Type 0
WhereTold o P = (x : List ℕ) → o ≡ Some x → P x

-- of a file within a limit these lines were read, in so many bytes, and these bytes are ahead
pub record IsReadTo (limit given : ℕ) (bytes : List ℕ) (before : Lines) (ahead : List ℕ) : Type 0 where
  pub split : read_lines bytes ≡ before ++ read_lines ahead
  pub total : given + length ahead ≡ length bytes
  pub within : given ≤ limit
  pub feeds : count_by (λ c. c == 10) (take limit bytes)
      ≡ length before + count_by (λ c. c == 10) (take (limit - given) ahead)

-- what a fault says of bytes that don't begin with a line, behind n lines
abbrev pub BeginsWithout : ℕ → ℕ → List ℕ → CheckFault → Type 0
BeginsWithout most n bytes (fault.Rejected line reason) =
    (line ≡ n + 1) × (reason ≡ why.Form) × ((bytes ≡ []) ⊎ BeginsBad most bytes)
BeginsWithout most n bytes fault.TooLong = BeginsLong most bytes
BeginsWithout most n bytes fault.Failed = ⊤
BeginsWithout most n bytes fault.Memory = ⊤

-- a fault that says nothing of the file's bytes
abbrev pub IsUntold : CheckFault → Type 0
IsUntold (fault.Rejected line reason) = ⊥
IsUntold fault.TooLong = ⊥
IsUntold fault.Failed = ⊤
IsUntold fault.Memory = ⊤
