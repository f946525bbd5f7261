-- What becomes of a certificate that is upgraded.
--     upgraded_text bytes                     the bytes of the new certificate
--     IsUpgraded old new n                    the new certificate is the old one in version 2 with longest runs
--     IsUpgradeCause bytes fault              why a certificate isn't upgraded
--     WritesUpgrade source target old new     the new certificate of one file is what another file has then
--     IsPartWritten source target old new     no file changed, or that file has a prefix of it
--     UpgradesFile source target b old new    which files are opened, and which may fail
use Rattle.std.specs.Prelude.{ℕ, ◌≡◌, ◌≤◌, ◌⊎◌, ◌↔◌, List, Bool, true, false, length, map, flat_map, take, Option, Some, ⊤}
use Rattle.graph_rules.specs.Graphs.{most_numbers}
use Rattle.steno_rules.specs.Outlines.{AreEntries}
use Rattle.steno_rules.specs.StateNumbers.{number_count}
use Rattle.outside.specs.Faults.{Steady}
use Rattle.outside.specs.Files.{Both, FaultAt, FilesView, Held, IsLastOpened, LeavesFiles, Replaces}
use Rattle.outside.specs.declared.fault.Way.TheVariants.{Reading, Writing}
use Rattle.certificate.specs.declared.lines.CertLine.{CertLine}
use Rattle.certificate.specs.CertLines.{line_text}
use Rattle.certificate.specs.CertReading.{read_lines}
use Rattle.certificate.specs.CertTexts.{certificate_lines, runs_of}
use Rattle.certificate_laws.specs.Checks.{Lines, accepted, certificate_rows, line_at, listed_in, upper_lines}
use Rattle.certificate_laws.specs.Closures.{closure_of}
use Rattle.certificate_laws.specs.Validity.{IsValid}
use Rattle.audit_certificate.specs.Runs.{AreLongestRuns}
use Rattle.cert_check.specs.Verdicts.{IsFaultOf}
use Rattle.cert_check.specs.declared.faults.CheckFault.{CheckFault}
use Rattle.cert_check.specs.declared.faults.CheckFault.TheVariants as fault
use Rattle.cert_upgrade.specs.Forms.{announced_entries, announced_states, upgrade_outcome}

-- ---- the new certificate

-- the lines of the new certificate: of version 2, with the same entries, numbers of states, listed states and rows
abbrev pub upgraded_lines : Lines → List CertLine
upgraded_lines lines =
    certificate_lines (announced_entries (line_at lines 2)) (announced_states (line_at lines 3))
    (listed_in (upper_lines lines)) (certificate_rows lines)

-- the bytes of the new certificate
abbrev pub upgraded_text : List ℕ → List ℕ
upgraded_text bytes = flat_map line_text (upgraded_lines (read_lines bytes))

-- the form of the old certificate is right, with n conflicts; the new one has these lines, and its runs are longest;
-- and for every stack it is valid exactly where the old one is
pub record IsUpgraded (old new : List ℕ) (n : ℕ) : Type 0 where
  pub form : upgrade_outcome old ≡ accepted n
  pub rows : n ≡ length (certificate_rows (read_lines old))
  pub lines : read_lines new ≡ map Some (upgraded_lines (read_lines old))
  pub longest : AreLongestRuns (listed_in (upper_lines (read_lines old)))
      (runs_of (listed_in (upper_lines (read_lines old))))
  pub same : (entries : List (List ℕ)) (flags : List Bool) → AreEntries entries
      → IsValid (closure_of entries flags) new ↔ IsValid (closure_of entries flags) old

-- ---- refusals

-- the certificate is valid for no stack that isn't over the limits
abbrev pub IsNeverValid : List ℕ → Type 0
IsNeverValid bytes = (entries : List (List ℕ)) (flags : List Bool) → AreEntries entries
    → number_count entries ≤ most_numbers → IsValid (closure_of entries flags) bytes → ⊥

-- a certificate that is rejected is valid for no stack
abbrev pub IsNeverValidIfRejected : List ℕ → CheckFault → Type 0
IsNeverValidIfRejected bytes (fault.Rejected line why) = IsNeverValid bytes
IsNeverValidIfRejected bytes fault.TooLong = ⊤
IsNeverValidIfRejected bytes fault.Failed = ⊤
IsNeverValidIfRejected bytes fault.Memory = ⊤

-- why a certificate isn't upgraded: the first check of its form that fails, and then it is valid for no stack; or the
-- limit is passed before
pub record IsUpgradeCause (bytes : List ℕ) (fault : CheckFault) : Type 0 where
  pub outcome : IsFaultOf (upgrade_outcome bytes) fault
  pub invalid : IsNeverValidIfRejected bytes fault

-- the old file is refused for what it holds
abbrev pub is_refusing : CheckFault → Bool
is_refusing (fault.Rejected line why) = true
is_refusing fault.TooLong = true
is_refusing fault.Failed = false
is_refusing fault.Memory = false

-- ---- the files

-- the target has then what becomes of the source's bytes, and every other file stays
abbrev pub WritesUpgrade : List ℕ → List ℕ → Option Held → Option Held → Type 0
WritesUpgrade source target old new = Both (λ old new. Replaces target (upgraded_text (old source)) old new) old new

-- the source's form is right, the target has n bytes of what becomes of the source's, and every other file stays
pub record IsPrefixWritten (source target : List ℕ) (n : ℕ) (old new : Held) : Type 0 where
  pub conflicts : ℕ
  pub form : upgrade_outcome (old source) ≡ accepted conflicts
  pub replaces : Replaces target (take n (upgraded_text (old source))) old new

-- all files are as they were, or the target has a prefix of what becomes of the source's bytes
abbrev pub IsPartWritten : List ℕ → List ℕ → Option Held → Option Held → Type 0
IsPartWritten source target old new =
    (new ≡ old) ⊎ ((n : ℕ) × Both (IsPrefixWritten source target n) old new)

-- reading the source failed, and no file has changed; or writing the target failed
abbrev pub FailsOnFile : List ℕ → List ℕ → FilesView → FilesView → Type 0
FailsOnFile source target old new =
    (FaultAt source Reading old new × LeavesFiles old new) ⊎ FaultAt target Writing old new

-- the source may be the name last opened then; a fault is on reading the source or on writing the target
pub record UpgradesFile (source target : List ℕ) (failed : Bool) (old new : FilesView) : Type 0 where
  pub opened : IsLastOpened source old new
  pub later : old.faults ≤ new.faults
  pub fault : failed ≡ true → FailsOnFile source target old new
  pub latest : failed ≡ false → new.latest ≡ old.latest
  pub steady : Steady failed old.faults new.faults
