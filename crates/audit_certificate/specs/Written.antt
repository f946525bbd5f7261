-- What writing a certificate does to the files.
--     own_certificate_lines n table rows    the lines of an audit's certificate
--     lines_text lines                      the bytes of some lines
--     lines_within put lines                the first lines that fit, where so many bytes were put before them
--     fitting_text lines                    the bytes of the lines that fit
--     IsCutShort name text old new          all is as before, or a prefix of the text stands in the file
--     LeavesFile name lines fault old new   when a refusal may come, and what it leaves of the files
--     WritesFile name failed old new        what else the call does to the files
use Rattle.std.specs.Prelude.{ℕ, ◌+◌, ◌<◌, ◌≤◌, ◌≡◌, ◌⊎◌, List, [], ◌∷◌, Bool, true, length, take, flat_map, nat_le, Option, Some, None, if◌then◌else◌}
use Rattle.outside.specs.Faults.{Rose, Steady}
use Rattle.outside.specs.Files.{Both, FilesView, Held, Replaces}
use Rattle.outside.specs.declared.fault.Way.TheVariants.{Writing}
use Rattle.longest_match.specs.Rows.{Row}
use Rattle.certificate.specs.CertLines.{line_text}
use Rattle.certificate.specs.CertTexts.{certificate_lines}
use Rattle.certificate.specs.Readers.{certificate_limit}
use Rattle.certificate.specs.declared.faults.CertFault.{CertFault}
use Rattle.certificate.specs.declared.faults.CertFault.TheVariants as fault
use Rattle.certificate.specs.declared.lines.CertLine.{CertLine}
use Rattle.audit_certificate.specs.OwnCertificates.{reached_states}

-- the lines of the certificate of n entries, of settled words and of the rows
abbrev pub own_certificate_lines : ℕ → List ℕ → List Row → List CertLine
own_certificate_lines n table rows = certificate_lines n (length table) (reached_states table) rows

-- the bytes of some lines
abbrev pub lines_text : List CertLine → List ℕ
lines_text lines = flat_map line_text lines

-- the first lines that fit within the limit, where so many bytes were put before them
abbrev pub lines_within : ℕ → List CertLine → List CertLine
lines_within put [] = []
lines_within put (line ∷ lines) =
    let now = put + length (line_text line) in
    if nat_le now certificate_limit then line ∷ lines_within now lines else []

-- the bytes of the lines that fit: all of them, unless they pass the limit
abbrev pub fitting_text : List CertLine → List ℕ
fitting_text lines = lines_text (lines_within 0 lines)

-- all files are as they were, or a prefix of the text stands in the named file and every other file stays
abbrev pub IsCutShort : List ℕ → List ℕ → Option Held → Option Held → Type 0
IsCutShort name text old new =
    (new ≡ old) ⊎ ((n : ℕ) × (n ≤ length text) × Both (Replaces name (take n text)) old new)

-- the lines pass the limit, and those that fit stand whole in the named file
pub record IsTooLong (name : List ℕ) (lines : List CertLine) (old new : Option Held) : Type 0 where
  pub passes : certificate_limit < length (lines_text lines)
  pub holds : Both (Replaces name (fitting_text lines)) old new

-- why the lines weren't all written, and what stands in the named file
abbrev pub LeavesFile : List ℕ → List CertLine → CertFault → Option Held → Option Held → Type 0
LeavesFile name lines fault.TooLong old new = IsTooLong name lines old new
LeavesFile name lines fault.Failed old new = IsCutShort name (fitting_text lines) old new
LeavesFile name lines fault.Memory old new = IsCutShort name (fitting_text lines) old new
LeavesFile name lines (fault.Bad line) old new = ⊥

-- no file is being written afterwards, the name last opened stays, and a fault is on writing the named file
pub record WritesFile (name : List ℕ) (failed : Bool) (old new : FilesView) : Type 0 where
  pub writing : new.writing ≡ None
  pub opened : new.opened ≡ old.opened
  pub latest : new.latest ≡ (if failed then Some (name, Writing) else old.latest)
  pub later : old.faults ≤ new.faults
  pub rose : failed ≡ true → Rose old.faults new.faults
  pub steady : Steady failed old.faults new.faults
