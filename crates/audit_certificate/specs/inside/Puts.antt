-- Lines that are added to the file that is being written.
--     PutsLines lines result put now old new     what adding lines answers and does; so many bytes were put before, and then
--     run_lines listed, row_lines rows           the lines of the runs and of the rows
use Rattle.std.specs.Prelude.{ℕ, ◌+◌, ◌<◌, ◌≤◌, ◌≡◌, List, Bool, false, length, map, MatchResult, Result}
use Rattle.outside.specs.Files.{FilesView}
use Rattle.longest_match.specs.Rows.{Row}
use Rattle.certificate.specs.CertFaults.{is_cert_failed}
use Rattle.certificate.specs.CertTexts.{Listed, runs_of}
use Rattle.certificate.specs.Readers.{certificate_limit}
use Rattle.certificate.specs.Writers.{AddsBytes, AddsPrefix, OnlyPuts}
use Rattle.certificate.specs.declared.faults.CertFault.{CertFault}
use Rattle.certificate.specs.declared.faults.CertFault.TheVariants as fault
use Rattle.certificate.specs.declared.lines.CertLine.{CertLine}
use Rattle.certificate.specs.declared.lines.CertLine.TheVariants as of
use Rattle.audit_certificate.specs.Written.{lines_text, lines_within}

-- all of the lines were added
pub record PutsAll (lines : List CertLine) (put now : ℕ) (old new : FilesView) : Type 0 where
  pub added : AddsBytes (lines_text lines) old new
  pub count : now ≡ put + length (lines_text lines)
  pub within : now ≤ certificate_limit
  pub puts : OnlyPuts false old new

-- the lines pass the limit, and those that fit were added whole
pub record PutsWithin (lines : List CertLine) (put : ℕ) (old new : FilesView) : Type 0 where
  pub passes : certificate_limit < put + length (lines_text lines)
  pub added : AddsBytes (lines_text (lines_within put lines)) old new

-- what a fault leaves of the lines
abbrev pub LeavesLines : List CertLine → CertFault → ℕ → FilesView → FilesView → Type 0
LeavesLines lines fault.TooLong put old new = PutsWithin lines put old new
LeavesLines lines fault.Failed put old new = AddsPrefix (lines_text (lines_within put lines)) old new
LeavesLines lines fault.Memory put old new = AddsPrefix (lines_text (lines_within put lines)) old new
LeavesLines lines (fault.Bad line) put old new = ⊥

-- not all of the lines were added, by this fault
pub record PutsPart (lines : List CertLine) (fault : CertFault) (failed : Bool) (put : ℕ)
    (old new : FilesView) : Type 0 where
  pub leaves : LeavesLines lines fault put old new
  pub puts : OnlyPuts failed old new

-- what adding lines answers and does
abbrev pub PutsLines : {T : Type 0} → List CertLine → Result T CertFault → ℕ → ℕ → FilesView → FilesView → Type 0
PutsLines lines result put now old new =
    MatchResult result (λ _. PutsAll lines put now old new)
    (λ fault. PutsPart lines fault (is_cert_failed result) put old new)

-- the lines of the runs of these states
abbrev pub run_lines : List Listed → List CertLine
run_lines listed = map (λ r. of.Run r.first r.last r.distance) (runs_of listed)

-- the lines of the rows
abbrev pub row_lines : List Row → List CertLine
row_lines rows = map (λ r. of.Row r) rows
