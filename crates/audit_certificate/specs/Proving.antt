-- What the file of a certificate proves, to whoever reads it.
--     certificate_runs lines                            the runs among the lines of a file
--     ProvesAudit entries flags table rows bytes     the bytes are a valid certificate of this audit
use Rattle.std.specs.Prelude.{ℕ, ◌≡◌, List, Bool, Option, Some, None, filter_map}
use Rattle.steno_rules.specs.Outlines.{flagged_entries}
use Rattle.longest_match.specs.Rows.{AreConflicts, Row}
use Rattle.certificate.specs.CertReading.{read_lines}
use Rattle.certificate.specs.CertTexts.{Run}
use Rattle.certificate.specs.declared.lines.CertLine.{CertLine}
use Rattle.certificate.specs.declared.lines.CertLine.TheVariants as of
use Rattle.certificate_laws.specs.Checks.{Lines, certificate_rows}
use Rattle.certificate_laws.specs.Closures.{closure_of}
use Rattle.certificate_laws.specs.Validity.{IsValid}
use Rattle.audit_certificate.specs.Runs.{AreLongestRuns}
use Rattle.audit_certificate.specs.OwnCertificates.{reached_states}

-- the run on a line, if it has one
abbrev pub run_of_line : Option CertLine → Option Run
run_of_line (Some (of.Run first last distance)) = Some (record { first = first; last = last; distance = distance })
run_of_line line = None

-- the runs among the lines of a file
abbrev pub certificate_runs : Lines → List Run
certificate_runs lines = filter_map run_of_line lines

-- the bytes are a valid certificate of the entries; its rows are these and exactly the conflicts, each in fewest strokes; and its
-- runs are longest and have the reached states with their distances
pub record ProvesAudit (entries : List (List ℕ)) (flags : List Bool) (table : List ℕ)
    (rows : List Row) (bytes : List ℕ) : Type 0 where
  pub valid : IsValid (closure_of entries flags) bytes
  pub rows_are : certificate_rows (read_lines bytes) ≡ rows
  pub exact : AreConflicts entries (flagged_entries entries flags)
      (certificate_rows (read_lines bytes))
  pub runs : AreLongestRuns (reached_states table) (certificate_runs (read_lines bytes))
