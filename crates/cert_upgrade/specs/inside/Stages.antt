-- How far upgrading a certificate has come.
--     AreFormsLeft bytes checks            the outcome is that of these checks, which are left
--     AreWritable given lines              these lines can be written, as far as a certificate of so many bytes goes
--     AreRowsRead bytes given lines ..     the lines down to the conflicts were read, and rows behind them
--     IsWholeRead bytes lines n            all lines were read, and these are those of the new certificate
use Rattle.std.specs.Prelude.{ℕ, ◌+◌, ◌*◌, ◌≤◌, ◌≡◌, List, [], ◌∷◌, ◌++◌, length, map, flat_map, Option, Some}
use Rattle.std.specs.List.{AllByRecursion}
use Rattle.longest_match.specs.Rows.{Row}
use Rattle.certificate.specs.declared.lines.CertLine.{CertLine}
use Rattle.certificate.specs.declared.lines.CertLine.TheVariants as of
use Rattle.certificate.specs.CertLines.{line_text}
use Rattle.certificate.specs.CertReading.{read_lines}
use Rattle.certificate.specs.Writers.{HasWord}
use Rattle.certificate_laws.specs.Checks.{Check, Lines, accepted, certificate_rows, conflicts_line, end_checks, outcome_of, readable_lines}
use Rattle.cert_check.specs.Reading.{IsReadTo}
use Rattle.cert_upgrade.specs.Forms.{row_forms, upgrade_limit, upgrade_outcome}
use Rattle.cert_upgrade.specs.Upgrades.{upgraded_lines}
use Rattle.cert_upgrade.specs.inside.Uppers.{new_upper}

-- the outcome is that of the checks that are left
abbrev pub AreFormsLeft : List ℕ → List Check → Type 0
AreFormsLeft bytes checks =
    upgrade_outcome bytes ≡ outcome_of (readable_lines upgrade_limit bytes) (read_lines bytes) checks

-- each row has a word, and the text is at most twice as long as what was read
pub record AreWritable (given : ℕ) (lines : List CertLine) : Type 0 where
  pub words : AllByRecursion HasWord lines
  pub size : length (flat_map line_text lines) ≤ 2 * given

-- the line of a row, as it is read
abbrev pub row_read : Row → Option CertLine
row_read r = Some (of.Row r)

-- behind the lines down to the conflicts, which announce n rows, rows were read, and `left` of them are left; `count`
-- lines were read, and of them these lines were made
pub record AreRowsRead (bytes : List ℕ) (given : ℕ) (lines : List CertLine) (n left count : ℕ) (ahead : Option (List ℕ))
    : Type 0 where
  pub rest : List ℕ
  pub is_ahead : ahead ≡ Some rest
  pub upper : Lines
  pub rows : List Row
  pub read : IsReadTo upgrade_limit given bytes ((upper ++ Some (of.Conflicts n) ∷ []) ++ map row_read rows) rest
  pub at : conflicts_line (read_lines bytes) ≡ length upper + 1
  pub long : 3 ≤ length upper
  pub none : certificate_rows upper ≡ []
  pub number : length rows + left ≡ n
  pub counted : count ≡ length upper + 1 + length rows
  pub made : lines ≡ new_upper upper ++ of.Conflicts n ∷ map (λ r. of.Row r) rows
  pub left_checks : AreFormsLeft bytes (row_forms (read_lines bytes) (length upper + 1 + length rows) left
      ++ end_checks (read_lines bytes) (length upper + 1 + n))

-- the form of the certificate is right, with n conflicts, and these are the lines of the new one
pub record IsWholeRead (bytes : List ℕ) (lines : List CertLine) (n : ℕ) : Type 0 where
  pub form : upgrade_outcome bytes ≡ accepted n
  pub made : lines ≡ upgraded_lines (read_lines bytes)
