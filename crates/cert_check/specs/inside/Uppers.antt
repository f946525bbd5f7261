-- What the program knows of the lines above the conflicts.
--     Represents u before                     what is known of the lines that were read
--     AnswersLine closure old new l failure   why a line fails, or else what is known then
--     IsUpperRead closure bytes ..            all lines down to the conflicts were read
use Rattle.std.specs.Prelude.{ℕ, ◌+◌, ◌<◌, ◌≤◌, ◌≡◌, List, [], ◌∷◌, ◌++◌, true, length, Option, Some, None, if◌then◌else◌}
use Rattle.steno_rules.specs.StateNumbers.{number_count}
use Rattle.state_numbering.specs.Causes.{most_states}
use Rattle.certificate.specs.declared.lines.CertLine.{CertLine}
use Rattle.certificate.specs.declared.lines.CertLine.TheVariants as of
use Rattle.certificate.specs.CertReading.{read_lines}
use Rattle.certificate.specs.Readers.{certificate_limit}
use Rattle.report.specs.declared.faults.Why.{Why}
use Rattle.report.specs.declared.faults.Why.TheVariants as why
use Rattle.certificate_laws.specs.Checks.{Lines, line_at, conflicts_line, upper_lines, listed_in, may_follow, announced}
use Rattle.certificate_laws.specs.Closures.{Closure}
use Rattle.certificate_laws.specs.Validity.{content_check, listed_on_lines, listing_checks, lower_checks}
use Rattle.cert_check.specs.declared.upper.Upper.{Upper}
use Rattle.cert_check.specs.inside.Left.{AreLeft}
use Rattle.cert_check.specs.inside.Places.{places_from, ends_listed}
use Rattle.cert_check.specs.Reading.{IsReadTo}

-- each line but the first three lists a state, and the last place isn't empty
pub record IsSound (entries : List (List ℕ)) (u : Upper) : Type 0 where
  pub limit : number_count entries ≤ most_states
  pub lines : u.lines ≤ length u.places.items + 3
  pub few : length u.places.items ≤ number_count entries
  pub last : ends_listed u.places.items ≡ true

-- the same where the last line isn't counted yet
pub record IsSoundNext (entries : List (List ℕ)) (u : Upper) : Type 0 where
  pub limit : number_count entries ≤ most_states
  pub lines : u.lines + 1 ≤ length u.places.items + 3
  pub few : length u.places.items ≤ number_count entries
  pub last : ends_listed u.places.items ≡ true

-- what the program knows of the lines that were read
pub record Represents (u : Upper) (before : Lines) : Type 0 where
  pub count : length before ≡ u.lines
  pub version : 0 < u.lines → line_at before 1 ≡ Some (of.Head u.version)
  pub states : places_from 0 u.places.items ≡ listed_on_lines 1 before

-- what it knows of them when it hasn't counted the last one yet
pub record RepresentsNext (u : Upper) (before : Lines) : Type 0 where
  pub count : length before ≡ u.lines + 1
  pub version : line_at before 1 ≡ Some (of.Head u.version)
  pub states : places_from 0 u.places.items ≡ listed_on_lines 1 before

-- why the line behind these fails, if it does
abbrev pub line_failure : Closure → Lines → CertLine → Option Why
line_failure closure before l =
    let content = content_check closure before (length before + 1) (Some l) in
    if may_follow before (Some l) then (if content.holds then None else Some content.reason) else Some why.Form

-- the answer to a line: why it fails, or else what is known then, but for the number of lines
abbrev pub AnswersLine : Closure → Upper → Upper → CertLine → Option Why → Type 0
AnswersLine closure old new l failure = (before : Lines) → Represents old before
    → (failure ≡ line_failure closure before l) × (failure ≡ None → RepresentsNext new (before ++ Some l ∷ []))

-- the same with the line counted
abbrev pub TakesLine : Closure → Upper → Upper → CertLine → Option Why → Type 0
TakesLine closure old new l failure = (before : Lines) → Represents old before
    → (failure ≡ line_failure closure before l) × (failure ≡ None → Represents new (before ++ Some l ∷ []))

-- the lines before the conflicts were read, and the conflicts line, which announces n rows; the checks of the listing and
-- those that follow are left
pub record IsUpperRead (closure : Closure) (bytes : List ℕ) (given : ℕ) (u : Upper) (n : ℕ) (ahead : Option (List ℕ))
    : Type 0 where
  pub rest : List ℕ
  pub is_ahead : ahead ≡ Some rest
  pub before : Lines
  pub represents : Represents u before
  pub read : IsReadTo certificate_limit given bytes (before ++ Some (of.Conflicts n) ∷ []) rest
  pub at : conflicts_line (read_lines bytes) ≡ length before + 1
  pub above : upper_lines (read_lines bytes) ≡ before
  pub tells : announced (line_at (read_lines bytes) (conflicts_line (read_lines bytes))) ≡ n
  pub left : AreLeft closure bytes (listing_checks closure closure.targets (length before + 1) before n
      ++ lower_checks closure (listed_in before) (read_lines bytes) (length before + 1))
