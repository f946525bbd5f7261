-- Which certificates can be upgraded: those whose form is right. These checks need no entries and no words.
--     upgrade_limit              the most bytes of a certificate that is upgraded
--     form_checks lines          the checks of the form, in their order
--     upgrade_outcome bytes      the number of conflicts, or the first rejection, of a reader with this limit
use Rattle.std.specs.Prelude.{ℕ, ◌+◌, ◌^◌, List, ◌++◌, Bool, true, nat_lt, nat_le, map, Option, Some}
use Rattle.std.specs.List.{range_with_len}
use Rattle.graph_rules.specs.Graphs.{most_numbers}
use Rattle.certificate.specs.declared.lines.CertLine.{CertLine}
use Rattle.certificate.specs.declared.lines.CertLine.TheVariants as of
use Rattle.certificate.specs.CertReading.{read_lines}
use Rattle.report.specs.declared.faults.Why.TheVariants as why
use Rattle.certificate_laws.specs.Checks.{Lines, Check, ContentCheck, at_line, line_at, conflicts_line, listed_by, listed_in, may_be_listed, upper_checks, announced, is_row_line, end_checks, CheckOutcome, readable_lines, outcome_of}

-- the most bytes of a certificate that is upgraded
abbrev pub upgrade_limit : ℕ
upgrade_limit = 2 ^ 30

-- how many entries a line announces
abbrev pub announced_entries : Option CertLine → ℕ
announced_entries (Some (of.Entries n)) = n
announced_entries line = 0

-- how many numbers of states a line announces
abbrev pub announced_states : Option CertLine → ℕ
announced_states (Some (of.States n)) = n
announced_states line = 0

-- the third of these lines announces more numbers of states
abbrev pub is_announced : Lines → ℕ → Bool
is_announced before state = nat_lt state (announced_states (line_at before 3))

-- a line says nothing that is right for no stack: there aren't too many numbers of states, and those that are listed
-- rise and are announced
abbrev pub form_check : ContentCheck
form_check before n (Some (of.Entries k)) = at_line n why.Entries true
form_check before n (Some (of.States k)) = at_line n why.States (nat_le k most_numbers)
form_check before n line = at_line n why.Number (may_be_listed (is_announced before) (listed_in before) (listed_by line))

-- the n lines behind the line `at` are rows
abbrev pub row_forms : Lines → ℕ → ℕ → List Check
row_forms lines at n = map (λ line. at_line line why.Form (is_row_line (line_at lines line))) (range_with_len (at + 1) n)

-- behind the line `at` there are n rows, and then the end
abbrev pub lower_forms : Lines → ℕ → ℕ → List Check
lower_forms lines at n = row_forms lines at n ++ end_checks lines (at + n)

-- all checks of the form
abbrev pub form_checks : Lines → List Check
form_checks lines =
    let at = conflicts_line lines in
    upper_checks form_check lines ++ lower_forms lines at (announced (line_at lines at))

-- what comes of checking the form of a file, of which so many bytes are read at most
abbrev pub upgrade_outcome : List ℕ → CheckOutcome
upgrade_outcome bytes =
    outcome_of (readable_lines upgrade_limit bytes) (read_lines bytes) (form_checks (read_lines bytes))
