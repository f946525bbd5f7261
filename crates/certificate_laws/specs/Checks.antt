-- The checks that are made of a list of lines, in their order. The first that fails gives the line and the reason.
-- A line of the file that is the text of no line is None. Lines are counted from 1.
--     upper_checks content lines       the checks of the lines down to the conflicts, where `content` says what of a line is checked
--     end_checks lines at              the checks behind the last row, which is on the line `at`
--     outcome_of most lines checks     what comes of these checks, where so many lines can be read
use Rattle.std.specs.Prelude.{ℕ, zero, suc, ◌+◌, ◌-◌, List, [], ◌∷◌, Bool, true, false, not, ◌&&◌, ◌||◌, ◌==◌, nat_lt, nat_le, length, map, count_by, flat_map, take, find, filter_map, slice_get, if◌then◌else◌, Option, Some, None, option_and_then}
use Rattle.std.specs.List.{list_all, range_with_len, position_or_len}
use Rattle.longest_match.specs.Rows.{Row}
use Rattle.certificate.specs.declared.lines.CertLine.{CertLine}
use Rattle.certificate.specs.declared.lines.CertLine.TheVariants as of
use Rattle.certificate.specs.CertTexts.{Listed}
use Rattle.report.specs.declared.faults.Why.{Why}
use Rattle.report.specs.declared.faults.Why.TheVariants as why

-- what each line of a file is
abbrev pub Lines : Type 0
Lines = List (Option CertLine)

-- a check: the line and the reason that are told where it fails, how many lines have to be read for it, and whether it holds
pub record Check : Type 0 where
  pub line : ℕ
  pub reason : Why
  pub reads : ℕ
  pub holds : Bool

-- a check of a line that is made when this line is read
abbrev pub at_line : ℕ → Why → Bool → Check
at_line n reason holds = record { line = n; reason = reason; reads = n; holds = holds }

-- a check of the line n that is made when the line `at` is read
abbrev pub then_check : ℕ → ℕ → Why → Bool → Check
then_check at n reason holds = record { line = n; reason = reason; reads = at; holds = holds }

-- ---- lines

-- the n-th line, counted from 1
abbrev pub line_at : Lines → ℕ → Option CertLine
line_at lines n = option_and_then (λ line. line) (slice_get lines (n - 1))

abbrev pub is_conflicts : Option CertLine → Bool
is_conflicts (Some (of.Conflicts n)) = true
is_conflicts line = false

-- the number of the first `conflicts` line, or one more than the number of lines
abbrev pub conflicts_line : Lines → ℕ
conflicts_line lines = position_or_len is_conflicts lines + 1

-- the lines before the first `conflicts` line
abbrev pub upper_lines : Lines → Lines
upper_lines lines = take (conflicts_line lines - 1) lines

-- how many rows the conflicts line announces
abbrev pub announced : Option CertLine → ℕ
announced (Some (of.Conflicts n)) = n
announced line = 0

-- the states that a line lists
abbrev pub listed_by : Option CertLine → List Listed
listed_by (Some (of.Distance s d)) = record { state = s; distance = d } ∷ []
listed_by (Some (of.Run s t d)) = map (λ state. record { state = state; distance = d }) (range_with_len s (t + 1 - s))
listed_by line = []

-- the states that lines list, in their order
abbrev pub listed_in : Lines → List Listed
listed_in lines = flat_map listed_by lines

abbrev pub row_of_line : Option CertLine → Option Row
row_of_line (Some (of.Row r)) = Some r
row_of_line line = None

-- the rows among the lines of a file
abbrev pub certificate_rows : Lines → List Row
certificate_rows lines = filter_map row_of_line lines

abbrev pub is_row_line : Option CertLine → Bool
is_row_line (Some (of.Row r)) = true
is_row_line line = false

abbrev pub is_end_line : Option CertLine → Bool
is_end_line (Some of.End) = true
is_end_line line = false

-- ---- the lines down to the conflicts

abbrev pub is_version : Option CertLine → ℕ → Bool
is_version (Some (of.Head version)) n = version == n
is_version line n = false

-- the line may be the one behind so many lines, which are these: head, entries, states, and then states with their distances,
-- or the conflicts
abbrev pub may_follow_at : Lines → ℕ → Option CertLine → Bool
may_follow_at before zero line = is_version line 1 || is_version line 2
may_follow_at before (suc zero) (Some (of.Entries n)) = true
may_follow_at before (suc (suc zero)) (Some (of.States n)) = true
may_follow_at before (suc (suc (suc i))) (Some (of.Distance s d)) = is_version (line_at before 1) 1
may_follow_at before (suc (suc (suc i))) (Some (of.Run s t d)) = is_version (line_at before 1) 2 && nat_le s t
may_follow_at before (suc (suc (suc i))) (Some (of.Conflicts n)) = true
may_follow_at before i line = false

-- the line may follow these lines
abbrev pub may_follow : Lines → Option CertLine → Bool
may_follow before line = may_follow_at before (length before) line

-- the first of these states is greater than all before
abbrev pub rise_above : List Listed → List Listed → Bool
rise_above before [] = true
rise_above before (s ∷ ss) = list_all (λ other. nat_lt other.state s.state) before

-- these states may be listed next: they are greater than all before, and each is known
abbrev pub may_be_listed : (ℕ → Bool) → List Listed → List Listed → Bool
may_be_listed is_known before new = rise_above before new && list_all (λ s. is_known s.state) new

-- what of a line above the conflicts is checked, by the lines before it, its number, and the line
abbrev pub ContentCheck : Type 0
ContentCheck = Lines → ℕ → Option CertLine → Check

-- of one line: that it may follow, and what it says
abbrev pub line_checks : ContentCheck → Lines → ℕ → List Check
line_checks content lines n =
    at_line n why.Form (may_follow (take (n - 1) lines) (line_at lines n))
    ∷ content (take (n - 1) lines) n (line_at lines n)
    ∷ []

-- of the lines down to the conflicts, one after another
abbrev pub upper_checks : ContentCheck → Lines → List Check
upper_checks content lines = flat_map (line_checks content lines) (range_with_len 1 (conflicts_line lines))

-- behind the line `at`: the line `end`, and nothing more
abbrev pub end_checks : Lines → ℕ → List Check
end_checks lines at =
    at_line (at + 1) why.Form (is_end_line (line_at lines (at + 1)))
    ∷ at_line (at + 2) why.Rest (nat_le (length lines) (at + 1))
    ∷ []

-- ---- what comes of checks

-- all checks hold, with the number of conflicts; or the first that fails; or more bytes than may be read are needed before
pub data CheckOutcome : Type 0 where
  accepted : ℕ → CheckOutcome
  rejected : ℕ → Why → CheckOutcome
  too_long : CheckOutcome

-- how many lines can be read of a file that is longer than the limit: those that end within it
abbrev pub readable_lines : ℕ → List ℕ → Option ℕ
readable_lines limit bytes = if nat_le (length bytes) limit then None else Some (count_by (λ c. c == 10) (take limit bytes))

-- the check needs no line that can't be read
abbrev pub can_be_made : Option ℕ → Check → Bool
can_be_made None check = true
can_be_made (Some lines) check = nat_le check.reads lines

-- the check holds, and needs no line that can't be read
abbrev pub check_passes : Option ℕ → Check → Bool
check_passes most check = check.holds && can_be_made most check

-- the first of these checks that doesn't
abbrev pub first_failure : Option ℕ → List Check → Option Check
first_failure most checks = find (λ check. not (check_passes most check)) checks

abbrev pub outcome_by : Option ℕ → ℕ → Option Check → CheckOutcome
outcome_by most n None = accepted n
outcome_by most n (Some check) = if can_be_made most check then rejected check.line check.reason else too_long

-- the first check that fails or that would read past the limit; or else the number on the conflicts line
abbrev pub outcome_of : Option ℕ → Lines → List Check → CheckOutcome
outcome_of most lines checks = outcome_by most (announced (line_at lines (conflicts_line lines))) (first_failure most checks)
