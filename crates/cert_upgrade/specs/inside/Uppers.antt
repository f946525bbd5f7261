-- What the program knows of the lines above the conflicts, and which lines it makes of them.
--     upper_failure u n line       why a line behind n others fails, if it does
--     with_run lines s t d         lines with one more run, which is joined to a last run that goes on in it
--     TakesFormLine old new line   what is known with one line more
--     new_upper before             the lines of the new certificate for these lines of the old one
--     Knows u before               what is known of the lines that were read
use Rattle.std.specs.Prelude.{ℕ, ◌+◌, ◌<◌, ◌≤◌, ◌≡◌, List, [], ◌∷◌, ◌++◌, Bool, true, ◌&&◌, ◌||◌, ◌==◌, nat_lt, nat_le, length, map, Option, Some, None, if◌then◌else◌}
use Rattle.std.specs.List.{list_all}
use Rattle.graph_rules.specs.Graphs.{most_numbers}
use Rattle.certificate.specs.declared.lines.CertLine.{CertLine}
use Rattle.certificate.specs.declared.lines.CertLine.TheVariants as of
use Rattle.certificate.specs.CertTexts.{runs_of}
use Rattle.report.specs.declared.faults.Why.{Why}
use Rattle.report.specs.declared.faults.Why.TheVariants as why
use Rattle.certificate_laws.specs.Checks.{Lines, certificate_rows, line_at, listed_in, may_follow}
use Rattle.cert_upgrade.specs.declared.upper.Upper.{Upper}
use Rattle.cert_upgrade.specs.Forms.{announced_entries, announced_states, form_check}

-- ---- why a line fails

-- why a line fails that may follow or not, and says what is right or not
abbrev pub failure_by : Bool → Bool → Why → Option Why
failure_by may_follow is_right reason = if may_follow then (if is_right then None else Some reason) else Some why.Form

-- the states from the first to the last may be listed next
abbrev pub may_list : Upper → ℕ → ℕ → Bool
may_list u first last = nat_le u.next first && nat_lt last u.states

-- why a line behind n others fails, if it does
abbrev pub upper_failure : Upper → ℕ → CertLine → Option Why
upper_failure u n (of.Head v) = failure_by ((n == 0) && ((v == 1) || (v == 2))) true why.Form
upper_failure u n (of.Entries k) = failure_by (n == 1) true why.Entries
upper_failure u n (of.States k) = failure_by (n == 2) (nat_le k most_numbers) why.States
upper_failure u n (of.Distance s d) = failure_by (nat_le 3 n && (u.version == 1)) (may_list u s s) why.Number
upper_failure u n (of.Run s t d) = failure_by (nat_le 3 n && ((u.version == 2) && nat_le s t)) (may_list u s t) why.Number
upper_failure u n (of.Conflicts k) = failure_by (nat_le 3 n) true why.Form
upper_failure u n (of.Row r) = Some why.Form
upper_failure u n of.End = Some why.Form

-- the same by the definition: why the line behind these fails, if it does
abbrev pub form_failure : Lines → CertLine → Option Why
form_failure before l =
    let content = form_check before (length before + 1) (Some l) in
    failure_by (may_follow before (Some l)) content.holds content.reason

-- ---- what is made of a line

-- where a run begins that goes on in one of this first state and distance, if the line is such a run
abbrev pub run_before : CertLine → ℕ → ℕ → Option ℕ
run_before (of.Run s t d) first distance = if (first == t + 1) && (distance == d) then Some s else None
run_before line first distance = None

-- the line and a run behind it, or one run in place of both
abbrev pub joined : Option ℕ → CertLine → ℕ → ℕ → ℕ → List CertLine
joined (Some start) line first last distance = of.Run start last distance ∷ []
joined None line first last distance = line ∷ of.Run first last distance ∷ []

-- lines with one more run, which is joined to a last run that goes on in it
abbrev pub with_run : List CertLine → ℕ → ℕ → ℕ → List CertLine
with_run [] s t d = of.Run s t d ∷ []
with_run (l ∷ []) s t d = joined (run_before l s d) l s t d
with_run (l ∷ m ∷ ls) s t d = l ∷ with_run (m ∷ ls) s t d

abbrev pub lines_after : List CertLine → CertLine → List CertLine
lines_after lines (of.Head v) = lines ++ of.Head 2 ∷ []
lines_after lines (of.Entries k) = lines ++ of.Entries k ∷ []
lines_after lines (of.States k) = lines ++ of.States k ∷ []
lines_after lines (of.Distance s d) = with_run lines s s d
lines_after lines (of.Run s t d) = with_run lines s t d
lines_after lines line = lines

abbrev pub version_after : ℕ → CertLine → ℕ
version_after version (of.Head v) = v
version_after version line = version

abbrev pub states_after : ℕ → CertLine → ℕ
states_after states (of.States k) = k
states_after states line = states

abbrev pub next_after : ℕ → CertLine → ℕ
next_after next (of.Distance s d) = s + 1
next_after next (of.Run s t d) = t + 1
next_after next line = next

-- what is known with one line more
pub record TakesFormLine (old new : Upper) (line : CertLine) : Type 0 where
  pub version : new.version ≡ version_after old.version line
  pub states : new.states ≡ states_after old.states line
  pub next : new.next ≡ next_after old.next line
  pub lines : new.lines.items ≡ lines_after old.lines.items line

-- ---- what is known

-- the lines of the new certificate for these lines of the old one
abbrev pub new_upper : Lines → List CertLine
new_upper [] = []
new_upper (h ∷ []) = of.Head 2 ∷ []
new_upper (h ∷ e ∷ []) = of.Head 2 ∷ of.Entries (announced_entries e) ∷ []
new_upper (h ∷ e ∷ s ∷ ls) =
    of.Head 2 ∷ of.Entries (announced_entries e) ∷ of.States (announced_states s)
    ∷ map (λ r. of.Run r.first r.last r.distance) (runs_of (listed_in (h ∷ e ∷ s ∷ ls)))

-- what is known of the lines that were read
pub record Knows (u : Upper) (before : Lines) : Type 0 where
  pub version : 0 < length before → line_at before 1 ≡ Some (of.Head u.version)
  pub states : 3 ≤ length before → announced_states (line_at before 3) ≡ u.states
  -- a state is greater than all that are listed exactly where it is at least the next one
  pub next : (state : ℕ) → list_all (λ other. nat_lt other.state state) (listed_in before) ≡ nat_le u.next state
  pub early : length before ≤ 3 → listed_in before ≡ []
  pub rows : certificate_rows before ≡ []
  pub lines : u.lines.items ≡ new_upper before
