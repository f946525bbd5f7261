-- What is answered to a line above the conflicts, and what is known then.
use Rattle.std.proofs.Common.{◌≡◌, ℕ, zero, suc, ◌+◌, ◌-◌, ◌<◌, ◌≤◌, List, [], ◌∷◌, ◌++◌, length, map, refl, sym, ap, subst, arith, Bool, true, false, cond, true≢false, Option, Some, None, ◌∙◌, append-nil}
use Rattle.std.specs.Prelude.{◌&&◌, ◌||◌, ◌==◌, nat_lt, nat_le, is_some}
use Rattle.std.specs.List.{cons_option, list_all, range_with_len}
use Rattle.std.proofs.lemmas.Bool.{eqb-true, le-leb, leb-true, lt-ltb, ltb-true}
use Rattle.std.proofs.lemmas.Grind.{flat_map-append}
use Rattle.std.proofs.lemmas.List.{length_push}
use Rattle.std.proofs.lemmas.List.Folds.{list_all-append}
use Rattle.graph_rules.specs.Graphs.{most_numbers}
use Rattle.certificate.specs.declared.lines.CertLine.{CertLine}
use Rattle.certificate.specs.declared.lines.CertLine.TheVariants as of
use Rattle.certificate.specs.CertTexts.{Listed, Run, runs_of}
use Rattle.report.specs.declared.faults.Why.{Why}
use Rattle.report.specs.declared.faults.Why.TheVariants as why
use Rattle.certificate_laws.specs.Checks.{Lines, certificate_rows, is_conflicts, is_version, line_at, listed_by, listed_in, may_be_listed, may_follow, row_of_line}
use Rattle.certificate_laws.proofs.HoldLemmas.{both}
use Rattle.audit_certificate.specs.Runs.{states_of_run}
use Rattle.cert_check.proofs.AnswerLemmas.{due_conflicts, due_distance, due_end, due_entries, due_head, due_row, due_run, due_states, first_stays, left_true, under}
use Rattle.cert_upgrade.specs.declared.upper.Upper.{Upper}
use Rattle.cert_upgrade.specs.Forms.{announced_entries, announced_states, is_announced}
use Rattle.cert_upgrade.specs.inside.Uppers.{Knows, TakesFormLine, failure_by, form_failure, lines_after, may_list, new_upper, next_after, states_after, upper_failure, version_after, with_run}
use Rattle.cert_upgrade.proofs.RunJoins.{line_of_run, push_run, runs-push, with_run-behind}

-- ---- why a line fails

same_failure : (a b c d : Bool) (r s : Why) → a ≡ b → (b ≡ true → c ≡ d) → r ≡ s → failure_by a c r ≡ failure_by b d s
same_failure a true c d r s due right reason = rw due (ap (λ x. cond x None (Some r)) (right refl) ∙ ap (λ x. cond d None (Some x)) reason)
same_failure a false c d r s due right reason = rw due refl

-- of a line that says nothing wrong
quiet_failure : (a b : Bool) (r s : Why) → a ≡ b → failure_by a true r ≡ failure_by b true s
quiet_failure a true r s due = rw due refl
quiet_failure a false r s due = rw due refl

abbrev run_of : ℕ → ℕ → ℕ → Run
run_of s t d = record { first = s; last = t; distance = d }

and_true : (b : Bool) → (b && true) ≡ b
and_true true = refl
and_true false = refl

le_trans_false : (a b n : ℕ) → a ≤ b → nat_lt b n ≡ true → nat_lt a n ≡ true
le_trans_false a b n le lt = lt-ltb a n (let l = ltb-true b n lt in omega (arith, le, l))

-- all of some numbers that follow one another are below n exactly where the last is
all_below : (n s k d : ℕ) → list_all (λ (x : Listed). nat_lt x.state n) (map (λ state. record { state = state; distance = d }) (range_with_len s (suc k))) ≡ nat_lt (s + k) n
all_below n s zero d = let e : s ≡ s + 0 = omega arith in and_true (nat_lt s n) ∙ ap (λ x. nat_lt x n) e
all_below n s (suc k) d =
    let e : s + 1 + k ≡ s + suc k = omega arith in
    ap (λ b. nat_lt s n && b) (all_below n (s + 1) k d ∙ ap (λ x. nat_lt x n) e) ∙ by (nat_lt (s + suc k) n) refl
  where
    by : (b : Bool) → nat_lt (s + suc k) n ≡ b → (nat_lt s n && b) ≡ b
    by true is = ap (λ x. x && true) (le_trans_false s (s + suc k) n (omega arith) is)
    by false is = none (nat_lt s n)
      where
        none : (x : Bool) → (x && false) ≡ false
        none true = refl
        none false = refl

-- a run of states may be listed
run_right : (u : Upper) (before : Lines) (s t d : ℕ) → Knows u before → 3 ≤ length before → s ≤ t →
    may_be_listed (is_announced before) (listed_in before) (map (λ state. record { state = state; distance = d }) (range_with_len s (t + 1 - s))) ≡ may_list u s t
run_right u before s t d knows long le =
    let many : t + 1 - s ≡ suc (t - s) = omega (arith, le) in
    let end : s + (t - s) ≡ t = omega (arith, le) in
    let states = knows.states long in
    ap (λ k. may_be_listed (is_announced before) (listed_in before) (map (λ state. record { state = state; distance = d }) (range_with_len s k))) many
    ∙ (ap (λ b. b && list_all (λ (x : Listed). is_announced before x.state) (map (λ state. record { state = state; distance = d }) (range_with_len s (suc (t - s))))) (knows.next s)
    ∙ ap (λ b. nat_le u.next s && b) (all_below (announced_states (line_at before 3)) s (t - s) d ∙ (ap (λ x. nat_lt x (announced_states (line_at before 3))) end ∙ ap (λ n. nat_lt t n) states)))

version_is : (u : Upper) (before : Lines) (k : ℕ) → Knows u before → 3 ≤ length before → is_version (line_at before 1) k ≡ (u.version == k)
version_is u before k knows long = ap (λ o. is_version o k) (knows.version (omega (arith, long)))

-- The answer to a line is that of the definition.
pub failure-is : (u : Upper) (before : Lines) (l : CertLine) → Knows u before → upper_failure u (length before) l ≡ form_failure before l
failure-is u before (of.Head v) knows = sym (quiet_failure (may_follow before (Some (of.Head v))) ((length before == 0) && ((v == 1) || (v == 2))) why.Number why.Form (due_head before (length before) v) ∙ same ((length before == 0) && ((v == 1) || (v == 2))))
  where
    same : (b : Bool) → failure_by b true why.Form ≡ failure_by b true why.Form
    same b = refl
failure-is u before (of.Entries k) knows = sym (quiet_failure (may_follow before (Some (of.Entries k))) (length before == 1) why.Entries why.Entries (due_entries before (length before) k))
failure-is u before (of.States k) knows = sym (same_failure (may_follow before (Some (of.States k))) (length before == 2) (nat_le k most_numbers) (nat_le k most_numbers) why.States why.States (due_states before (length before) k) (λ due. refl) refl)
failure-is u before (of.Distance s d) knows =
    let late : (nat_le 3 (length before) && (u.version == 1)) ≡ true → 3 ≤ length before = (λ is. leb-true 3 (length before) (left_true (nat_le 3 (length before)) (u.version == 1) is)) in
    let due : may_follow before (Some (of.Distance s d)) ≡ (nat_le 3 (length before) && (u.version == 1)) =
    due_distance before (length before) s d ∙ under (nat_le 3 (length before)) (is_version (line_at before 1) 1) (u.version == 1) (λ le. version_is u before 1 knows (leb-true 3 (length before) le)) in
    let one : s + 1 - s ≡ 1 = omega arith in
    sym (same_failure (may_follow before (Some (of.Distance s d))) (nat_le 3 (length before) && (u.version == 1)) _ (may_list u s s) why.Number why.Number due
    (λ is. ap (λ k. may_be_listed (is_announced before) (listed_in before) (map (λ state. record { state = state; distance = d }) (range_with_len s k))) (sym one) ∙ run_right u before s s d knows (late is) (omega arith)) refl)
failure-is u before (of.Run s t d) knows =
    let late : (nat_le 3 (length before) && ((u.version == 2) && nat_le s t)) ≡ true → 3 ≤ length before =
    (λ is. leb-true 3 (length before) (left_true (nat_le 3 (length before)) ((u.version == 2) && nat_le s t) is)) in
    let rises : (nat_le 3 (length before) && ((u.version == 2) && nat_le s t)) ≡ true → s ≤ t =
    (λ is. leb-true s t (both (u.version == 2) (nat_le s t) (both (nat_le 3 (length before)) ((u.version == 2) && nat_le s t) is).1).1) in
    let due : may_follow before (Some (of.Run s t d)) ≡ (nat_le 3 (length before) && ((u.version == 2) && nat_le s t)) =
    due_run before (length before) s t d
    ∙ under (nat_le 3 (length before)) (is_version (line_at before 1) 2 && nat_le s t) ((u.version == 2) && nat_le s t) (λ le. ap (λ c. c && nat_le s t) (version_is u before 2 knows (leb-true 3 (length before) le))) in
    sym (same_failure (may_follow before (Some (of.Run s t d))) (nat_le 3 (length before) && ((u.version == 2) && nat_le s t)) _ (may_list u s t) why.Number why.Number due (λ is. run_right u before s t d knows (late is) (rises is)) refl)
failure-is u before (of.Conflicts k) knows = sym (quiet_failure (may_follow before (Some (of.Conflicts k))) (nat_le 3 (length before)) why.Number why.Form (due_conflicts before (length before) k))
failure-is u before (of.Row r) knows = sym (ap (λ b. failure_by b true why.Number) (due_row before (length before) r))
failure-is u before of.End knows = sym (ap (λ b. failure_by b true why.Number) (due_end before (length before)))

-- ---- what is known then

-- nothing is known yet
pub knows_nothing : (u : Upper) → u.next ≡ 0 → u.lines.items ≡ [] → Knows u []
knows_nothing u next lines = record {
  version = λ some. absurd (omega (arith, some));
  states = λ some. absurd (omega (arith, some));
  next = λ state. sym (ap (λ n. nat_le n state) next ∙ le-leb 0 state (omega arith));
  early = λ few. refl;
  rows = refl;
  lines = lines;
}

-- what doesn't fail may follow, and says what is right
pub passes : (a b : Bool) (r : Why) → failure_by a b r ≡ None → (a ≡ true) × (b ≡ true)
passes true true r e = (refl, refl)
passes true false r e = absurd (true≢false (ap is_some e))
passes false b r e = absurd (true≢false (ap is_some e))

-- What one line more lists.
pub listed-push : (before : Lines) (o : Option CertLine) → listed_in (before ++ o ∷ []) ≡ listed_in before ++ listed_by o
listed-push before o = flat_map-append listed_by before (o ∷ []) ∙ ap (λ xs. listed_in before ++ xs) (append-nil (listed_by o))

rows-push : (before : Lines) (o : Option CertLine) → row_of_line o ≡ None → certificate_rows (before ++ o ∷ []) ≡ certificate_rows before
rows-push [] o none = ap (λ r. cons_option r []) none
rows-push (b ∷ bs) o none = ap (cons_option (row_of_line b)) (rows-push bs o none)

-- The third line stays the third.
pub third_stays : (before : Lines) (o : Option CertLine) → 3 ≤ length before → line_at (before ++ o ∷ []) 3 ≡ line_at before 3
third_stays [] o le = absurd (omega (arith, le))
third_stays (a ∷ []) o le = absurd (omega (arith, le))
third_stays (a ∷ b ∷ []) o le = absurd (omega (arith, le))
third_stays (a ∷ b ∷ c ∷ ls) o le = refl

-- one line more that lists nothing, behind the first
knows_quiet : (old new : Upper) (before : Lines) (l : CertLine) → Knows old before → 0 < length before → TakesFormLine old new l → listed_by (Some l) ≡ [] → row_of_line (Some l) ≡ None → version_after old.version l ≡ old.version → next_after old.next l ≡ old.next →
    (3 ≤ length before + 1 → announced_states (line_at (before ++ Some l ∷ []) 3) ≡ states_after old.states l) → lines_after old.lines.items l ≡ new_upper (before ++ Some l ∷ []) → Knows new (before ++ Some l ∷ [])
knows_quiet old new before l knows some takes none no_row version next states lines = record {
  version = λ more. first_stays before (Some l) some ∙ (knows.version some ∙ ap (λ v. Some (of.Head v)) (sym (takes.version ∙ version)));
  states = λ long. states (subst (λ n. 3 ≤ n) (length_push before (Some l)) long) ∙ sym takes.states;
  next = λ state. ap (list_all (λ other. nat_lt other.state state)) same ∙ (knows.next state ∙ ap (λ n. nat_le n state) (sym (takes.next ∙ next)));
  early = λ few. same ∙ knows.early (let more = length_push before (Some l) in omega (arith, few, more));
  rows = rows-push before (Some l) no_row ∙ knows.rows;
  lines = takes.lines ∙ lines;
}
  where
    same : listed_in (before ++ Some l ∷ []) ≡ listed_in before
    same = listed-push before (Some l) ∙ (ap (λ xs. listed_in before ++ xs) none ∙ append-nil (listed_in before))

lt_is : (a b : ℕ) → nat_lt a b ≡ nat_le (a + 1) b
lt_is a b = by (nat_lt a b) refl (nat_le (a + 1) b) refl
  where
    by : (x : Bool) → nat_lt a b ≡ x → (y : Bool) → nat_le (a + 1) b ≡ y → x ≡ y
    by true is true le = refl
    by true is false le = absurd (true≢false (sym (le-leb (a + 1) b (let l = ltb-true a b is in omega (arith, l))) ∙ le))
    by false is true le = absurd (true≢false (sym (lt-ltb a b (let l = leb-true (a + 1) b le in omega (arith, l))) ∙ is))
    by false is false le = refl

-- what is at least the next one after more is so before
next_more : (old first last state : ℕ) → old ≤ first → first ≤ last → (nat_le old state && nat_lt last state) ≡ nat_le (last + 1) state
next_more old first last state a b = ap (λ x. nat_le old state && x) (lt_is last state) ∙ by (nat_le (last + 1) state) refl
  where
    none : (x : Bool) → (x && false) ≡ false
    none true = refl
    none false = refl

    by : (x : Bool) → nat_le (last + 1) state ≡ x → (nat_le old state && x) ≡ x
    by true is = ap (λ x. x && true) (le-leb old state (let l = leb-true (last + 1) state is in omega (arith, l, a, b)))
    by false is = none (nat_le old state)

-- the new lines with one more run
new_upper-run : (before : Lines) (l : CertLine) (q : Run) → 3 ≤ length before → q.first ≤ q.last → listed_by (Some l) ≡ states_of_run q → with_run (new_upper before) q.first q.last q.distance ≡ new_upper (before ++ Some l ∷ [])
new_upper-run [] l q long le lists = absurd (omega (arith, long))
new_upper-run (h ∷ []) l q long le lists = absurd (omega (arith, long))
new_upper-run (h ∷ e ∷ []) l q long le lists = absurd (omega (arith, long))
new_upper-run (h ∷ e ∷ s ∷ ls) l q long le lists =
    let all : List Listed = listed_in (h ∷ e ∷ s ∷ ls) in
    let runs : runs_of (listed_in (h ∷ e ∷ s ∷ ls ++ Some l ∷ [])) ≡ push_run (runs_of all) q =
    ap runs_of (listed-push (h ∷ e ∷ s ∷ ls) (Some l) ∙ ap (λ xs. all ++ xs) lists) ∙ runs-push all q le in
    ap (λ xs. of.Head 2 ∷ of.Entries (announced_entries e) ∷ xs) (with_run-behind (of.States (announced_states s)) (runs_of all) q refl)
    ∙ ap (λ rs. of.Head 2 ∷ of.Entries (announced_entries e) ∷ of.States (announced_states s) ∷ map line_of_run rs) (sym runs)

-- one line more that lists a run
knows_run : (old new : Upper) (before : Lines) (l : CertLine) (q : Run) → Knows old before → 3 ≤ length before → q.first ≤ q.last → old.next ≤ q.first → TakesFormLine old new l → listed_by (Some l) ≡ states_of_run q → row_of_line (Some l) ≡ None →
    version_after old.version l ≡ old.version → states_after old.states l ≡ old.states → next_after old.next l ≡ q.last + 1 → lines_after old.lines.items l ≡ with_run old.lines.items q.first q.last q.distance → Knows new (before ++ Some l ∷ [])
knows_run old new before l q knows long le above takes lists no_row version states next lines = record {
  version = λ more. first_stays before (Some l) (omega (arith, long)) ∙ (knows.version (omega (arith, long)) ∙ ap (λ v. Some (of.Head v)) (sym (takes.version ∙ version)));
  states = λ more. ap announced_states (third_stays before (Some l) long) ∙ (knows.states long ∙ sym (takes.states ∙ states));
  next = λ state.
      ap (list_all (λ other. nat_lt other.state state)) (listed-push before (Some l) ∙ ap (λ xs. listed_in before ++ xs) lists)
      ∙ (list_all-append (λ other. nat_lt other.state state) (listed_in before) (states_of_run q)
      ∙ (ap (λ b. b && list_all (λ other. nat_lt other.state state) (states_of_run q)) (knows.next state)
      ∙ (ap (λ b. nat_le old.next state && b) (below_run state) ∙ (next_more old.next q.first q.last state above le ∙ ap (λ n. nat_le n state) (sym (takes.next ∙ next))))));
  early = λ few. absurd (let more = length_push before (Some l) in omega (arith, few, more, long));
  rows = rows-push before (Some l) no_row ∙ knows.rows;
  lines = takes.lines ∙ (lines ∙ (ap (λ ls. with_run ls q.first q.last q.distance) knows.lines ∙ new_upper-run before l q long le lists));
}
  where
    below_run : (state : ℕ) → list_all (λ other. nat_lt other.state state) (states_of_run q) ≡ nat_lt q.last state
    below_run state =
        let many : q.last + 1 - q.first ≡ suc (q.last - q.first) = omega (arith, le) in
        let end : q.first + (q.last - q.first) ≡ q.last = omega (arith, le) in
        ap (λ n. list_all (λ (other : Listed). nat_lt other.state state) (map (λ state. record { state = state; distance = q.distance }) (range_with_len q.first n))) many
        ∙ (all_below state q.first (q.last - q.first) q.distance ∙ ap (λ x. nat_lt x state) end)

knows_head : (old new : Upper) (before : Lines) (v : ℕ) → Knows old before → TakesFormLine old new (of.Head v) → length before ≡ 0 → Knows new (before ++ Some (of.Head v) ∷ [])
knows_head old new [] v knows takes none = record {
  version = λ some. ap (λ k. Some (of.Head k)) (sym takes.version);
  states = λ long. absurd (omega (arith, long));
  next = λ state. knows.next state ∙ ap (λ n. nat_le n state) (sym takes.next);
  early = λ few. refl;
  rows = refl;
  lines = takes.lines ∙ ap (λ ls. ls ++ of.Head 2 ∷ []) knows.lines;
}
knows_head old new (b ∷ bs) v knows takes none = absurd (omega (arith, none))

knows_entries : (old new : Upper) (before : Lines) (k : ℕ) → Knows old before → TakesFormLine old new (of.Entries k) → length before ≡ 1 → Knows new (before ++ Some (of.Entries k) ∷ [])
knows_entries old new [] k knows takes one = absurd (omega (arith, one))
knows_entries old new (h ∷ []) k knows takes one =
    knows_quiet old new (h ∷ []) (of.Entries k) knows (omega arith) takes refl refl refl refl (λ long. absurd (omega (arith, long))) (ap (λ ls. ls ++ of.Entries k ∷ []) knows.lines)
knows_entries old new (h ∷ b ∷ bs) k knows takes one = absurd (omega (arith, one))

knows_states : (old new : Upper) (before : Lines) (k : ℕ) → Knows old before → TakesFormLine old new (of.States k) → length before ≡ 2 → Knows new (before ++ Some (of.States k) ∷ [])
knows_states old new [] k knows takes two = absurd (omega (arith, two))
knows_states old new (h ∷ []) k knows takes two = absurd (omega (arith, two))
knows_states old new (h ∷ e ∷ []) k knows takes two =
    let none : listed_in (h ∷ e ∷ Some (of.States k) ∷ []) ≡ [] = listed-push (h ∷ e ∷ []) (Some (of.States k)) ∙ (append-nil (listed_in (h ∷ e ∷ [])) ∙ knows.early (omega arith)) in
    knows_quiet old new (h ∷ e ∷ []) (of.States k) knows (omega arith) takes refl refl refl refl (λ long. refl)
    (ap (λ ls. ls ++ of.States k ∷ []) knows.lines ∙ ap (λ xs. of.Head 2 ∷ of.Entries (announced_entries e) ∷ of.States k ∷ map line_of_run (runs_of xs)) (sym none))
knows_states old new (h ∷ e ∷ b ∷ bs) k knows takes two = absurd (omega (arith, two))

-- One line more that may follow and says what is right.
pub knows_more : (old new : Upper) (before : Lines) (l : CertLine) → Knows old before → upper_failure old (length before) l ≡ None → TakesFormLine old new l → is_conflicts (Some l) ≡ false → Knows new (before ++ Some l ∷ [])
knows_more old new before (of.Head v) knows right takes other =
    let due = (passes ((length before == 0) && ((v == 1) || (v == 2))) true why.Form right).0 in
    knows_head old new before v knows takes (eqb-true (length before) 0 (left_true (length before == 0) ((v == 1) || (v == 2)) due))
knows_more old new before (of.Entries k) knows right takes other = knows_entries old new before k knows takes (eqb-true (length before) 1 (passes (length before == 1) true why.Entries right).0)
knows_more old new before (of.States k) knows right takes other = knows_states old new before k knows takes (eqb-true (length before) 2 (passes (length before == 2) (nat_le k most_numbers) why.States right).0)
knows_more old new before (of.Distance s d) knows right takes other =
    let two = passes (nat_le 3 (length before) && (old.version == 1)) (may_list old s s) why.Number right in
    let one : s + 1 - s ≡ 1 = omega arith in
    knows_run old new before (of.Distance s d) (run_of s s d) knows (leb-true 3 (length before) (left_true (nat_le 3 (length before)) (old.version == 1) two.0)) (omega arith) (leb-true old.next s (left_true (nat_le old.next s) (nat_lt s old.states) two.1)) takes
    (ap (λ k. map (λ state. record { state = state; distance = d }) (range_with_len s k)) (sym one)) refl refl refl refl refl
knows_more old new before (of.Run s t d) knows right takes other =
    let two = passes (nat_le 3 (length before) && ((old.version == 2) && nat_le s t)) (may_list old s t) why.Number right in
    knows_run old new before (of.Run s t d) (run_of s t d) knows (leb-true 3 (length before) (left_true (nat_le 3 (length before)) ((old.version == 2) && nat_le s t) two.0))
    (leb-true s t (both (old.version == 2) (nat_le s t) (both (nat_le 3 (length before)) ((old.version == 2) && nat_le s t) two.0).1).1) (leb-true old.next s (left_true (nat_le old.next s) (nat_lt t old.states) two.1)) takes refl refl refl refl refl refl
knows_more old new before (of.Conflicts k) knows right takes other = absurd (true≢false other)
knows_more old new before (of.Row r) knows right takes other = absurd (true≢false (ap is_some right))
knows_more old new before of.End knows right takes other = absurd (true≢false (ap is_some right))
