-- From the checks that are left to the outcome.
use Rattle.std.proofs.Common.{◌≡◌, ℕ, ◌+◌, ◌≤◌, List, [], ◌∷◌, ◌++◌, length, refl, sym, ap, subst, arith, Bool, true, false, cond, true≢false, Option, Some, None, ◌∙◌}
use Rattle.std.specs.Prelude.{is_some, nat_le, not}
use Rattle.std.specs.List.{position_or_len}
use Rattle.std.specs.Io.KnownBytes.{prepend_known}
use Rattle.std.proofs.lemmas.Bool.{leb-true}
use Rattle.std.proofs.lemmas.List.{length_push}
use Rattle.certificate.specs.declared.lines.CertLine.{CertLine}
use Rattle.certificate.specs.declared.lines.CertLine.TheVariants as of
use Rattle.certificate.specs.CertLines.{line_text, fits}
use Rattle.certificate.specs.CertReading.{read_lines}
use Rattle.certificate.proofs.FirstLines.{read_lines-line}
use Rattle.report.specs.declared.faults.Why.{Why}
use Rattle.report.specs.declared.faults.Why.TheVariants as why
use Rattle.certificate_laws.specs.Checks.{Check, Lines, announced, at_line, can_be_made, conflicts_line, is_conflicts, line_at, may_follow, outcome_by, outcome_of, readable_lines, rejected}
use Rattle.certificate_laws.specs.inside.Holding.{AllHold}
use Rattle.certificate_laws.proofs.UpperLemmas.{first_of, line_after, upper_from, upper_checks-from}
use Rattle.cert_check.specs.Reading.{IsReadTo}
use Rattle.cert_check.specs.Verdicts.{IsFaultOf}
use Rattle.cert_check.specs.declared.faults.CheckFault.{CheckFault}
use Rattle.cert_check.proofs.ReadLemmas.{Missing, bad, failed, long, memory, reached, read_begin, read_next}
use Rattle.cert_check.proofs.StageLemmas.{AllReached, first_past, no_line_due, stops_failing, stops_far}
use Rattle.cert_check.proofs.UpperLoop.{next_rest}
use Rattle.cert_upgrade.specs.Forms.{form_check, lower_forms, upgrade_limit, upgrade_outcome}
use Rattle.cert_upgrade.specs.inside.Stages.{AreFormsLeft}
use Rattle.cert_upgrade.specs.inside.Uppers.{form_failure}
use Rattle.cert_upgrade.proofs.FormAnswers.{passes}

-- how many lines can be read
abbrev pub readable : List ℕ → Option ℕ
readable bytes = readable_lines upgrade_limit bytes

-- the number that the conflicts line announces
abbrev pub announces : List ℕ → ℕ
announces bytes = announced (line_at (read_lines bytes) (conflicts_line (read_lines bytes)))

-- ---- any checks

-- Where checks that can be made hold, those behind them are left.
pub forms_past : (bytes : List ℕ) (checks rest : List Check) → AllHold checks → AllReached (readable bytes) checks → AreFormsLeft bytes (checks ++ rest) → AreFormsLeft bytes rest
forms_past bytes checks rest h r left = left ∙ ap (outcome_by (readable bytes) (announces bytes)) (first_past (readable bytes) checks rest h r)

-- Where the first of them fails the outcome is its line and its reason.
pub forms_fail : (bytes : List ℕ) (c : Check) (rest : List Check) → c.holds ≡ false → can_be_made (readable bytes) c ≡ true → AreFormsLeft bytes (c ∷ rest) → upgrade_outcome bytes ≡ rejected c.line c.reason
forms_fail bytes c rest fails can left = left ∙ stops_failing (readable bytes) (announces bytes) c rest fails can

past_one : (n : ℕ) → nat_le (n + 1) n ≡ false
past_one n = by (nat_le (n + 1) n) refl
  where
    by : (b : Bool) → nat_le (n + 1) n ≡ b → b ≡ false
    by true e = absurd (let l = leb-true (n + 1) n e in omega (arith, l))
    by false e = refl

-- Where a line is due that isn't there or is none, the first check that is left fails, and the fault says so.
pub forms_missing : (bytes : List ℕ) (before : Lines) (ahead : List ℕ) (holds : Bool) (rest : List Check) (f : CheckFault) → Missing upgrade_limit bytes before ahead f →
    (first_of (read_lines ahead) ≡ None → holds ≡ false) → AreFormsLeft bytes (at_line (length before + 1) why.Form holds ∷ rest) → IsFaultOf (upgrade_outcome bytes) f
forms_missing bytes before ahead holds rest _ (bad n is none) fails left =
    forms_fail bytes (at_line (length before + 1) why.Form holds) rest (fails none.none) (none.can (at_line (length before + 1) why.Form holds) refl) left ∙ ap (λ k. rejected k why.Form) (sym is)
forms_missing bytes before ahead holds rest _ (long most) fails left =
    left ∙ stops_far (readable bytes) (announces bytes) (at_line (length before + 1) why.Form holds) rest (ap (λ o. can_be_made o (at_line (length before + 1) why.Form holds)) most ∙ past_one (length before))
forms_missing bytes before ahead holds rest _ failed fails left = tt
forms_missing bytes before ahead holds rest _ memory fails left = tt

-- what a check of a line that was read needs can be read
pub line_reached : (bytes : List ℕ) (given : ℕ) (before : Lines) (l : CertLine) (rest : List ℕ) (c : Check) → IsReadTo upgrade_limit given bytes (before ++ Some l ∷ []) rest → c.reads ≡ length before + 1 → can_be_made (readable bytes) c ≡ true
line_reached bytes given before l rest c read reads = reached upgrade_limit given bytes (before ++ Some l ∷ []) rest c read (omega (arith, length_push before (Some l), reads))

-- ---- a line that was given

pub record LineRead (bytes : List ℕ) (more : ℕ) (before : Lines) (l : CertLine) (rest : List ℕ) (now : Option (List ℕ)) : Type 0 where
  pub next : List ℕ
  pub is_ahead : now ≡ Some next
  pub lines_are : read_lines rest ≡ Some l ∷ read_lines next
  pub read : IsReadTo upgrade_limit more bytes (before ++ Some l ∷ []) next
  pub line_is : line_at (read_lines bytes) (length before + 1) ≡ Some l

pub line_read : (bytes : List ℕ) (given more : ℕ) (before : Lines) (l : CertLine) (rest : List ℕ) (here now : Option (List ℕ)) → here ≡ Some rest → IsReadTo upgrade_limit given bytes before rest → here ≡ prepend_known (line_text l) now → fits l ≡ true →
    more ≡ given + length (line_text l) → more ≤ 1073741824 → LineRead bytes more before l rest now
line_read bytes given more before l rest here now is_ahead read line fit is within =
    let r = next_rest here now (line_text l) rest is_ahead line in
    let lines = ap read_lines r.2 ∙ read_lines-line l r.0 fit in record {
      next = r.0;
      is_ahead = r.1;
      lines_are = lines;
      read =
          subst (λ k. IsReadTo upgrade_limit k bytes (before ++ Some l ∷ []) r.0) (sym is)
          (read_next upgrade_limit given bytes before l r.0 fit (subst (λ k. k ≤ upgrade_limit) is within) (subst (IsReadTo upgrade_limit given bytes before) r.2 read));
      line_is = ap (λ ls. line_at ls (length before + 1)) read.split ∙ (line_after before (read_lines rest) ∙ ap first_of lines);
    }

-- ---- the lines down to the conflicts

-- the checks that follow them
abbrev pub later_forms : Lines → List Check
later_forms lines = lower_forms lines (conflicts_line lines) (announced (line_at lines (conflicts_line lines)))

-- What is known behind some lines above the conflicts.
pub record AtUpper (bytes : List ℕ) (given : ℕ) (before : Lines) (rest : List ℕ) : Type 0 where
  pub read : IsReadTo upgrade_limit given bytes before rest
  pub left : AreFormsLeft bytes (upper_from form_check before (read_lines rest) ++ later_forms (read_lines bytes))
  pub at : conflicts_line (read_lines bytes) ≡ length before + position_or_len is_conflicts (read_lines rest) + 1

pub at_begin : (bytes : List ℕ) → AtUpper bytes 0 [] bytes
at_begin bytes = record {
  read = read_begin upgrade_limit bytes;
  left = ap (λ cs. outcome_of (readable bytes) (read_lines bytes) (cs ++ later_forms (read_lines bytes))) (upper_checks-from form_check (read_lines bytes));
  at = omega arith;
}

-- the checks of the lines behind the next one, up to the conflicts
abbrev rest_after : Lines → Lines → List Check
rest_after before [] = []
rest_after before (l ∷ ls) = cond (is_conflicts l) [] (upper_from form_check (before ++ l ∷ []) ls)

first_check : (before ls : Lines) (later : List Check) →
    upper_from form_check before ls ++ later ≡ at_line (length before + 1) why.Form (may_follow before (first_of ls)) ∷ (form_check before (length before + 1) (first_of ls) ∷ (rest_after before ls ++ later))
first_check before [] later = refl
first_check before (l ∷ ls) later = refl

-- A line that isn't there is rejected.
pub upper_missing : (bytes : List ℕ) (given : ℕ) (before : Lines) (rest : List ℕ) (f : CheckFault) → AtUpper bytes given before rest → Missing upgrade_limit bytes before rest f → IsFaultOf (upgrade_outcome bytes) f
upper_missing bytes given before rest f at missing =
    forms_missing bytes before rest (may_follow before (first_of (read_lines rest))) (form_check before (length before + 1) (first_of (read_lines rest)) ∷ (rest_after before (read_lines rest) ++ later_forms (read_lines bytes))) f missing
    (λ none. ap (may_follow before) none ∙ no_line_due before) (subst (AreFormsLeft bytes) (first_check before (read_lines rest) (later_forms (read_lines bytes))) at.left)

-- what is said of a line reads no further than that line
form_reads : (before : Lines) (n : ℕ) (l : CertLine) → (form_check before n (Some l)).reads ≡ n
form_reads before n (of.Head v) = refl
form_reads before n (of.Entries k) = refl
form_reads before n (of.States k) = refl
form_reads before n (of.Distance s d) = refl
form_reads before n (of.Run s t d) = refl
form_reads before n (of.Conflicts k) = refl
form_reads before n (of.Row r) = refl
form_reads before n of.End = refl

form_line : (before : Lines) (n : ℕ) (l : CertLine) → (form_check before n (Some l)).line ≡ n
form_line before n (of.Head v) = refl
form_line before n (of.Entries k) = refl
form_line before n (of.States k) = refl
form_line before n (of.Distance s d) = refl
form_line before n (of.Run s t d) = refl
form_line before n (of.Conflicts k) = refl
form_line before n (of.Row r) = refl
form_line before n of.End = refl

-- the two checks of a line
module _ (bytes : List ℕ) (given more : ℕ) (before : Lines) (l : CertLine) (rest : List ℕ) (now : Option (List ℕ)) (at : AtUpper bytes given before rest) (line : LineRead bytes more before l rest now) where
  abbrev first : Check
  first = at_line (length before + 1) why.Form (may_follow before (Some l))

  abbrev second : Check
  second = form_check before (length before + 1) (Some l)

  abbrev others : List Check
  others = cond (is_conflicts (Some l)) [] (upper_from form_check (before ++ Some l ∷ []) (read_lines line.next)) ++ later_forms (read_lines bytes)

  here : AreFormsLeft bytes (first ∷ (second ∷ others))
  here = subst (λ ls. AreFormsLeft bytes (upper_from form_check before ls ++ later_forms (read_lines bytes))) line.lines_are at.left

  first_can : can_be_made (readable bytes) first ≡ true
  first_can = line_reached bytes more before l line.next first line.read refl

  second_can : can_be_made (readable bytes) second ≡ true
  second_can = line_reached bytes more before l line.next second line.read (form_reads before (length before + 1) l)

  -- A line that fails is told.
  pub upper_fails : (reason : Why) → form_failure before l ≡ Some reason → upgrade_outcome bytes ≡ rejected (length before + 1) reason
  upper_fails reason fails = by (may_follow before (Some l)) refl second.holds refl fails
    where
      by : (b : Bool) → may_follow before (Some l) ≡ b → (c : Bool) → second.holds ≡ c → cond b (cond c None (Some second.reason)) (Some why.Form) ≡ Some reason → upgrade_outcome bytes ≡ rejected (length before + 1) reason
      by true due true right e = absurd (true≢false (sym (ap is_some e)))
      by true due false right e =
          let same : second.reason ≡ reason = cc in
          forms_fail bytes second others right second_can (forms_past bytes (first ∷ []) (second ∷ others) (due, tt) (first_can, tt) here)
          ∙ (ap (λ n. rejected n second.reason) (form_line before (length before + 1) l) ∙ ap (rejected (length before + 1)) same)
      by false due c right e = let same : why.Form ≡ reason = cc in forms_fail bytes first (second ∷ others) due first_can here ∙ ap (rejected (length before + 1)) same

  -- What doesn't fail leads on.
  upper_left : form_failure before l ≡ None → AreFormsLeft bytes others
  upper_left none =
      let two = passes (may_follow before (Some l)) second.holds second.reason none in
      forms_past bytes (first ∷ second ∷ []) others (two.0, (two.1, tt)) (first_can, (second_can, tt)) here

  pub upper_on : form_failure before l ≡ None → is_conflicts (Some l) ≡ false → AtUpper bytes more (before ++ Some l ∷ []) line.next
  upper_on none other = record {
    read = line.read;
    left = subst (λ b. AreFormsLeft bytes (cond b [] (upper_from form_check (before ++ Some l ∷ []) (read_lines line.next)) ++ later_forms (read_lines bytes))) other (upper_left none);
    at =
        (let place : position_or_len is_conflicts (read_lines rest) ≡ 1 + position_or_len is_conflicts (read_lines line.next) =
        ap (position_or_len is_conflicts) line.lines_are ∙ ap (λ b. cond (not b) (1 + position_or_len is_conflicts (read_lines line.next)) 0) other in
        let a = at.at in omega (arith, a, place, length_push before (Some l)));
  }

  -- Behind the conflicts line the rows are left.
  pub upper_done : (n : ℕ) → l ≡ of.Conflicts n → form_failure before l ≡ None → (conflicts_line (read_lines bytes) ≡ length before + 1) × AreFormsLeft bytes (lower_forms (read_lines bytes) (length before + 1) n)
  upper_done n is none =
      let other : is_conflicts (Some l) ≡ true = ap (λ k. is_conflicts (Some k)) is in
      let place : position_or_len is_conflicts (read_lines rest) ≡ 0 =
      ap (position_or_len is_conflicts) line.lines_are ∙ ap (λ b. cond (not b) (1 + position_or_len is_conflicts (read_lines line.next)) 0) other in
      let there : conflicts_line (read_lines bytes) ≡ length before + 1 = (let a = at.at in omega (arith, a, place)) in
      let tells : announced (line_at (read_lines bytes) (length before + 1)) ≡ n = ap announced line.line_is ∙ ap (λ k. announced (Some k)) is in
      let left = subst (λ b. AreFormsLeft bytes (cond b [] (upper_from form_check (before ++ Some l ∷ []) (read_lines line.next)) ++ later_forms (read_lines bytes))) other (upper_left none) in
      let at_line = subst (λ k. AreFormsLeft bytes (lower_forms (read_lines bytes) k (announced (line_at (read_lines bytes) k)))) there left in
      (there, subst (λ k. AreFormsLeft bytes (lower_forms (read_lines bytes) (length before + 1) k)) tells at_line)
