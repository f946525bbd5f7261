-- From the checks that are left to the outcome.
use Rattle.std.proofs.Common.{◌≡◌, ℕ, zero, suc, ◌+◌, ◌-◌, List, [], ◌∷◌, ◌++◌, length, take, refl, sym, ap, subst, arith, Bool, true, false, not, cond, true≢false, ◌∙◌, append_assoc}
use Rattle.std.specs.Prelude.{◌&&◌, nat_le, Option, Some, None}
use Rattle.std.specs.List.{position_or_len, AllByRecursion}
use Rattle.std.proofs.Math.Seq.{take-append_seam}
use Rattle.std.proofs.lemmas.Bool.{leb-true}
use Rattle.std.proofs.lemmas.List.{length_push}
use Rattle.certificate.specs.declared.lines.CertLine.{CertLine}
use Rattle.certificate.specs.declared.lines.CertLine.TheVariants as of
use Rattle.cert_check.specs.Verdicts.{IsFaultOf}
use Rattle.cert_check.specs.inside.Left.{FailsWith, AreLeft}
use Rattle.cert_check.specs.Reading.{IsReadTo}
use Rattle.cert_check.specs.inside.Uppers.{line_failure, Represents, IsUpperRead}
use Rattle.certificate.specs.CertReading.{read_lines}
use Rattle.certificate.specs.Readers.{certificate_limit}
use Rattle.certificate_laws.proofs.UpperLemmas.{first_of, both_checks, upper_from, upper_checks-from, line_after}
use Rattle.certificate_laws.specs.Checks.{Lines, Check, at_line, line_at, is_conflicts, conflicts_line, upper_lines, listed_in, may_follow, may_follow_at, announced, end_checks, rejected, too_long, readable_lines, can_be_made, check_passes, first_failure, outcome_by, outcome_of}
use Rattle.certificate_laws.specs.Closures.{Closure}
use Rattle.certificate_laws.specs.Validity.{content_check, listing_checks, row_checks, listed_pairs, check_outcome}
use Rattle.certificate_laws.specs.inside.Holding.{AllHold}
use Rattle.report.specs.declared.faults.Why.{Why}
use Rattle.report.specs.declared.faults.Why.TheVariants as why
use Rattle.cert_check.specs.declared.faults.CheckFault.{CheckFault}
use Rattle.cert_check.specs.declared.faults.CheckFault.TheVariants as fault
use Rattle.cert_check.specs.declared.upper.Upper.{Upper}
use Rattle.certificate_laws.proofs.HoldLemmas.{both_back}
use Rattle.std.proofs.Math.Bool.{and-false}
use Rattle.cert_check.proofs.ReadLemmas.{Missing, bad, long, failed, memory, reached}

-- each of these checks can be made
abbrev pub AllReached : Option ℕ → List Check → Type 0
AllReached most checks = AllByRecursion (λ c. can_be_made most c ≡ true) checks

pub AllReached-append : (most : Option ℕ) (xs ys : List Check) → AllReached most (xs ++ ys) → AllReached most xs × AllReached most ys
AllReached-append most [] ys h = (tt, h)
AllReached-append most (x ∷ xs) ys h = let rest = AllReached-append most xs ys h.1 in ((h.0, rest.0), rest.1)

-- What holds is passed.
pub first_past : (most : Option ℕ) (checks rest : List Check) → AllHold checks → AllReached most checks → first_failure most (checks ++ rest) ≡ first_failure most rest
first_past most [] rest h r = refl
first_past most (c ∷ cs) rest h r = ap (λ b. cond (not b) (Some c) (first_failure most (cs ++ rest))) (both_back c.holds (can_be_made most c) h.0 r.0) ∙ first_past most cs rest h.1 r.1

-- the outcome where the first of the checks isn't passed
stops : (most : Option ℕ) (n : ℕ) (c : Check) (rest : List Check) → check_passes most c ≡ false → outcome_by most n (first_failure most (c ∷ rest)) ≡ cond (can_be_made most c) (rejected c.line c.reason) too_long
stops most n c rest e = ap (λ b. outcome_by most n (cond (not b) (Some c) (first_failure most rest))) e

fails_passes : (most : Option ℕ) (c : Check) → c.holds ≡ false → check_passes most c ≡ false
fails_passes most c e = ap (λ b. b && can_be_made most c) e

pub stops_failing : (most : Option ℕ) (n : ℕ) (c : Check) (rest : List Check) → c.holds ≡ false → can_be_made most c ≡ true → outcome_by most n (first_failure most (c ∷ rest)) ≡ rejected c.line c.reason
stops_failing most n c rest fails can = stops most n c rest (fails_passes most c fails) ∙ ap (λ b. cond b (rejected c.line c.reason) too_long) can

pub stops_far : (most : Option ℕ) (n : ℕ) (c : Check) (rest : List Check) → can_be_made most c ≡ false → outcome_by most n (first_failure most (c ∷ rest)) ≡ too_long
stops_far most n c rest far = stops most n c rest (ap (λ b. c.holds && b) far ∙ and-false c.holds) ∙ ap (λ b. cond b (rejected c.line c.reason) too_long) far

-- Where checks that can be made hold, those behind them are left.
pub left_past : (closure : Closure) (bytes : List ℕ) (checks rest : List Check) → AllHold checks → AllReached (readable_lines certificate_limit bytes) checks → AreLeft closure bytes (checks ++ rest) → AreLeft closure bytes rest
left_past closure bytes checks rest h r left = left ∙ ap (outcome_by (readable_lines certificate_limit bytes) (announced (line_at (read_lines bytes) (conflicts_line (read_lines bytes))))) (first_past (readable_lines certificate_limit bytes) checks rest h r)

-- Where one fails the outcome is its line and its reason.
pub left_fails : (closure : Closure) (bytes : List ℕ) (checks rest : List Check) (line : ℕ) (reason : Why) → FailsWith line reason checks → AllReached (readable_lines certificate_limit bytes) checks → AreLeft closure bytes (checks ++ rest) →
    check_outcome closure bytes ≡ rejected line reason
left_fails closure bytes checks rest line reason f r left =
    let most = readable_lines certificate_limit bytes in
    let n = announced (line_at (read_lines bytes) (conflicts_line (read_lines bytes))) in
    let parts = AllReached-append most f.before (f.check ∷ f.after) (subst (AllReached most) f.split r) in
    let e : checks ++ rest ≡ f.before ++ (f.check ∷ (f.after ++ rest)) = ap (λ cs. cs ++ rest) f.split ∙ append_assoc f.before (f.check ∷ f.after) rest in
    left
    ∙ (ap (λ cs. outcome_by most n (first_failure most cs)) e
    ∙ (ap (outcome_by most n) (first_past most f.before (f.check ∷ (f.after ++ rest)) f.hold parts.0)
    ∙ (stops_failing most n f.check (f.after ++ rest) f.fails parts.1.0
    ∙ (ap (λ k. rejected k f.check.reason) f.tells_line ∙ ap (rejected line) f.tells_reason))))

-- ---- a line that isn't there

-- Where a line is due that isn't there or is none, the first check that is left fails, and the fault says so.
pub left_missing : (closure : Closure) (bytes : List ℕ) (before : Lines) (ahead : List ℕ) (holds : Bool) (rest : List Check) (f : CheckFault) → Missing certificate_limit bytes before ahead f →
    (first_of (read_lines ahead) ≡ None → holds ≡ false) → AreLeft closure bytes (at_line (length before + 1) why.Form holds ∷ rest) → IsFaultOf (check_outcome closure bytes) f
left_missing closure bytes before ahead holds rest _ (bad n is none) fails left =
    left ∙ (stops_failing (readable_lines certificate_limit bytes) (announced (line_at (read_lines bytes) (conflicts_line (read_lines bytes)))) (at_line (length before + 1) why.Form holds) rest (fails none.none) (none.can (at_line (length before + 1) why.Form holds) refl)
    ∙ ap (λ k. rejected k why.Form) (sym is))
left_missing closure bytes before ahead holds rest _ (long most) fails left =
    left ∙ stops_far (readable_lines certificate_limit bytes) (announced (line_at (read_lines bytes) (conflicts_line (read_lines bytes)))) (at_line (length before + 1) why.Form holds) rest
    (ap (λ o. can_be_made o (at_line (length before + 1) why.Form holds)) most ∙ past (length before))
  where
    past : (n : ℕ) → nat_le (n + 1) n ≡ false
    past n = by (nat_le (n + 1) n) refl
      where
        by : (b : Bool) → nat_le (n + 1) n ≡ b → b ≡ false
        by true e = absurd (let l = leb-true (n + 1) n e in omega (arith, l))
        by false e = refl
left_missing closure bytes before ahead holds rest _ failed fails left = tt
left_missing closure bytes before ahead holds rest _ memory fails left = tt

-- ---- the upper_lines lines

pub no_line_due : (before : Lines) → may_follow before None ≡ false
no_line_due before = by (length before)
  where
    by : (n : ℕ) → may_follow_at before n None ≡ false
    by zero = refl
    by (suc zero) = refl
    by (suc (suc zero)) = refl
    by (suc (suc (suc n))) = refl

-- the checks that follow the upper_lines ones
abbrev pub later_checks : Closure → Lines → List Check
later_checks closure lines =
    listing_checks closure closure.targets (conflicts_line lines) (upper_lines lines) (announced (line_at lines (conflicts_line lines)))
    ++ (row_checks closure (listed_in (upper_lines lines)) lines (conflicts_line lines) (listed_pairs closure (listed_in (upper_lines lines)))
    ++ end_checks lines (conflicts_line lines + length (listed_pairs closure (listed_in (upper_lines lines)))))

-- What is known behind some lines above the conflicts.
pub record AtUpper (closure : Closure) (given : ℕ) (bytes : List ℕ) (before : Lines) (ahead : List ℕ) : Type 0 where
  pub read : IsReadTo certificate_limit given bytes before ahead
  pub left : AreLeft closure bytes (upper_from (content_check closure) before (read_lines ahead) ++ later_checks closure (read_lines bytes))
  pub at : conflicts_line (read_lines bytes) ≡ length before + position_or_len is_conflicts (read_lines ahead) + 1

pub at_begin : (closure : Closure) (bytes : List ℕ) → IsReadTo certificate_limit 0 bytes [] bytes → AtUpper closure 0 bytes [] bytes
at_begin closure bytes read = record {
  read = read;
  left = ap (λ cs. outcome_of (readable_lines certificate_limit bytes) (read_lines bytes) (cs ++ later_checks closure (read_lines bytes))) (upper_checks-from (content_check closure) (read_lines bytes));
  at = omega arith;
}

-- the checks of the lines behind the next one, up to the conflicts
abbrev rest_after : Closure → Lines → Lines → List Check
rest_after closure before [] = []
rest_after closure before (l ∷ ls) = cond (is_conflicts l) [] (upper_from (content_check closure) (before ++ l ∷ []) ls)

first_check : (closure : Closure) (before ls : Lines) (later : List Check) →
    upper_from (content_check closure) before ls ++ later ≡ at_line (length before + 1) why.Form (may_follow before (first_of ls)) ∷ (content_check closure before (length before + 1) (first_of ls) ∷ (rest_after closure before ls ++ later))
first_check closure before [] later = refl
first_check closure before (l ∷ ls) later = refl

-- A line that isn't there is rejected.
pub upper_missing : (closure : Closure) (given : ℕ) (bytes : List ℕ) (before : Lines) (ahead : List ℕ) (f : CheckFault) → AtUpper closure given bytes before ahead → Missing certificate_limit bytes before ahead f → IsFaultOf (check_outcome closure bytes) f
upper_missing closure given bytes before ahead f at missing =
    left_missing closure bytes before ahead (may_follow before (first_of (read_lines ahead))) (content_check closure before (length before + 1) (first_of (read_lines ahead)) ∷ (rest_after closure before (read_lines ahead) ++ later_checks closure (read_lines bytes))) f missing (λ none. ap (may_follow before) none ∙ no_line_due before)
    (subst (AreLeft closure bytes) (first_check closure before (read_lines ahead) (later_checks closure (read_lines bytes))) at.left)

-- what is said of a line reads no further than that line
right_reads : (closure : Closure) (before : Lines) (n : ℕ) (o : Option CertLine) → (content_check closure before n o).reads ≡ n
right_reads closure before n None = refl
right_reads closure before n (Some (of.Head v)) = refl
right_reads closure before n (Some (of.Entries k)) = refl
right_reads closure before n (Some (of.States k)) = refl
right_reads closure before n (Some (of.Distance s d)) = refl
right_reads closure before n (Some (of.Run s t d)) = refl
right_reads closure before n (Some (of.Conflicts k)) = refl
right_reads closure before n (Some (of.Row r)) = refl
right_reads closure before n (Some of.End) = refl

right_line : (closure : Closure) (before : Lines) (n : ℕ) (o : Option CertLine) → (content_check closure before n o).line ≡ n
right_line closure before n None = refl
right_line closure before n (Some (of.Head v)) = refl
right_line closure before n (Some (of.Entries k)) = refl
right_line closure before n (Some (of.States k)) = refl
right_line closure before n (Some (of.Distance s d)) = refl
right_line closure before n (Some (of.Run s t d)) = refl
right_line closure before n (Some (of.Conflicts k)) = refl
right_line closure before n (Some (of.Row r)) = refl
right_line closure before n (Some of.End) = refl

-- the two checks of a line, by what is answered to it
both_fail : (closure : Closure) (before : Lines) (l : CertLine) (reason : Why) → Some reason ≡ line_failure closure before l → FailsWith (length before + 1) reason (both_checks (content_check closure) before (Some l))
both_fail closure before l reason e = by (may_follow before (Some l)) refl ((content_check closure before (length before + 1) (Some l)).holds) refl e
  where
    by : (b : Bool) → may_follow before (Some l) ≡ b → (c : Bool) → (content_check closure before (length before + 1) (Some l)).holds ≡ c →
        Some reason ≡ cond b (cond c None (Some (content_check closure before (length before + 1) (Some l)).reason)) (Some why.Form) → FailsWith (length before + 1) reason (both_checks (content_check closure) before (Some l))
    by true due true is e' = absurd (true≢false cc)
    by true due false is e' = record {
      before = at_line (length before + 1) why.Form (may_follow before (Some l)) ∷ [];
      check = content_check closure before (length before + 1) (Some l);
      after = [];
      split = refl;
      hold = (due, tt);
      fails = is;
      tells_line = right_line closure before (length before + 1) (Some l);
      tells_reason = (let same : reason ≡ (content_check closure before (length before + 1) (Some l)).reason = cc in sym same);
    }
    by false due c is e' = record {
      before = [];
      check = at_line (length before + 1) why.Form (may_follow before (Some l));
      after = content_check closure before (length before + 1) (Some l) ∷ [];
      split = refl;
      hold = tt;
      fails = due;
      tells_line = refl;
      tells_reason = (let same : reason ≡ why.Form = cc in sym same);
    }

both_hold : (closure : Closure) (before : Lines) (l : CertLine) → None ≡ line_failure closure before l → AllHold (both_checks (content_check closure) before (Some l))
both_hold closure before l e = by (may_follow before (Some l)) refl ((content_check closure before (length before + 1) (Some l)).holds) refl e
  where
    by : (b : Bool) → may_follow before (Some l) ≡ b → (c : Bool) → (content_check closure before (length before + 1) (Some l)).holds ≡ c →
        None ≡ cond b (cond c None (Some (content_check closure before (length before + 1) (Some l)).reason)) (Some why.Form) → AllHold (both_checks (content_check closure) before (Some l))
    by true due true is e' = (due, (is, tt))
    by true due false is e' = absurd (true≢false cc)
    by false due c is e' = absurd (true≢false cc)

-- Behind one more line what was made of it could be made.
both_reached : (closure : Closure) (given : ℕ) (bytes : List ℕ) (before : Lines) (l : CertLine) (rest : List ℕ) → IsReadTo certificate_limit given bytes (before ++ Some l ∷ []) rest → AllReached (readable_lines certificate_limit bytes) (both_checks (content_check closure) before (Some l))
both_reached closure given bytes before l rest read =
    let long : length (before ++ Some l ∷ []) ≡ length before + 1 = length_push before (Some l) in (
      reached certificate_limit given bytes (before ++ Some l ∷ []) rest (at_line (length before + 1) why.Form (may_follow before (Some l))) read (omega (arith, long)),
      (reached certificate_limit given bytes (before ++ Some l ∷ []) rest (content_check closure before (length before + 1) (Some l)) read (omega (arith, long, right_reads closure before (length before + 1) (Some l))), tt),
    )

-- the checks left before a line, with its two checks first
next_left : (closure : Closure) (given : ℕ) (bytes : List ℕ) (before : Lines) (l : CertLine) (ahead rest : List ℕ) → read_lines ahead ≡ Some l ∷ read_lines rest → AtUpper closure given bytes before ahead →
    AreLeft closure bytes (both_checks (content_check closure) before (Some l) ++ (cond (is_conflicts (Some l)) [] (upper_from (content_check closure) (before ++ Some l ∷ []) (read_lines rest)) ++ later_checks closure (read_lines bytes)))
next_left closure given bytes before l ahead rest is at = subst (λ ls. AreLeft closure bytes (upper_from (content_check closure) before ls ++ later_checks closure (read_lines bytes))) is at.left

-- A line that fails is announced.
pub upper_fails : (closure : Closure) (given more : ℕ) (bytes : List ℕ) (before : Lines) (l : CertLine) (ahead rest : List ℕ) (reason : Why) → read_lines ahead ≡ Some l ∷ read_lines rest → AtUpper closure given bytes before ahead →
    IsReadTo certificate_limit more bytes (before ++ Some l ∷ []) rest → Some reason ≡ line_failure closure before l → check_outcome closure bytes ≡ rejected (length before + 1) reason
upper_fails closure given more bytes before l ahead rest reason is at read e =
    left_fails closure bytes (both_checks (content_check closure) before (Some l)) _ (length before + 1) reason (both_fail closure before l reason e) (both_reached closure more bytes before l rest read) (next_left closure given bytes before l ahead rest is at)

-- A line that is content_check leads on.
pub upper_on : (closure : Closure) (given more : ℕ) (bytes : List ℕ) (before : Lines) (l : CertLine) (ahead rest : List ℕ) → read_lines ahead ≡ Some l ∷ read_lines rest → AtUpper closure given bytes before ahead →
    IsReadTo certificate_limit more bytes (before ++ Some l ∷ []) rest → None ≡ line_failure closure before l → is_conflicts (Some l) ≡ false → AtUpper closure more bytes (before ++ Some l ∷ []) rest
upper_on closure given more bytes before l ahead rest is at read e other = record {
  read = read;
  left =
      (let passed = left_past closure bytes (both_checks (content_check closure) before (Some l)) _ (both_hold closure before l e) (both_reached closure more bytes before l rest read) (next_left closure given bytes before l ahead rest is at) in
      subst (λ b. AreLeft closure bytes (cond b [] (upper_from (content_check closure) (before ++ Some l ∷ []) (read_lines rest)) ++ later_checks closure (read_lines bytes))) other passed);
  at =
      (let place : position_or_len is_conflicts (read_lines ahead) ≡ 1 + position_or_len is_conflicts (read_lines rest) = ap (position_or_len is_conflicts) is ∙ ap (λ b. cond (not b) (1 + position_or_len is_conflicts (read_lines rest)) 0) other in
      let a = at.at in omega (arith, a, place, length_push before (Some l)));
}

-- The conflicts line is content_check: the checks of the listing are left.
pub upper_done : (closure : Closure) (given more n : ℕ) (bytes : List ℕ) (before : Lines) (ahead rest : List ℕ) (u : Upper) → read_lines ahead ≡ Some (of.Conflicts n) ∷ read_lines rest → AtUpper closure given bytes before ahead →
    IsReadTo certificate_limit more bytes (before ++ Some (of.Conflicts n) ∷ []) rest → None ≡ line_failure closure before (of.Conflicts n) → Represents u before → IsUpperRead closure bytes more u n (Some rest)
upper_done closure given more n bytes before ahead rest u is at read e represents =
    let lines = read_lines bytes in
    let whole : lines ≡ before ++ Some (of.Conflicts n) ∷ read_lines rest = at.read.split ∙ ap (λ ls. before ++ ls) is in
    let place : position_or_len is_conflicts (read_lines ahead) ≡ 0 = ap (position_or_len is_conflicts) is in
    let here : conflicts_line lines ≡ length before + 1 = (let a = at.at in omega (arith, a, place)) in
    let less : length before + 1 - 1 ≡ length before = omega arith in
    let above : upper_lines lines ≡ before = ap (λ k. take (k - 1) lines) here ∙ (ap (λ k. take k lines) less ∙ (ap (take (length before)) whole ∙ take-append_seam before (Some (of.Conflicts n) ∷ read_lines rest))) in
    let tells : announced (line_at lines (conflicts_line lines)) ≡ n =
    ap (λ k. announced (line_at lines k)) here ∙ (ap (λ ls. announced (line_at ls (length before + 1))) whole ∙ ap announced (line_after before (Some (of.Conflicts n) ∷ read_lines rest))) in
    let passed = left_past closure bytes (both_checks (content_check closure) before (Some (of.Conflicts n))) (later_checks closure lines) (both_hold closure before (of.Conflicts n) e) (both_reached closure more bytes before (of.Conflicts n) rest read)
    (next_left closure given bytes before (of.Conflicts n) ahead rest is at) in
    record {
      rest = rest;
      is_ahead = refl;
      before = before;
      represents = represents;
      read = read;
      at = here;
      above = above;
      tells = tells;
      left = passed ∙ ap (outcome_of (readable_lines certificate_limit bytes) lines) (same_checks closure lines (conflicts_line lines) (length before + 1) (upper_lines lines) before (announced (line_at lines (conflicts_line lines))) n here above tells);
    }
  where
    same_checks : (closure : Closure) (lines : Lines) (at here : ℕ) (above before : Lines) (t n : ℕ) → at ≡ here → above ≡ before → t ≡ n →
        listing_checks closure closure.targets at above t ++ (row_checks closure (listed_in above) lines at (listed_pairs closure (listed_in above)) ++ end_checks lines (at + length (listed_pairs closure (listed_in above))))
        ≡ listing_checks closure closure.targets here before n ++ (row_checks closure (listed_in before) lines here (listed_pairs closure (listed_in before)) ++ end_checks lines (here + length (listed_pairs closure (listed_in before))))
    same_checks closure lines at here above before t n a b c =
        ap (λ k. listing_checks closure closure.targets k above t ++ (row_checks closure (listed_in above) lines k (listed_pairs closure (listed_in above)) ++ end_checks lines (k + length (listed_pairs closure (listed_in above))))) a
        ∙ (ap (λ ls. listing_checks closure closure.targets here ls t ++ (row_checks closure (listed_in ls) lines here (listed_pairs closure (listed_in ls)) ++ end_checks lines (here + length (listed_pairs closure (listed_in ls))))) b
        ∙ ap (λ k. listing_checks closure closure.targets here before k ++ (row_checks closure (listed_in before) lines here (listed_pairs closure (listed_in before)) ++ end_checks lines (here + length (listed_pairs closure (listed_in before))))) c)
