-- The rows of a certificate whose checks hold.
use Rattle.std.proofs.Common.{◌≡◌, ℕ, zero, suc, ◌+◌, ◌-◌, List, [], ◌∷◌, ◌++◌, length, take, drop, refl, sym, ap, subst, arith, Bool, true, false, not, cond, true≢false, Option, Some, None, ◌∙◌}
use Rattle.std.specs.Prelude.{option_and_then, slice_get, ⊤}
use Rattle.std.specs.List.{position_or_len}
use Rattle.std.proofs.Common.{drop_of_length-le}
use Rattle.std.proofs.lemmas.Bool.{leb-true}
use Rattle.longest_match.specs.Rows.{Row}
use Rattle.certificate.specs.declared.lines.CertLine.{CertLine}
use Rattle.certificate.specs.declared.lines.CertLine.TheVariants as of
use Rattle.certificate.specs.CertTexts.{Listed}
use Rattle.report.specs.declared.faults.Why.TheVariants as why
use Rattle.certificate_laws.specs.Checks.{Lines, line_at, is_conflicts, ContentCheck, may_follow, may_follow_at, is_row_line, is_end_line, end_checks}
use Rattle.certificate_laws.specs.Closures.{Closure, Pair}
use Rattle.certificate_laws.specs.Validity.{is_row_of, row_check, row_checks}
use Rattle.certificate_laws.specs.Checks.{row_of_line, certificate_rows}
use Rattle.certificate_laws.proofs.HoldLemmas.{AllHold-append}
use Rattle.certificate_laws.specs.inside.Holding.{AllHold}
use Rattle.certificate_laws.proofs.UpperLemmas.{both_checks, upper_from}

-- ---- above the conflicts

due_row : (before : Lines) (n : ℕ) (r : Row) → may_follow_at before n (Some (of.Row r)) ≡ true → ⊥
due_row before zero r e = true≢false (sym e)
due_row before (suc zero) r e = true≢false (sym e)
due_row before (suc (suc zero)) r e = true≢false (sym e)
due_row before (suc (suc (suc n))) r e = true≢false (sym e)

due_none : (before : Lines) (n : ℕ) → may_follow_at before n None ≡ true → ⊥
due_none before zero e = true≢false (sym e)
due_none before (suc zero) e = true≢false (sym e)
due_none before (suc (suc zero)) e = true≢false (sym e)
due_none before (suc (suc (suc n))) e = true≢false (sym e)

pub no_row : (before : Lines) (l : Option CertLine) → may_follow before l ≡ true → row_of_line l ≡ None
no_row before None e = refl
no_row before (Some (of.Head v)) e = refl
no_row before (Some (of.Entries n)) e = refl
no_row before (Some (of.States n)) e = refl
no_row before (Some (of.Distance s d)) e = refl
no_row before (Some (of.Run s t d)) e = refl
no_row before (Some (of.Conflicts n)) e = refl
no_row before (Some (of.Row r)) e = absurd (due_row before (length before) r e)
no_row before (Some of.End) e = refl

-- a line that is no row adds none
pub skip_line : (l : Option CertLine) (ls : Lines) → row_of_line l ≡ None → certificate_rows (l ∷ ls) ≡ certificate_rows ls
skip_line l ls e = rw e refl

-- No row stands before the conflicts, whose line is there.
pub upper_rows : (content : ContentCheck) (before ahead : Lines) → AllHold (upper_from content before ahead) → certificate_rows (take (position_or_len is_conflicts ahead + 1) ahead) ≡ []
upper_rows content before [] h = refl
upper_rows content before (l ∷ ls) h =
    by (is_conflicts l) refl (AllHold-append (both_checks content before l) _ h).1 (upper_rows content (before ++ l ∷ []) ls)
  where
    none : row_of_line l ≡ None
    none = no_row before l h.0

    by : (b : Bool) → is_conflicts l ≡ b → AllHold (cond b [] (upper_from content (before ++ l ∷ []) ls)) → (AllHold (upper_from content (before ++ l ∷ []) ls) → certificate_rows (take (position_or_len is_conflicts ls + 1) ls) ≡ []) →
        certificate_rows (take (cond (not b) (1 + position_or_len is_conflicts ls) 0 + 1) (l ∷ ls)) ≡ []
    by true is h' rest = skip_line l [] none
    by false is h' rest =
        let e : 1 + position_or_len is_conflicts ls + 1 ≡ suc (position_or_len is_conflicts ls + 1) = omega arith in
        ap (λ n. certificate_rows (take n (l ∷ ls))) e ∙ (skip_line l (take (position_or_len is_conflicts ls + 1) ls) none ∙ rest h')

-- ---- behind the conflicts

-- the rows are those of the pairs, one by one
abbrev pub AreRowsOf : Closure → List Listed → List Pair → List Row → Type 0
AreRowsOf closure all [] [] = ⊤
AreRowsOf closure all [] (r ∷ rs) = ⊥
AreRowsOf closure all (p ∷ ps) [] = ⊥
AreRowsOf closure all (p ∷ ps) (r ∷ rs) = (is_row_of closure all p (Some (of.Row r)) ≡ true) × AreRowsOf closure all ps rs

there : {A : Type 0} → (o : Option (Option A)) (x : A) → option_and_then (λ y. y) o ≡ Some x → o ≡ Some (Some x)
there None x e = absurd (true≢false cc)
there (Some None) x e = absurd (true≢false cc)
there (Some (Some y)) x e = ap (λ o. Some o) e

drop_at : (lines : Lines) (n : ℕ) (l : Option CertLine) → slice_get lines n ≡ Some l → drop n lines ≡ l ∷ drop (n + 1) lines
drop_at [] n l e = absurd (true≢false cc)
drop_at (x ∷ xs) zero l e = let same : x ≡ l = cc in ap (λ y. y ∷ xs) same
drop_at (x ∷ xs) (suc n) l e = let more : suc n + 1 ≡ suc (n + 1) = omega arith in drop_at xs n l e ∙ ap (λ k. l ∷ drop k (x ∷ xs)) (sym more)

-- The line of a number begins what is left behind the lines before it.
pub drop_line : (lines : Lines) (n : ℕ) (l : CertLine) → line_at lines (n + 1) ≡ Some l → drop n lines ≡ Some l ∷ drop (n + 1) lines
drop_line lines n l e =
    let less : n + 1 - 1 ≡ n = omega arith in
    drop_at lines n (Some l) (there (slice_get lines n) l (subst (λ k. option_and_then (λ y. y) (slice_get lines k) ≡ Some l) less e))

pub row_of : (o : Option CertLine) → is_row_line o ≡ true → (r : Row) × (o ≡ Some (of.Row r))
row_of None e = absurd (true≢false (sym e))
row_of (Some (of.Head v)) e = absurd (true≢false (sym e))
row_of (Some (of.Entries n)) e = absurd (true≢false (sym e))
row_of (Some (of.States n)) e = absurd (true≢false (sym e))
row_of (Some (of.Distance s d)) e = absurd (true≢false (sym e))
row_of (Some (of.Run s t d)) e = absurd (true≢false (sym e))
row_of (Some (of.Conflicts n)) e = absurd (true≢false (sym e))
row_of (Some (of.Row r)) e = (r, refl)
row_of (Some of.End) e = absurd (true≢false (sym e))

pub end_of : (o : Option CertLine) → is_end_line o ≡ true → o ≡ Some of.End
end_of None e = absurd (true≢false (sym e))
end_of (Some (of.Head v)) e = absurd (true≢false (sym e))
end_of (Some (of.Entries n)) e = absurd (true≢false (sym e))
end_of (Some (of.States n)) e = absurd (true≢false (sym e))
end_of (Some (of.Distance s d)) e = absurd (true≢false (sym e))
end_of (Some (of.Run s t d)) e = absurd (true≢false (sym e))
end_of (Some (of.Conflicts n)) e = absurd (true≢false (sym e))
end_of (Some (of.Row r)) e = absurd (true≢false (sym e))
end_of (Some of.End) e = refl

ended : (lines : Lines) (n : ℕ) → AllHold (end_checks lines n) → certificate_rows (drop n lines) ≡ []
ended lines n h =
    let is = end_of (line_at lines (n + 1)) h.0 in
    let short = leb-true (length lines) (n + 1) h.1.0 in
    ap certificate_rows (drop_line lines n of.End is) ∙ ap certificate_rows (drop_of_length-le lines {i = n + 1} short)

-- The rows behind the line `at` are those of the pairs.
pub rows_behind : (closure : Closure) (all : List Listed) (lines : Lines) (at : ℕ) (pairs : List Pair) → AllHold (row_checks closure all lines at pairs) → AllHold (end_checks lines (at + length pairs)) →
    AreRowsOf closure all pairs (certificate_rows (drop at lines))
rows_behind closure all lines at [] h e =
    let same : at + 0 ≡ at = omega arith in
    subst (AreRowsOf closure all []) (sym (ended lines at (subst (λ n. AllHold (end_checks lines n)) same e))) tt
rows_behind closure all lines at (p ∷ ps) h e =
    let parts = AllHold-append (row_check closure all lines (at + 1, p)) (row_checks closure all lines (at + 1) ps) h in
    let more : at + suc (length ps) ≡ at + 1 + length ps = omega arith in
    let r = row_of (line_at lines (at + 1)) parts.0.0 in
    let rest = rows_behind closure all lines (at + 1) ps parts.1 (subst (λ n. AllHold (end_checks lines n)) more e) in
    subst (AreRowsOf closure all (p ∷ ps)) (sym (ap certificate_rows (drop_line lines at (of.Row r.0) r.1))) (subst (λ o. is_row_of closure all p o ≡ true) r.1 parts.0.1.0, rest)
