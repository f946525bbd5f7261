-- The loop over the rows, and the end.
use Rattle.std.proofs.Common.{◌≡◌, ℕ, zero, suc, ◌+◌, ◌-◌, ◌<◌, ◌≤◌, List, [], ◌∷◌, ◌++◌, length, drop, refl, sym, ap, subst, arith, Bool, true, false, ◌∙◌, Option, Some, None, inl, inr, ◌⊎◌}
use Rattle.std.specs.Prelude.{IfSome, nat_le}
use Rattle.std.specs.Io.KnownBytes.{prepend_known}
use Rattle.std.proofs.lemmas.Bool.{le-leb}
use Rattle.std.proofs.lemmas.List.{length_push, length-append}
use Rattle.longest_match.specs.Rows.{Row}
use Rattle.certificate.specs.declared.lines.CertLine.{CertLine}
use Rattle.certificate.specs.declared.lines.CertLine.TheVariants as of
use Rattle.cert_check.specs.Verdicts.{IsFaultOf}
use Rattle.cert_check.specs.inside.Founds.{AreFound, AtRows, HasNoFarRow}
use Rattle.cert_check.specs.inside.Left.{AreLeft}
use Rattle.cert_check.specs.Reading.{IsReadTo, BeginsWithout}
use Rattle.cert_check.specs.inside.RowAnswers.{IsRowTest}
use Rattle.certificate.specs.CertLines.{line_text, fits}
use Rattle.certificate.specs.CertReading.{read_lines}
use Rattle.certificate.specs.CertTexts.{Listed}
use Rattle.certificate.specs.Readers.{ReaderView, OnlyTakes, ahead, BeginsBad, BeginsLong, certificate_limit, GivesLine, IsLineAnswer, IsLineFault, room}
use Rattle.certificate.specs.declared.faults.CertFault.{CertFault}
use Rattle.certificate.specs.declared.faults.CertFault.TheVariants as why_not
use Rattle.certificate_laws.proofs.UpperLemmas.{first_of, line_after}
use Rattle.certificate_laws.specs.Checks.{Lines, Check, at_line, line_at, is_row_line, is_end_line, end_checks, rejected, too_long, readable_lines, can_be_made, announced, conflicts_line}
use Rattle.certificate_laws.specs.Closures.{Closure, Pair, closure_of}
use Rattle.certificate_laws.specs.Validity.{hit_distances, is_least_of, is_row_of, row_check, row_checks, check_outcome}
use Rattle.certificate.proofs.FirstLines.{read_lines-line, read_lines-bad}
use Rattle.report.specs.declared.faults.Why.TheVariants as why
use Rattle.cert_check.specs.declared.faults.CheckFault.{CheckFault}
use Rattle.cert_check.specs.declared.faults.CheckFault.TheVariants as fault
use Rattle.cert_check.specs.declared.founds.Found.{Found}
use Rattle.cert_check.proofs.ReadLemmas.{no_line, long_line, read_next, read_to_end, missing, reached, Missing}
use Rattle.cert_check.proofs.StageLemmas.{stops_far, left_past, left_missing, stops_failing}
use Rattle.std.proofs.Common.{drop_of_length-le, get_or}
use Rattle.outside.specs.Files.{FilesView}
use Rattle.certificate.proofs.Passing.{takes_same}
use Rattle.cert_check.proofs.UpperLoop.{next_rest, if_some, takes_on}
use Rattle.cert_check.proofs.AnswerLemmas.{no_le}

-- the line behind those that were read
pub line_next : (bytes : List ℕ) (given n : ℕ) (before : Lines) (rest : List ℕ) → IsReadTo certificate_limit given bytes before rest → length before ≡ n → line_at (read_lines bytes) (n + 1) ≡ first_of (read_lines rest)
line_next bytes given n before rest read count = ap (λ k. line_at (read_lines bytes) (k + 1)) (sym count) ∙ (ap (λ ls. line_at ls (length before + 1)) read.split ∙ line_after before (read_lines rest))

-- what is known of the line of a row
pub record NextRow (closure : Closure) (all : List Listed) (bytes : List ℕ) (more n : ℕ) (p : Pair) (ps : List Pair) (f : Found) (fs : List Found) (l : CertLine) (now : Option (List ℕ)) : Type 0 where
  pub next : List ℕ
  pub is_ahead : now ≡ Some next
  pub before : Lines
  pub count : length before ≡ n
  pub read : IsReadTo certificate_limit more bytes (before ++ Some l ∷ []) next
  pub found : (f.entry ≡ p.entry) × (f.place ≡ p.place) × (is_least_of f.distance (hit_distances closure all p) ≡ true) × AreFound closure all ps fs
  pub near : HasNoFarRow closure all
  pub line_is : line_at (read_lines bytes) (n + 1) ≡ Some l
  pub left : AreLeft closure bytes (row_checks closure all (read_lines bytes) n (p ∷ ps) ++ end_checks (read_lines bytes) (n + suc (length ps)))

pub next_row : (closure : Closure) (all : List Listed) (bytes : List ℕ) (given more n : ℕ) (f : Found) (fs : List Found) (l : CertLine) (here now : Option (List ℕ)) → AtRows closure all bytes given n (f ∷ fs) here → here ≡ prepend_known (line_text l) now → fits l ≡ true →
    more ≡ given + length (line_text l) → more ≤ 4294967296 → (p : Pair) × (ps : List Pair) × NextRow closure all bytes more n p ps f fs l now
next_row closure all bytes given more n f fs l here now at line fit is within = by at.pairs at.are at.left
  where
    by : (pairs : List Pair) → AreFound closure all pairs (f ∷ fs) → AreLeft closure bytes (row_checks closure all (read_lines bytes) n pairs ++ end_checks (read_lines bytes) (n + length pairs)) → (p : Pair) × (ps : List Pair) × NextRow closure all bytes more n p ps f fs l now
    by [] are left = absurd are
    by (p ∷ ps) are left =
        let r = next_rest here now (line_text l) at.rest at.is_ahead line in
        let lines = ap read_lines r.2 ∙ read_lines-line l r.0 fit in (
          p,
          ps,
          record {
            next = r.0;
            is_ahead = r.1;
            before = at.before;
            count = at.count;
            read =
                subst (λ k. IsReadTo certificate_limit k bytes (at.before ++ Some l ∷ []) r.0) (sym is)
                (read_next certificate_limit given bytes at.before l r.0 fit (subst (λ k. k ≤ certificate_limit) is within) (subst (IsReadTo certificate_limit given bytes at.before) r.2 at.read));
            found = are;
            near = at.near;
            line_is = line_next bytes given n at.before at.rest at.read at.count ∙ ap first_of lines;
            left = left;
          },
        )

reached_row : (bytes : List ℕ) (more n : ℕ) (before : Lines) (l : CertLine) (next : List ℕ) (c : Check) → IsReadTo certificate_limit more bytes (before ++ Some l ∷ []) next → length before ≡ n → c.reads ≡ n + 1 → can_be_made (readable_lines certificate_limit bytes) c ≡ true
reached_row bytes more n before l next c read count reads = reached certificate_limit more bytes (before ++ Some l ∷ []) next c read (omega (arith, length_push before (Some l), count, reads))

pair_of : (p : Pair) (e j : ℕ) → e ≡ p.entry → j ≡ p.place → record { entry = e; place = j } ≡ p
pair_of p e j same_entry same_place = ap (λ k. record { entry = k; place = j }) same_entry ∙ ap (λ k. record { entry = p.entry; place = k }) same_place

-- The row is content_check.
pub row_on : (closure : Closure) (all : List Listed) (bytes : List ℕ) (more n : ℕ) (p : Pair) (ps : List Pair) (f : Found) (fs : List Found) (l : CertLine) (row : Row) (now : Option (List ℕ)) → NextRow closure all bytes more n p ps f fs l now →
    l ≡ of.Row row → (answer : Bool) → answer ≡ true → answer ≡ is_row_of closure all (record { entry = f.entry; place = f.place }) (Some (of.Row row)) → AtRows closure all bytes more (n + 1) fs now
row_on closure all bytes more n p ps f fs l row now h is answer right_is test =
    let lines = read_lines bytes in
    let here = h.line_is ∙ ap (λ k. Some k) is in
    let same = pair_of p f.entry f.place h.found.0 h.found.1 in
    let content_check : is_row_of closure all p (line_at lines (n + 1)) ≡ true = ap (is_row_of closure all p) here ∙ (ap (λ q. is_row_of closure all q (Some (of.Row row))) (sym same) ∙ (sym test ∙ right_is)) in
    let form : is_row_line (line_at lines (n + 1)) ≡ true = ap is_row_line here in
    let c1 = at_line (n + 1) why.Form (is_row_line (line_at lines (n + 1))) in
    let c2 = at_line (n + 1) why.Row (is_row_of closure all p (line_at lines (n + 1))) in
    let more_is : n + suc (length ps) ≡ n + 1 + length ps = omega arith in
    record {
      rest = h.next;
      is_ahead = h.is_ahead;
      before = h.before ++ Some l ∷ [];
      count = length_push h.before (Some l) ∙ ap (λ k. k + 1) h.count;
      read = h.read;
      pairs = ps;
      are = h.found.3;
      near = h.near;
      left =
          subst (λ k. AreLeft closure bytes (row_checks closure all lines (n + 1) ps ++ end_checks lines k)) more_is
          (left_past closure bytes (row_check closure all lines (n + 1, p)) (row_checks closure all lines (n + 1) ps ++ end_checks lines (n + suc (length ps))) (form, (content_check, tt))
          (reached_row bytes more n h.before l h.next c1 h.read h.count refl, (reached_row bytes more n h.before l h.next c2 h.read h.count refl, tt)) h.left);
    }

-- The row is wrong.
pub row_wrong : (closure : Closure) (all : List Listed) (bytes : List ℕ) (more n k : ℕ) (p : Pair) (ps : List Pair) (f : Found) (fs : List Found) (l : CertLine) (row : Row) (now : Option (List ℕ)) → NextRow closure all bytes more n p ps f fs l now →
    l ≡ of.Row row → (answer : Bool) → answer ≡ false → answer ≡ is_row_of closure all (record { entry = f.entry; place = f.place }) (Some (of.Row row)) → k ≡ n + 1 → check_outcome closure bytes ≡ rejected k why.Row
row_wrong closure all bytes more n k p ps f fs l row now h is answer wrong_is test at =
    let lines = read_lines bytes in
    let here = h.line_is ∙ ap (λ k. Some k) is in
    let same = pair_of p f.entry f.place h.found.0 h.found.1 in
    let wrong : is_row_of closure all p (line_at lines (n + 1)) ≡ false = ap (is_row_of closure all p) here ∙ (ap (λ q. is_row_of closure all q (Some (of.Row row))) (sym same) ∙ (sym test ∙ wrong_is)) in
    let c1 = at_line (n + 1) why.Form (is_row_line (line_at lines (n + 1))) in
    let c2 = at_line (n + 1) why.Row (is_row_of closure all p (line_at lines (n + 1))) in
    left_past closure bytes (c1 ∷ []) (c2 ∷ (row_checks closure all lines (n + 1) ps ++ end_checks lines (n + suc (length ps)))) (ap is_row_line here, tt) (reached_row bytes more n h.before l h.next c1 h.read h.count refl, tt) h.left
    ∙ (stops_failing (readable_lines certificate_limit bytes) (announced (line_at lines (conflicts_line lines))) c2 (row_checks closure all lines (n + 1) ps ++ end_checks lines (n + suc (length ps))) wrong (reached_row bytes more n h.before l h.next c2 h.read h.count refl)
    ∙ ap (λ k. rejected k why.Row) (sym at))

pub no_row : (l : CertLine) → ((r : Row) → l ≡ of.Row r → ⊥) → is_row_line (Some l) ≡ false
no_row (of.Head v) h = refl
no_row (of.Entries k) h = refl
no_row (of.States k) h = refl
no_row (of.Distance s d) h = refl
no_row (of.Run s t d) h = refl
no_row (of.Conflicts n) h = refl
no_row (of.Row r) h = absurd (h r refl)
no_row of.End h = refl

-- The line is no row.
pub row_missing_form : (closure : Closure) (all : List Listed) (bytes : List ℕ) (more n k : ℕ) (p : Pair) (ps : List Pair) (f : Found) (fs : List Found) (l : CertLine) (now : Option (List ℕ)) → NextRow closure all bytes more n p ps f fs l now →
    ((r : Row) → l ≡ of.Row r → ⊥) → k ≡ n + 1 → check_outcome closure bytes ≡ rejected k why.Form
row_missing_form closure all bytes more n k p ps f fs l now h none at =
    let lines = read_lines bytes in
    let c1 = at_line (n + 1) why.Form (is_row_line (line_at lines (n + 1))) in
    h.left ∙ (stops_failing (readable_lines certificate_limit bytes) (announced (line_at lines (conflicts_line lines))) c1 (at_line (n + 1) why.Row (is_row_of closure all p (line_at lines (n + 1))) ∷ (row_checks closure all lines (n + 1) ps ++ end_checks lines (n + suc (length ps))))
    (ap is_row_line h.line_is ∙ no_row l none) (reached_row bytes more n h.before l h.next c1 h.read h.count refl)
    ∙ ap (λ k. rejected k why.Form) (sym at))

at_same : (closure : Closure) (bytes : List ℕ) (n m : ℕ) (holds : Bool) (rest : List Check) → n ≡ m → AreLeft closure bytes (at_line (n + 1) why.Form holds ∷ rest) → AreLeft closure bytes (at_line (m + 1) why.Form holds ∷ rest)
at_same closure bytes n m holds rest e left = subst (λ k. AreLeft closure bytes (at_line (k + 1) why.Form holds ∷ rest)) e left

-- No line comes where a row is due.
pub row_missing : (closure : Closure) (all : List Listed) (bytes : List ℕ) (given limit n : ℕ) (f : Found) (fs : List Found) (now : Option (List ℕ)) (x : CheckFault) → AtRows closure all bytes given n (f ∷ fs) now → limit ≡ 4294967296 →
    IfSome now (λ bytes. BeginsWithout (limit - given) n bytes x) → IsFaultOf (check_outcome closure bytes) x
row_missing closure all bytes given limit n f fs now x at is h = by at.pairs at.are at.left
  where
    miss : Missing certificate_limit bytes at.before at.rest x
    miss = missing certificate_limit given n bytes at.before at.rest x at.read (sym at.count) (subst (λ k. BeginsWithout (k - given) n at.rest x) is (if_some now at.rest (λ bytes. BeginsWithout (limit - given) n bytes x) at.is_ahead h))

    by : (pairs : List Pair) → AreFound closure all pairs (f ∷ fs) → AreLeft closure bytes (row_checks closure all (read_lines bytes) n pairs ++ end_checks (read_lines bytes) (n + length pairs)) → IsFaultOf (check_outcome closure bytes) x
    by [] are left = absurd are
    by (p ∷ ps) are left =
        left_missing closure bytes at.before at.rest (is_row_line (line_at (read_lines bytes) (n + 1))) (at_line (n + 1) why.Row (is_row_of closure all p (line_at (read_lines bytes) (n + 1))) ∷ (row_checks closure all (read_lines bytes) (n + 1) ps ++ end_checks (read_lines bytes) (n + suc (length ps)))) x miss
        (λ none. ap is_row_line (line_next bytes given n at.before at.rest at.read at.count ∙ none))
        (at_same closure bytes n (length at.before) (is_row_line (line_at (read_lines bytes) (n + 1))) (at_line (n + 1) why.Row (is_row_of closure all p (line_at (read_lines bytes) (n + 1))) ∷ (row_checks closure all (read_lines bytes) (n + 1) ps ++ end_checks (read_lines bytes) (n + suc (length ps)))) (sym at.count) left)

-- the quick test, at a row
pub row_test : (entries : List (List ℕ)) (flags : List Bool) (all : List Listed) (bytes : List ℕ) (more n : ℕ) (p : Pair) (ps : List Pair) (f : Found) (fs : List Found) (l : CertLine) (row : Row) (now : Option (List ℕ)) (answer : Bool) →
    NextRow (closure_of entries flags) all bytes more n p ps f fs l now → IsRowTest (closure_of entries flags) f row answer → answer ≡ is_row_of (closure_of entries flags) all (record { entry = f.entry; place = f.place }) (Some (of.Row row))
row_test entries flags all bytes more n p ps f fs l row now answer h test =
    test all h.near (subst (λ q. is_least_of f.distance (hit_distances (closure_of entries flags) all q) ≡ true) (sym (pair_of p f.entry f.place h.found.0 h.found.1)) h.found.2)

pub end_not : (l : CertLine) → (l ≡ of.End → ⊥) → is_end_line (Some l) ≡ false
end_not (of.Head v) h = refl
end_not (of.Entries k) h = refl
end_not (of.States k) h = refl
end_not (of.Distance s d) h = refl
end_not (of.Run s t d) h = refl
end_not (of.Conflicts n) h = refl
end_not (of.Row r) h = refl
end_not of.End h = absurd (h refl)

-- what is left when no row is due
end_left : (closure : Closure) (all : List Listed) (bytes : List ℕ) (given n : ℕ) (now : Option (List ℕ)) → AtRows closure all bytes given n [] now → AreLeft closure bytes (end_checks (read_lines bytes) n)
end_left closure all bytes given n now at = by at.pairs at.are at.left
  where
    by : (pairs : List Pair) → AreFound closure all pairs [] → AreLeft closure bytes (row_checks closure all (read_lines bytes) n pairs ++ end_checks (read_lines bytes) (n + length pairs)) → AreLeft closure bytes (end_checks (read_lines bytes) n)
    by [] are left = let e : n + 0 ≡ n = omega arith in subst (λ k. AreLeft closure bytes (end_checks (read_lines bytes) k)) e left
    by (p ∷ ps) are left = absurd are

-- No line comes where the end is due.
pub end_missing : (closure : Closure) (all : List Listed) (bytes : List ℕ) (given limit n : ℕ) (now : Option (List ℕ)) (x : CheckFault) → AtRows closure all bytes given n [] now → limit ≡ 4294967296 →
    IfSome now (λ bytes. BeginsWithout (limit - given) n bytes x) → IsFaultOf (check_outcome closure bytes) x
end_missing closure all bytes given limit n now x at is h =
    let lines = read_lines bytes in
    let rest : List Check = at_line (n + 2) why.Rest (nat_le (length lines) (n + 1)) ∷ [] in
    left_missing closure bytes at.before at.rest (is_end_line (line_at lines (n + 1))) rest x
    (missing certificate_limit given n bytes at.before at.rest x at.read (sym at.count) (subst (λ k. BeginsWithout (k - given) n at.rest x) is (if_some now at.rest (λ bytes. BeginsWithout (limit - given) n bytes x) at.is_ahead h)))
    (λ none. ap is_end_line (line_next bytes given n at.before at.rest at.read at.count ∙ none))
    (at_same closure bytes n (length at.before) (is_end_line (line_at lines (n + 1))) rest (sym at.count) (end_left closure all bytes given n now at))

-- what is known of the line that should be the end
pub record NextEnd (closure : Closure) (bytes : List ℕ) (more n : ℕ) (l : CertLine) (now : Option (List ℕ)) : Type 0 where
  pub next : List ℕ
  pub is_ahead : now ≡ Some next
  pub before : Lines
  pub count : length before ≡ n
  pub read : IsReadTo certificate_limit more bytes (before ++ Some l ∷ []) next
  pub line_is : line_at (read_lines bytes) (n + 1) ≡ Some l
  pub left : AreLeft closure bytes (end_checks (read_lines bytes) n)

pub next_end : (closure : Closure) (all : List Listed) (bytes : List ℕ) (given more n : ℕ) (l : CertLine) (here now : Option (List ℕ)) → AtRows closure all bytes given n [] here → here ≡ prepend_known (line_text l) now → fits l ≡ true →
    more ≡ given + length (line_text l) → more ≤ 4294967296 → NextEnd closure bytes more n l now
next_end closure all bytes given more n l here now at line fit is within =
    let r = next_rest here now (line_text l) at.rest at.is_ahead line in
    let lines = ap read_lines r.2 ∙ read_lines-line l r.0 fit in record {
      next = r.0;
      is_ahead = r.1;
      before = at.before;
      count = at.count;
      read =
          subst (λ k. IsReadTo certificate_limit k bytes (at.before ++ Some l ∷ []) r.0) (sym is)
          (read_next certificate_limit given bytes at.before l r.0 fit (subst (λ k. k ≤ certificate_limit) is within) (subst (IsReadTo certificate_limit given bytes at.before) r.2 at.read));
      line_is = line_next bytes given n at.before at.rest at.read at.count ∙ ap first_of lines;
      left = end_left closure all bytes given n here at;
    }

-- The line isn't the end.
pub end_wrong : (closure : Closure) (bytes : List ℕ) (more n k : ℕ) (l : CertLine) (now : Option (List ℕ)) → NextEnd closure bytes more n l now → (l ≡ of.End → ⊥) → k ≡ n + 1 → check_outcome closure bytes ≡ rejected k why.Form
end_wrong closure bytes more n k l now h other at =
    let lines = read_lines bytes in
    let c1 = at_line (n + 1) why.Form (is_end_line (line_at lines (n + 1))) in
    h.left ∙ (stops_failing (readable_lines certificate_limit bytes) (announced (line_at lines (conflicts_line lines))) c1 (at_line (n + 2) why.Rest (nat_le (length lines) (n + 1)) ∷ []) (ap is_end_line h.line_is ∙ end_not l other) (reached_row bytes more n h.before l h.next c1 h.read h.count refl)
    ∙ ap (λ k. rejected k why.Form) (sym at))

-- behind the end
after_end : (closure : Closure) (bytes : List ℕ) (more n : ℕ) (l : CertLine) (now : Option (List ℕ)) → NextEnd closure bytes more n l now → l ≡ of.End → AreLeft closure bytes (at_line (n + 2) why.Rest (nat_le (length (read_lines bytes)) (n + 1)) ∷ [])
after_end closure bytes more n l now h is =
    let c1 = at_line (n + 1) why.Form (is_end_line (line_at (read_lines bytes) (n + 1))) in
    left_past closure bytes (c1 ∷ []) (at_line (n + 2) why.Rest (nat_le (length (read_lines bytes)) (n + 1)) ∷ []) (ap is_end_line (h.line_is ∙ ap (λ k. Some k) is), tt) (reached_row bytes more n h.before l h.next c1 h.read h.count refl, tt) h.left

pub long_lines : (bytes : List ℕ) (more n : ℕ) (before : Lines) (l : CertLine) (next : List ℕ) → IsReadTo certificate_limit more bytes (before ++ Some l ∷ []) next → length before ≡ n → length (read_lines bytes) ≡ n + 1 + length (read_lines next)
long_lines bytes more n before l next read count =
    let a = ap length read.split in let b = length-append (before ++ Some l ∷ []) (read_lines next) in let d = length_push before (Some l) in omega (arith, a, b, d, count)

-- Nothing is behind the end: nothing is left.
pub end_done : (closure : Closure) (bytes : List ℕ) (more n : ℕ) (l : CertLine) (now : Option (List ℕ)) → NextEnd closure bytes more n l now → l ≡ of.End → IfSome now (λ bytes. bytes ≡ []) → AreLeft closure bytes []
end_done closure bytes more n l now h is none =
    let empty = if_some now h.next (λ bytes. bytes ≡ []) h.is_ahead none in
    let long = long_lines bytes more n h.before l h.next h.read h.count in
    let no_more : length (read_lines h.next) ≡ 0 = ap (λ a. length (read_lines a)) empty in
    let c2 = at_line (n + 2) why.Rest (nat_le (length (read_lines bytes)) (n + 1)) in
    let short : nat_le (length (read_lines bytes)) (n + 1) ≡ true = le-leb (length (read_lines bytes)) (n + 1) (omega (arith, long, no_more)) in
    left_past closure bytes (c2 ∷ []) [] (short, tt) (ap (λ o. can_be_made o c2) (read_to_end certificate_limit more bytes (h.before ++ Some l ∷ []) h.next h.read empty), tt) (after_end closure bytes more n l now h is)

-- Something is behind the end.
pub end_rest : (closure : Closure) (bytes : List ℕ) (more limit n k : ℕ) (l : CertLine) (now : Option (List ℕ)) → NextEnd closure bytes more n l now → l ≡ of.End → limit ≡ 4294967296 → k ≡ n + 2 →
    ((next : List ℕ) → now ≡ Some next → ((m : CertLine) × (rest : List ℕ) × (next ≡ line_text m ++ rest) × (fits m ≡ true) × (more + length (line_text m) ≤ 4294967296)) ⊎ BeginsBad (limit - more) next) → check_outcome closure bytes ≡ rejected k why.Rest
end_rest closure bytes more limit n k l now h is lim at some = by (some h.next h.is_ahead)
  where
    c2 : Check
    c2 = at_line (n + 2) why.Rest (nat_le (length (read_lines bytes)) (n + 1))

    stop : can_be_made (readable_lines certificate_limit bytes) c2 ≡ true → 0 < length (read_lines h.next) → check_outcome closure bytes ≡ rejected k why.Rest
    stop can there =
        let long = long_lines bytes more n h.before l h.next h.read h.count in
        after_end closure bytes more n l now h is
        ∙ (stops_failing (readable_lines certificate_limit bytes) (announced (line_at (read_lines bytes) (conflicts_line (read_lines bytes)))) c2 [] (no_le (length (read_lines bytes)) (n + 1) (omega (arith, long, there))) can
        ∙ ap (λ k. rejected k why.Rest) (sym at))

    before_long : length (h.before ++ Some l ∷ []) ≡ n + 1
    before_long = length_push h.before (Some l) ∙ ap (λ k. k + 1) h.count

    by : ((m : CertLine) × (rest : List ℕ) × (h.next ≡ line_text m ++ rest) × (fits m ≡ true) × (more + length (line_text m) ≤ 4294967296)) ⊎ BeginsBad (limit - more) h.next → check_outcome closure bytes ≡ rejected k why.Rest
    by (inl x) =
        let lines = ap read_lines x.2 ∙ read_lines-line x.0 x.1 x.3 in
        let read = read_next certificate_limit more bytes (h.before ++ Some l ∷ []) x.0 x.1 x.3 x.4 (subst (IsReadTo certificate_limit more bytes (h.before ++ Some l ∷ [])) x.2 h.read) in
        stop (reached certificate_limit (more + length (line_text x.0)) bytes (h.before ++ Some l ∷ [] ++ Some x.0 ∷ []) x.1 c2 read (omega (arith, length_push (h.before ++ Some l ∷ []) (Some x.0), before_long))) (subst (λ ls. 0 < length ls) (sym lines) (omega arith))
    by (inr bad) =
        let lines = ap read_lines bad.split ∙ read_lines-bad bad.text bad.rest bad.is_line bad.bad in
        let none = no_line certificate_limit more bytes (h.before ++ Some l ∷ []) h.next h.read (inr (subst (λ m. BeginsBad (m - more) h.next) lim bad)) in
        stop (none.can c2 (omega (arith, before_long))) (subst (λ ls. 0 < length ls) (sym lines) (omega arith))

-- What is behind the end doesn't end within the limit.
pub end_long : (closure : Closure) (bytes : List ℕ) (more limit n : ℕ) (l : CertLine) (now : Option (List ℕ)) → NextEnd closure bytes more n l now → l ≡ of.End → limit ≡ 4294967296 → IfSome now (BeginsLong (limit - more)) → check_outcome closure bytes ≡ too_long
end_long closure bytes more limit n l now h is lim long =
    let c2 = at_line (n + 2) why.Rest (nat_le (length (read_lines bytes)) (n + 1)) in
    let most = long_line certificate_limit more bytes (h.before ++ Some l ∷ []) h.next h.read (subst (λ m. BeginsLong (m - more) h.next) lim (if_some now h.next (BeginsLong (limit - more)) h.is_ahead long)) in
    let count : length (h.before ++ Some l ∷ []) ≡ n + 1 = length_push h.before (Some l) ∙ ap (λ k. k + 1) h.count in
    after_end closure bytes more n l now h is ∙ stops_far (readable_lines certificate_limit bytes) (announced (line_at (read_lines bytes) (conflicts_line (read_lines bytes)))) c2 []
    (ap (λ o. can_be_made o c2) most ∙ no_le (n + 2) (length (h.before ++ Some l ∷ [])) (omega (arith, count)))

-- what the loop over the rows keeps
pub record IsReadingRows (closure : Closure) (first reader : ReaderView) (old now : FilesView) (founds left_founds : List Found) : Type 0 where
  pub takes : OnlyTakes false old now
  pub limit : reader.limit ≡ 4294967296
  pub told : (all : List Listed) (bytes : List ℕ) → AtRows closure all bytes first.given first.lines founds (ahead first old) → AtRows closure all bytes reader.given reader.lines left_founds (ahead reader now)

pub rows_begin : (closure : Closure) (first : ReaderView) (old : FilesView) (founds : List Found) → first.limit ≡ 4294967296 → IsReadingRows closure first first old old founds (drop 0 founds)
rows_begin closure first old founds is = record { takes = takes_same old; limit = is; told = λ all bytes at. at }

pub drop_read : (xs : List Found) (i : ℕ) (x : Found) → i < length xs → x ≡ get_or xs i x → drop i xs ≡ x ∷ drop (i + 1) xs
drop_read [] i x lt is = absurd (omega arith)
drop_read (y ∷ ys) zero x lt is = ap (λ z. z ∷ ys) (sym is)
drop_read (y ∷ ys) (suc i) x lt is = let more : suc i + 1 ≡ suc (i + 1) = omega arith in drop_read ys i x (omega arith) is ∙ ap (λ k. x ∷ drop k (y ∷ ys)) (sym more)

pub rows_next : (closure : Closure) (first reader later : ReaderView) (old mid now : FilesView) (founds : List Found) (i : ℕ) (f : Found) → IsReadingRows closure first reader old mid founds (drop i founds) → i < length founds → f ≡ get_or founds i f →
    later.limit ≡ reader.limit → OnlyTakes false mid now → ((all : List Listed) (bytes : List ℕ) (others : List Found) → AtRows closure all bytes reader.given reader.lines (f ∷ others) (ahead reader mid) → AtRows closure all bytes later.given later.lines others (ahead later now)) →
    IsReadingRows closure first later old now founds (drop (i + 1) founds)
rows_next closure first reader later old mid now founds i f is below read limit takes step = record {
  takes = takes_on false old mid now is.takes takes;
  limit = limit ∙ is.limit;
  told = λ all bytes at. step all bytes (drop (i + 1) founds) (subst (λ fs. AtRows closure all bytes reader.given reader.lines fs (ahead reader mid)) (drop_read founds i f below read) (is.told all bytes at));
}

pub rows_stop : (closure : Closure) (first reader : ReaderView) (old mid : FilesView) (founds : List Found) (i : ℕ) (f : Found) (x : CheckFault) → IsReadingRows closure first reader old mid founds (drop i founds) → i < length founds → f ≡ get_or founds i f →
    ((all : List Listed) (bytes : List ℕ) (others : List Found) → AtRows closure all bytes reader.given reader.lines (f ∷ others) (ahead reader mid) → IsFaultOf (check_outcome closure bytes) x) →
    (all : List Listed) (bytes : List ℕ) → AtRows closure all bytes first.given first.lines founds (ahead first old) → IsFaultOf (check_outcome closure bytes) x
rows_stop closure first reader old mid founds i f x is below read step all bytes at =
    step all bytes (drop (i + 1) founds) (subst (λ fs. AtRows closure all bytes reader.given reader.lines fs (ahead reader mid)) (drop_read founds i f below read) (is.told all bytes at))

pub rows_done : (closure : Closure) (first reader : ReaderView) (old mid : FilesView) (founds : List Found) (i : ℕ) → IsReadingRows closure first reader old mid founds (drop i founds) → length founds ≤ i →
    (all : List Listed) (bytes : List ℕ) → AtRows closure all bytes first.given first.lines founds (ahead first old) → AtRows closure all bytes reader.given reader.lines [] (ahead reader mid)
rows_done closure first reader old mid founds i is le all bytes at = subst (λ fs. AtRows closure all bytes reader.given reader.lines fs (ahead reader mid)) (drop_of_length-le founds {i = i} le) (is.told all bytes at)

-- a line behind the end, as a reader gives it
pub some_next : (l : CertLine) (old new : ReaderView) (here there : Option (List ℕ)) (rest : List ℕ) → GivesLine l old new here there → here ≡ Some rest → new.limit ≡ 4294967296 →
    (m : CertLine) × (next : List ℕ) × (rest ≡ line_text m ++ next) × (fits m ≡ true) × (old.given + length (line_text m) ≤ 4294967296)
some_next l old new here there rest gives is lim =
    let r = next_rest here there (line_text l) rest is gives.split in
    let w = gives.within in let g = gives.given in
    (l, r.0, r.2, gives.fit, omega (arith, w, g, lim))

-- what a reader answers behind the end, by the answer
pub gives_some : (o : Option CertLine) (l : CertLine) (old new : ReaderView) (here there : Option (List ℕ)) → o ≡ Some l → IsLineAnswer o old new here there → GivesLine l old new here there
gives_some o l old new here there e h = subst (λ a. IsLineAnswer a old new here there) e h

pub gives_none : (o : Option CertLine) (old new : ReaderView) (here there : Option (List ℕ)) → o ≡ None → IsLineAnswer o old new here there → IfSome here (λ bytes. bytes ≡ [])
gives_none o old new here there e h = (subst (λ a. IsLineAnswer a old new here there) e h).nothing

pub begins_bad : (x : CertFault) (line : ℕ) (old new : ReaderView) (here : Option (List ℕ)) → x ≡ why_not.Bad line → IsLineFault x old new here → IfSome here (BeginsBad (room old))
begins_bad x line old new here e h = (subst (λ f. IsLineFault f old new here) e h).1

pub begins_long : (x : CertFault) (old new : ReaderView) (here : Option (List ℕ)) → x ≡ why_not.TooLong → IsLineFault x old new here → IfSome here (BeginsLong (room old))
begins_long x old new here e h = (subst (λ f. IsLineFault f old new here) e h).1
