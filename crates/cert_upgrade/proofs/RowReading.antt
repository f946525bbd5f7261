-- The rows, and the end.
use Rattle.std.proofs.Common.{◌≡◌, ℕ, suc, ◌+◌, ◌-◌, ◌<◌, ◌≤◌, List, [], ◌∷◌, ◌++◌, length, map, refl, sym, ap, subst, arith, true, false, ◌∙◌, inr, append_assoc, append-nil, Option, Some}
use Rattle.std.specs.Prelude.{IfSome, nat_le}
use Rattle.std.proofs.lemmas.Bool.{le-leb}
use Rattle.std.proofs.lemmas.List.{length_push, length-append, length-map, map-append}
use Rattle.outside.specs.Files.{FilesView}
use Rattle.longest_match.specs.Rows.{Row}
use Rattle.certificate.specs.declared.lines.CertLine.{CertLine}
use Rattle.certificate.specs.declared.lines.CertLine.TheVariants as of
use Rattle.certificate.specs.CertReading.{read_lines}
use Rattle.certificate.specs.Readers.{BeginsBad, BeginsLong, GivesLine, OnlyTakes, ReaderView, ahead, room}
use Rattle.certificate.proofs.FirstLines.{read_lines-bad}
use Rattle.report.specs.declared.faults.Why.TheVariants as why
use Rattle.certificate_laws.specs.Checks.{Check, Lines, accepted, at_line, certificate_rows, conflicts_line, end_checks, is_end_line, is_row_line, line_at, rejected, too_long, can_be_made}
use Rattle.certificate_laws.proofs.UpperLemmas.{line_after}
use Rattle.cert_check.specs.Reading.{BeginsWithout, IsReadTo}
use Rattle.cert_check.specs.Verdicts.{IsFaultOf}
use Rattle.cert_check.specs.declared.faults.CheckFault.{CheckFault}
use Rattle.cert_check.proofs.AnswerLemmas.{no_le}
use Rattle.cert_check.proofs.ReadLemmas.{Missing, long_line, missing, no_line, read_to_end}
use Rattle.cert_check.proofs.RowLoop.{end_not}
use Rattle.cert_check.proofs.StageLemmas.{stops_far}
use Rattle.cert_check.proofs.UpperLoop.{if_some, takes_on}
use Rattle.certificate.proofs.Passing.{takes_same}
use Rattle.certificate_laws.proofs.RowLemmas.{row_of}
use Rattle.cert_upgrade.specs.Forms.{row_forms, upgrade_limit, upgrade_outcome}
use Rattle.cert_upgrade.specs.inside.Stages.{AreFormsLeft, AreRowsRead, AreWritable, IsWholeRead, row_read}
use Rattle.cert_upgrade.specs.inside.Uppers.{new_upper}
use Rattle.cert_upgrade.proofs.FormStages.{LineRead, announces, forms_fail, forms_missing, forms_past, line_reached, line_read, readable}
use Rattle.cert_upgrade.proofs.Shapes.{IsShaped, announced-shaped, below, upgraded-shaped}

-- the lines that were read behind some rows
abbrev pub lines_down : Lines → ℕ → List Row → Lines
lines_down upper n rows = (upper ++ Some (of.Conflicts n) ∷ []) ++ map row_read rows

down-length : (upper : Lines) (n : ℕ) (rows : List Row) → length (lines_down upper n rows) ≡ length upper + 1 + length rows
down-length upper n rows =
    let a = length-append (upper ++ Some (of.Conflicts n) ∷ []) (map row_read rows) in
    let b = length_push upper (Some (of.Conflicts n)) in
    let c = length-map rows row_read in omega (arith, a, b, c)

-- ---- a row

-- the checks that are left, where a row is left
first_row : (lines ls : Lines) (k left : ℕ) (end : List Check) → row_forms lines k (left + 1) ++ end ≡ at_line (k + 1) why.Form (is_row_line (line_at lines (k + 1))) ∷ (row_forms lines (k + 1) left ++ end)
first_row lines ls k left end = let e : left + 1 ≡ suc left = omega arith in ap (λ n. row_forms lines k n ++ end) e

module _ (bytes : List ℕ) (reader later : ReaderView) (mid now : FilesView) (made : List CertLine) (n left : ℕ) (l : CertLine) (is : AreRowsRead bytes reader.given made n (left + 1) reader.lines (ahead reader mid))
    (gives : GivesLine l reader later (ahead reader mid) (ahead later now)) (limited : later.limit ≡ 1073741824) where
  abbrev before : Lines
  before = lines_down is.upper n is.rows

  abbrev k : ℕ
  k = length is.upper + 1 + length is.rows

  line : LineRead bytes later.given before l is.rest (ahead later now)
  line = line_read bytes reader.given later.given before l is.rest (ahead reader mid) (ahead later now) is.is_ahead is.read gives.split gives.fit gives.given (let w = gives.within in omega (arith, w, limited))

  abbrev check : Check
  check = at_line (k + 1) why.Form (is_row_line (line_at (read_lines bytes) (k + 1)))

  abbrev others : List Check
  others = row_forms (read_lines bytes) (k + 1) left ++ end_checks (read_lines bytes) (length is.upper + 1 + n)

  here : AreFormsLeft bytes (check ∷ others)
  here = subst (AreFormsLeft bytes) (first_row (read_lines bytes) [] k left (end_checks (read_lines bytes) (length is.upper + 1 + n))) is.left_checks

  line_is : line_at (read_lines bytes) (k + 1) ≡ Some l
  line_is = subst (λ m. line_at (read_lines bytes) (m + 1) ≡ Some l) (down-length is.upper n is.rows) line.line_is

  can : can_be_made (readable bytes) check ≡ true
  can = line_reached bytes later.given before l line.next check line.read (ap (λ m. m + 1) (sym (down-length is.upper n is.rows)))

  -- The line is no row.
  pub row_fails : is_row_line (Some l) ≡ false → upgrade_outcome bytes ≡ rejected later.lines why.Form
  row_fails none =
      let c = is.counted in let g = gives.lines in
      let at : k + 1 ≡ later.lines = omega (arith, c, g) in
      forms_fail bytes check others (ap is_row_line line_is ∙ none) can here ∙ ap (λ m. rejected m why.Form) at

  -- The line is a row.
  pub row_on : is_row_line (Some l) ≡ true → AreRowsRead bytes later.given (made ++ l ∷ []) n left later.lines (ahead later now)
  row_on some =
      let r = row_of (Some l) some in
      let row_is : l ≡ of.Row r.0 = (let e = r.1 in cc) in
      let more : length (is.rows ++ r.0 ∷ []) ≡ length is.rows + 1 = length_push is.rows r.0 in
      let joined : before ++ Some l ∷ [] ≡ lines_down is.upper n (is.rows ++ r.0 ∷ []) =
      append_assoc (is.upper ++ Some (of.Conflicts n) ∷ []) (map row_read is.rows) (Some l ∷ [])
      ∙ ap (λ ls. (is.upper ++ Some (of.Conflicts n) ∷ []) ++ ls) (ap (λ x. map row_read is.rows ++ Some x ∷ []) row_is ∙ sym (map-append row_read is.rows (r.0 ∷ []))) in
      let at : k + 1 ≡ length is.upper + 1 + length (is.rows ++ r.0 ∷ []) = omega (arith, more) in
      record {
        rest = line.next;
        is_ahead = line.is_ahead;
        upper = is.upper;
        rows = is.rows ++ r.0 ∷ [];
        read = subst (λ ls. IsReadTo upgrade_limit later.given bytes ls line.next) joined line.read;
        at = is.at;
        long = is.long;
        none = is.none;
        number = (let m = is.number in omega (arith, m, more));
        counted = (let c = is.counted in let g = gives.lines in omega (arith, c, g, more));
        made =
            ap (λ ls. ls ++ l ∷ []) is.made
            ∙ (append_assoc (new_upper is.upper) (of.Conflicts n ∷ map (λ x. of.Row x) is.rows) (l ∷ [])
            ∙ ap (λ ls. new_upper is.upper ++ of.Conflicts n ∷ ls) (ap (λ x. map (λ y. of.Row y) is.rows ++ x ∷ []) row_is ∙ sym (map-append (λ x. of.Row x) is.rows (r.0 ∷ []))));
        left_checks =
            subst (λ m. AreFormsLeft bytes (row_forms (read_lines bytes) m left ++ end_checks (read_lines bytes) (length is.upper + 1 + n))) at
            (forms_past bytes (check ∷ []) others (ap is_row_line line_is ∙ some, tt) (can, tt) here);
      }

-- No line comes where a row is due.
pub row_missing : (bytes : List ℕ) (reader : ReaderView) (mid : FilesView) (made : List CertLine) (n left : ℕ) (f : CheckFault) → AreRowsRead bytes reader.given made n (left + 1) reader.lines (ahead reader mid) → reader.limit ≡ 1073741824 →
    IfSome (ahead reader mid) (λ bytes. BeginsWithout (room reader) reader.lines bytes f) → IsFaultOf (upgrade_outcome bytes) f
row_missing bytes reader mid made n left f is limited begins =
    let before = lines_down is.upper n is.rows in
    let long = down-length is.upper n is.rows in
    let k = length is.upper + 1 + length is.rows in
    let lines = read_lines bytes in
    let begins_here = if_some (ahead reader mid) is.rest (λ bytes. BeginsWithout (room reader) reader.lines bytes f) is.is_ahead begins in
    let miss : Missing upgrade_limit bytes (lines_down is.upper n is.rows) is.rest f =
    missing upgrade_limit reader.given reader.lines bytes (lines_down is.upper n is.rows) is.rest f is.read (is.counted ∙ sym long) (subst (λ m. BeginsWithout (m - reader.given) reader.lines is.rest f) limited begins_here) in
    let here = subst (AreFormsLeft bytes) (first_row lines [] k left (end_checks lines (length is.upper + 1 + n))) is.left_checks in
    forms_missing bytes (lines_down is.upper n is.rows) is.rest (is_row_line (line_at lines (length (lines_down is.upper n is.rows) + 1))) (row_forms lines (length (lines_down is.upper n is.rows) + 1) left ++ end_checks lines (length is.upper + 1 + n)) f miss
    (λ none. ap is_row_line (ap (λ ls. line_at ls (length (lines_down is.upper n is.rows) + 1)) is.read.split ∙ (line_after (lines_down is.upper n is.rows) (read_lines is.rest) ∙ none)))
    (subst (λ m. AreFormsLeft bytes (at_line (m + 1) why.Form (is_row_line (line_at lines (m + 1))) ∷ (row_forms lines (m + 1) left ++ end_checks lines (length is.upper + 1 + n)))) (sym long) here)

-- what the loop over the rows keeps
pub record IsReadingRows (first reader : ReaderView) (old now : FilesView) (begun made : List CertLine) (n left : ℕ) : Type 0 where
  pub takes : OnlyTakes false old now
  pub limit : reader.limit ≡ first.limit
  pub writable : AreWritable first.given begun → AreWritable reader.given made
  pub told : (bytes : List ℕ) → AreRowsRead bytes first.given begun n n first.lines (ahead first old) → AreRowsRead bytes reader.given made n left reader.lines (ahead reader now)

pub rows_begin : (first : ReaderView) (old : FilesView) (begun : List CertLine) (n left : ℕ) → left ≡ n → IsReadingRows first first old old begun begun n left
rows_begin first old begun n left e = record {
  takes = takes_same old;
  limit = refl;
  writable = λ is. is;
  told = λ bytes at. subst (λ k. AreRowsRead bytes first.given begun n k first.lines (ahead first old)) (sym e) at;
}

pub rows_next : (first reader later : ReaderView) (old mid now : FilesView) (begun made more : List CertLine) (n left next : ℕ) → IsReadingRows first reader old mid begun made n left → left ≡ next + 1 → later.limit ≡ reader.limit → OnlyTakes false mid now →
    ((bytes : List ℕ) (n left : ℕ) → AreRowsRead bytes reader.given made n (left + 1) reader.lines (ahead reader mid) → AreRowsRead bytes later.given more n left later.lines (ahead later now)) →
    (AreWritable reader.given made → AreWritable later.given more) → IsReadingRows first later old now begun more n next
rows_next first reader later old mid now begun made more n left next is e limit takes step write = record {
  takes = takes_on false old mid now is.takes takes;
  limit = limit ∙ is.limit;
  writable = λ first_is. write (is.writable first_is);
  told = λ bytes at. step bytes n next (subst (λ k. AreRowsRead bytes reader.given made n k reader.lines (ahead reader mid)) e (is.told bytes at));
}

-- ---- the end

-- where only the end is left
record AtEnd (bytes : List ℕ) (given n : ℕ) (made : List CertLine) (count : ℕ) (rest : List ℕ) : Type 0 where
  upper : Lines
  rows : List Row
  read : IsReadTo upgrade_limit given bytes (lines_down upper n rows) rest
  left : AreFormsLeft bytes (end_checks (read_lines bytes) (length (lines_down upper n rows)))
  counted : count ≡ length (lines_down upper n rows)
  at : conflicts_line (read_lines bytes) ≡ length upper + 1
  long : 3 ≤ length upper
  none : certificate_rows upper ≡ []
  number : length rows ≡ n
  made_is : made ≡ new_upper upper ++ of.Conflicts n ∷ map (λ r. of.Row r) rows

at_end : (bytes : List ℕ) (given n : ℕ) (made : List CertLine) (count : ℕ) (now : Option (List ℕ)) → (is : AreRowsRead bytes given made n 0 count now) → AtEnd bytes given n made count is.rest
at_end bytes given n made count now is =
    let number : length is.rows ≡ n = (let m = is.number in omega (arith, m)) in
    let long = down-length is.upper n is.rows in
    let same : length is.upper + 1 + n ≡ length (lines_down is.upper n is.rows) = omega (arith, long, number) in
    record {
      upper = is.upper;
      rows = is.rows;
      read = is.read;
      left = subst (λ k. AreFormsLeft bytes (end_checks (read_lines bytes) k)) same is.left_checks;
      counted = is.counted ∙ sym long;
      at = is.at;
      long = is.long;
      none = is.none;
      number = number;
      made_is = is.made;
    }

-- No line comes where the end is due.
pub end_missing : (bytes : List ℕ) (reader : ReaderView) (mid : FilesView) (made : List CertLine) (n : ℕ) (f : CheckFault) → AreRowsRead bytes reader.given made n 0 reader.lines (ahead reader mid) → reader.limit ≡ 1073741824 →
    IfSome (ahead reader mid) (λ bytes. BeginsWithout (room reader) reader.lines bytes f) → IsFaultOf (upgrade_outcome bytes) f
end_missing bytes reader mid made n f is limited begins =
    let e = at_end bytes reader.given n made reader.lines (ahead reader mid) is in
    let before = lines_down e.upper n e.rows in
    let lines = read_lines bytes in
    let begins_here = if_some (ahead reader mid) is.rest (λ bytes. BeginsWithout (room reader) reader.lines bytes f) is.is_ahead begins in
    forms_missing bytes (lines_down e.upper n e.rows) is.rest (is_end_line (line_at lines (length (lines_down e.upper n e.rows) + 1))) (at_line (length (lines_down e.upper n e.rows) + 2) why.Rest (nat_le (length lines) (length (lines_down e.upper n e.rows) + 1)) ∷ []) f
    (missing upgrade_limit reader.given reader.lines bytes (lines_down e.upper n e.rows) is.rest f e.read e.counted (subst (λ m. BeginsWithout (m - reader.given) reader.lines is.rest f) limited begins_here))
    (λ none. ap is_end_line (ap (λ ls. line_at ls (length (lines_down e.upper n e.rows) + 1)) e.read.split ∙ (line_after (lines_down e.upper n e.rows) (read_lines is.rest) ∙ none))) e.left

module _ (bytes : List ℕ) (reader later : ReaderView) (mid now : FilesView) (made : List CertLine) (n : ℕ) (l : CertLine) (is : AreRowsRead bytes reader.given made n 0 reader.lines (ahead reader mid))
    (gives : GivesLine l reader later (ahead reader mid) (ahead later now)) (limited : later.limit ≡ 1073741824) where
  e : AtEnd bytes reader.given n made reader.lines is.rest
  e = at_end bytes reader.given n made reader.lines (ahead reader mid) is

  abbrev above : Lines
  above = lines_down e.upper n e.rows

  end_line : LineRead bytes later.given above l is.rest (ahead later now)
  end_line = line_read bytes reader.given later.given above l is.rest (ahead reader mid) (ahead later now) is.is_ahead e.read gives.split gives.fit gives.given (let w = gives.within in omega (arith, w, limited))

  abbrev first : Check
  first = at_line (length above + 1) why.Form (is_end_line (line_at (read_lines bytes) (length above + 1)))

  abbrev second : Check
  second = at_line (length above + 2) why.Rest (nat_le (length (read_lines bytes)) (length above + 1))

  first_can : can_be_made (readable bytes) first ≡ true
  first_can = line_reached bytes later.given above l end_line.next first end_line.read refl

  -- The line isn't the end.
  pub end_fails : (l ≡ of.End → ⊥) → upgrade_outcome bytes ≡ rejected later.lines why.Form
  end_fails other =
      let c = e.counted in let g = gives.lines in
      let at : length above + 1 ≡ later.lines = omega (arith, c, g) in
      forms_fail bytes first (second ∷ []) (ap is_end_line end_line.line_is ∙ end_not l other) first_can e.left ∙ ap (λ m. rejected m why.Form) at

  after_end : l ≡ of.End → AreFormsLeft bytes (second ∷ [])
  after_end end = forms_past bytes (first ∷ []) (second ∷ []) (ap is_end_line (end_line.line_is ∙ ap (λ x. Some x) end), tt) (first_can, tt) e.left

  long_lines : length (read_lines bytes) ≡ length above + 1 + length (read_lines end_line.next)
  long_lines =
      let a = ap length end_line.read.split in
      let b = length-append (above ++ Some l ∷ []) (read_lines end_line.next) in
      let c = length_push above (Some l) in omega (arith, a, b, c)

  -- Nothing is behind the end: all was read.
  pub end_done : l ≡ of.End → IfSome (ahead later now) (λ bytes. bytes ≡ []) → IsWholeRead bytes (made ++ of.End ∷ []) n
  end_done end nothing =
      let empty = if_some (ahead later now) end_line.next (λ bytes. bytes ≡ []) end_line.is_ahead nothing in
      let many = long_lines in
      let no_more : length (read_lines end_line.next) ≡ 0 = ap (λ a. length (read_lines a)) empty in
      let short : nat_le (length (read_lines bytes)) (length above + 1) ≡ true = le-leb (length (read_lines bytes)) (length above + 1) (omega (arith, many, no_more)) in
      let nothing_left : AreFormsLeft bytes [] =
      forms_past bytes (second ∷ []) [] (short, tt) (ap (λ o. can_be_made o second) (read_to_end upgrade_limit later.given bytes (above ++ Some l ∷ []) end_line.next end_line.read empty), tt) (after_end end) in
      let whole : read_lines bytes ≡ e.upper ++ below n e.rows =
      end_line.read.split
      ∙ (ap (λ a. (above ++ Some l ∷ []) ++ read_lines a) empty
      ∙ (append-nil (above ++ Some l ∷ [])
      ∙ (ap (λ x. above ++ Some x ∷ []) end
      ∙ (append_assoc (e.upper ++ Some (of.Conflicts n) ∷ []) (map row_read e.rows) (Some of.End ∷ []) ∙ append_assoc e.upper (Some (of.Conflicts n) ∷ []) (map row_read e.rows ++ Some of.End ∷ []))))) in
      let shaped : IsShaped (read_lines bytes) e.upper n e.rows = record { split = whole; at = e.at; long = e.long; none = e.none; number = e.number } in
      record {
        form = nothing_left ∙ ap (λ k. accepted k) (announced-shaped (read_lines bytes) e.upper n e.rows shaped);
        made = ap (λ ls. ls ++ of.End ∷ []) e.made_is ∙ upgraded-shaped (read_lines bytes) e.upper n e.rows shaped;
      }

  -- Something is behind the end.
  stop : can_be_made (readable bytes) second ≡ true → 0 < length (read_lines end_line.next) → l ≡ of.End → (k : ℕ) → k ≡ later.lines + 1 → upgrade_outcome bytes ≡ rejected k why.Rest
  stop can some end k at =
      let many = long_lines in
      let c = e.counted in let g = gives.lines in
      let place : length above + 2 ≡ k = omega (arith, c, g, at) in
      forms_fail bytes second [] (no_le (length (read_lines bytes)) (length above + 1) (omega (arith, many, some))) can (after_end end) ∙ ap (λ m. rejected m why.Rest) place

  pub rest_line : (last : ReaderView) (then : FilesView) (m : CertLine) (k : ℕ) → l ≡ of.End → k ≡ later.lines + 1 → GivesLine m later last (ahead later now) (ahead last then) → last.limit ≡ 1073741824 → upgrade_outcome bytes ≡ rejected k why.Rest
  rest_line last then m k end at another limit =
      let next = line_read bytes later.given last.given (above ++ Some l ∷ []) m end_line.next (ahead later now) (ahead last then) end_line.is_ahead end_line.read another.split another.fit another.given (let w = another.within in omega (arith, w, limit)) in
      stop (line_reached bytes last.given (above ++ Some l ∷ []) m next.next second next.read (let p = length_push above (Some l) in omega (arith, p)))
      (subst (λ ls. 0 < length ls) (sym next.lines_are) (omega arith)) end k at

  pub rest_bad : (k : ℕ) → l ≡ of.End → k ≡ later.lines + 1 → IfSome (ahead later now) (BeginsBad (room later)) → upgrade_outcome bytes ≡ rejected k why.Rest
  rest_bad k end at bad =
      let begins = if_some (ahead later now) end_line.next (BeginsBad (room later)) end_line.is_ahead bad in
      let none = no_line upgrade_limit later.given bytes (above ++ Some l ∷ []) end_line.next end_line.read (inr (subst (λ m. BeginsBad (m - later.given) end_line.next) limited begins)) in
      let lines = ap read_lines begins.split ∙ read_lines-bad begins.text begins.rest begins.is_line begins.bad in
      stop (none.can second (let p = length_push above (Some l) in omega (arith, p))) (subst (λ ls. 0 < length ls) (sym lines) (omega arith)) end k at

  -- What is behind the end doesn't end within the limit.
  pub rest_long : l ≡ of.End → IfSome (ahead later now) (BeginsLong (room later)) → upgrade_outcome bytes ≡ too_long
  rest_long end long =
      let begins = if_some (ahead later now) end_line.next (BeginsLong (room later)) end_line.is_ahead long in
      let most = long_line upgrade_limit later.given bytes (above ++ Some l ∷ []) end_line.next end_line.read (subst (λ m. BeginsLong (m - later.given) end_line.next) limited begins) in
      let p = length_push above (Some l) in
      after_end end ∙ stops_far (readable bytes) (announces bytes) second [] (ap (λ o. can_be_made o second) most ∙ no_le (length above + 2) (length (above ++ Some l ∷ [])) (omega (arith, p)))
