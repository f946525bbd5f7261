-- The loop over the lines down to the conflicts.
use Rattle.std.proofs.Common.{◌≡◌, ℕ, ◌+◌, ◌-◌, List, [], ◌∷◌, ◌++◌, length, sym, ap, subst, arith, true, false, ◌∙◌, append-nil, Option, Some, None}
use Rattle.std.specs.Prelude.{IfSome, nat_le}
use Rattle.std.proofs.lemmas.Bool.{leb-true}
use Rattle.std.proofs.lemmas.List.{length_push}
use Rattle.outside.specs.Files.{FilesView}
use Rattle.certificate.specs.declared.lines.CertLine.{CertLine}
use Rattle.certificate.specs.declared.lines.CertLine.TheVariants as of
use Rattle.certificate.specs.CertReading.{read_lines}
use Rattle.certificate.specs.Readers.{GivesLine, OnlyTakes, ReaderView, ahead, new_reader, room}
use Rattle.report.specs.declared.faults.Why.{Why}
use Rattle.report.specs.declared.faults.Why.TheVariants as why
use Rattle.certificate_laws.specs.Checks.{Lines, end_checks, is_conflicts, rejected}
use Rattle.cert_check.specs.Reading.{BeginsWithout, IsReadTo}
use Rattle.cert_check.specs.Verdicts.{IsFaultOf}
use Rattle.cert_check.specs.declared.faults.CheckFault.{CheckFault}
use Rattle.cert_check.proofs.ReadLemmas.{missing}
use Rattle.cert_check.proofs.UpperLoop.{if_some, takes_on}
use Rattle.certificate.proofs.Passing.{takes_same}
use Rattle.cert_upgrade.specs.declared.upper.Upper.{Upper}
use Rattle.cert_upgrade.specs.Forms.{row_forms, upgrade_limit, upgrade_outcome}
use Rattle.cert_upgrade.specs.inside.Stages.{AreFormsLeft, AreRowsRead, AreWritable}
use Rattle.cert_upgrade.specs.inside.Uppers.{Knows, TakesFormLine, form_failure, upper_failure}
use Rattle.cert_upgrade.proofs.FormAnswers.{failure-is, knows_more, knows_nothing, passes}
use Rattle.cert_upgrade.proofs.FormStages.{AtUpper, LineRead, at_begin, line_read, upper_done, upper_fails, upper_missing, upper_on}
use Rattle.cert_upgrade.proofs.Sizes.{has_word, writable_after, writable_push}

-- what is known behind n lines, where the files tell their bytes
pub record ToldUpper (bytes : List ℕ) (given n : ℕ) (u : Upper) (now : Option (List ℕ)) : Type 0 where
  pub rest : List ℕ
  pub is_ahead : now ≡ Some rest
  pub before : Lines
  pub count : length before ≡ n
  pub knows : Knows u before
  pub at : AtUpper bytes given before rest

-- what the loop keeps
pub record IsReadingUpper (first reader : ReaderView) (old now : FilesView) (u : Upper) : Type 0 where
  pub takes : OnlyTakes false old now
  pub limit : reader.limit ≡ 1073741824
  pub writable : AreWritable reader.given u.lines.items
  pub told : (bytes : List ℕ) → ahead first old ≡ Some bytes → ToldUpper bytes reader.given reader.lines u (ahead reader now)

-- At the start.
pub upper_start : (first : ReaderView) (old : FilesView) (u : Upper) → first ≡ new_reader upgrade_limit → u.next ≡ 0 → u.lines.items ≡ [] → IsReadingUpper first first old old u
upper_start first old u begun next lines = record {
  takes = takes_same old;
  limit = ap (λ (r : ReaderView). r.limit) begun;
  writable = subst (AreWritable first.given) (sym lines) (record { words = tt; size = omega arith });
  told = λ bytes told. record {
    rest = bytes;
    is_ahead = told;
    before = [];
    count = sym (ap (λ (r : ReaderView). r.lines) begun);
    knows = knows_nothing u next lines;
    at = subst (λ n. AtUpper bytes n [] bytes) (sym (ap (λ (r : ReaderView). r.given) begun)) (at_begin bytes);
  };
}

-- the line that was given, where the bytes are told
told_line : (bytes : List ℕ) (reader later : ReaderView) (mid now : FilesView) (u : Upper) (l : CertLine) → reader.limit ≡ 1073741824 → GivesLine l reader later (ahead reader mid) (ahead later now) → later.limit ≡ reader.limit →
    (t : ToldUpper bytes reader.given reader.lines u (ahead reader mid)) → LineRead bytes later.given t.before l t.rest (ahead later now)
told_line bytes reader later mid now u l limited gives limit t =
    line_read bytes reader.given later.given t.before l t.rest (ahead reader mid) (ahead later now) t.is_ahead t.at.read gives.split gives.fit gives.given (let w = gives.within in omega (arith, w, limit, limited))

-- what is answered to it
told_answer : (bytes : List ℕ) (given n : ℕ) (u : Upper) (l : CertLine) (now : Option (List ℕ)) (failure : Option Why) → (t : ToldUpper bytes given n u now) → upper_failure u n l ≡ failure → form_failure t.before l ≡ failure
told_answer bytes given n u l now failure t answer = sym (failure-is u t.before l t.knows) ∙ (ap (λ k. upper_failure u k l) t.count ∙ answer)

-- One line more.
pub upper_more : (first reader later : ReaderView) (old mid now : FilesView) (u new : Upper) (l : CertLine) → IsReadingUpper first reader old mid u → GivesLine l reader later (ahead reader mid) (ahead later now) → later.limit ≡ reader.limit → OnlyTakes false mid now →
    upper_failure u reader.lines l ≡ None → TakesFormLine u new l → is_conflicts (Some l) ≡ false → IsReadingUpper first later old now new
upper_more first reader later old mid now u new l is gives limit takes answer taken other = record {
  takes = takes_on false old mid now is.takes takes;
  limit = limit ∙ is.limit;
  writable = subst (AreWritable later.given) (sym taken.lines) (writable_after reader.given later.given u.lines.items l is.writable gives.given);
  told = λ bytes told. let t = is.told bytes told in
      let line = told_line bytes reader later mid now u l is.limit gives limit t in
      record {
        rest = line.next;
        is_ahead = line.is_ahead;
        before = t.before ++ Some l ∷ [];
        count = length_push t.before (Some l) ∙ (ap (λ k. k + 1) t.count ∙ sym gives.lines);
        knows = knows_more u new t.before l t.knows (ap (λ k. upper_failure u k l) t.count ∙ answer) taken other;
        at = upper_on bytes reader.given later.given t.before l t.rest (ahead later now) t.at line (told_answer bytes reader.given reader.lines u l (ahead reader mid) None t answer) other;
      };
}

-- A line that fails.
pub upper_stops : (first reader later : ReaderView) (old mid now : FilesView) (u : Upper) (l : CertLine) (reason : Why) → IsReadingUpper first reader old mid u → GivesLine l reader later (ahead reader mid) (ahead later now) → later.limit ≡ reader.limit →
    upper_failure u reader.lines l ≡ Some reason → (bytes : List ℕ) → ahead first old ≡ Some bytes → upgrade_outcome bytes ≡ rejected (reader.lines + 1) reason
upper_stops first reader later old mid now u l reason is gives limit answer bytes told =
    let t = is.told bytes told in
    let line = told_line bytes reader later mid now u l is.limit gives limit t in
    upper_fails bytes reader.given later.given t.before l t.rest (ahead later now) t.at line reason (told_answer bytes reader.given reader.lines u l (ahead reader mid) (Some reason) t answer)
    ∙ ap (λ k. rejected (k + 1) reason) t.count

-- No line.
pub upper_none : (first reader : ReaderView) (old mid : FilesView) (u : Upper) (f : CheckFault) → IsReadingUpper first reader old mid u → IfSome (ahead reader mid) (λ bytes. BeginsWithout (room reader) reader.lines bytes f) →
    (bytes : List ℕ) → ahead first old ≡ Some bytes → IsFaultOf (upgrade_outcome bytes) f
upper_none first reader old mid u f is begins bytes told =
    let t = is.told bytes told in
    let here = if_some (ahead reader mid) t.rest (λ bytes. BeginsWithout (room reader) reader.lines bytes f) t.is_ahead begins in
    upper_missing bytes reader.given t.before t.rest f t.at
    (missing upgrade_limit reader.given reader.lines bytes t.before t.rest f t.at.read (sym t.count) (subst (λ k. BeginsWithout (k - reader.given) reader.lines t.rest f) is.limit here))

-- The conflicts line.
pub upper_ends : (first reader later : ReaderView) (old mid now : FilesView) (u : Upper) (l : CertLine) (n : ℕ) → IsReadingUpper first reader old mid u → GivesLine l reader later (ahead reader mid) (ahead later now) → later.limit ≡ reader.limit →
    upper_failure u reader.lines l ≡ None → l ≡ of.Conflicts n → (bytes : List ℕ) → ahead first old ≡ Some bytes → AreRowsRead bytes later.given (u.lines.items ++ of.Conflicts n ∷ []) n n later.lines (ahead later now)
upper_ends first reader later old mid now u l n is gives limit answer conflicts bytes told =
    let t = is.told bytes told in
    let line = told_line bytes reader later mid now u l is.limit gives limit t in
    let done = upper_done bytes reader.given later.given t.before l t.rest (ahead later now) t.at line n conflicts (told_answer bytes reader.given reader.lines u l (ahead reader mid) None t answer) in
    let due = (passes (nat_le 3 (length t.before)) true why.Form (ap (upper_failure u (length t.before)) (sym conflicts) ∙ (ap (λ k. upper_failure u k l) t.count ∙ answer))).0 in
    let none : length t.before + 1 ≡ length t.before + 1 + 0 = omega arith in
    let read = subst (λ k. IsReadTo upgrade_limit later.given bytes (t.before ++ Some k ∷ []) line.next) conflicts line.read in
    record {
      rest = line.next;
      is_ahead = line.is_ahead;
      upper = t.before;
      rows = [];
      read = subst (λ ls. IsReadTo upgrade_limit later.given bytes ls line.next) (sym (append-nil (t.before ++ Some (of.Conflicts n) ∷ []))) read;
      at = done.0;
      long = leb-true 3 (length t.before) due;
      none = t.knows.rows;
      number = omega arith;
      counted = (let c = t.count in let g = gives.lines in omega (arith, c, g));
      made = ap (λ ls. ls ++ of.Conflicts n ∷ []) t.knows.lines;
      left_checks = subst (λ k. AreFormsLeft bytes (row_forms (read_lines bytes) k n ++ end_checks (read_lines bytes) (length t.before + 1 + n))) none done.1;
    }

-- What is written of it.
pub upper_writable : (reader later : ReaderView) (here there : Option (List ℕ)) (lines : List CertLine) (l : CertLine) → AreWritable reader.given lines → GivesLine l reader later here there → AreWritable later.given (lines ++ l ∷ [])
upper_writable reader later here there lines l is gives = writable_push reader.given later.given lines l is (has_word l gives.fit) gives.given
