-- The loop over the lines down to the conflicts.
use Rattle.std.proofs.Common.{◌≡◌, ℕ, ◌^◌, ◌+◌, ◌-◌, ◌<◌, ◌≤◌, List, [], ◌∷◌, ◌++◌, length, refl, sym, ap, subst, arith, Bool, true, false, cond, true≢false, ◌∙◌, Option, Some, None}
use Rattle.std.specs.Prelude.{option_map, IfSome, is_some}
use Rattle.std.specs.Io.KnownBytes.{prepend_known}
use Rattle.std.proofs.lemmas.Bool.{le-leb}
use Rattle.outside.specs.Faults.{Rose}
use Rattle.outside.specs.Files.{FilesView}
use Rattle.outside.specs.declared.fault.Way.TheVariants.{Reading}
use Rattle.certificate.specs.declared.lines.CertLine.{CertLine}
use Rattle.certificate.specs.declared.lines.CertLine.TheVariants as of
use Rattle.cert_check.specs.Verdicts.{IsFaultOf}
use Rattle.cert_check.specs.inside.Places.{places_from, ends_listed}
use Rattle.cert_check.specs.Reading.{IsReadTo, BeginsWithout}
use Rattle.cert_check.specs.inside.Uppers.{Represents, IsSound, IsUpperRead, TakesLine}
use Rattle.certificate.specs.CertLines.{line_text, fits}
use Rattle.certificate.specs.CertReading.{read_lines}
use Rattle.certificate.specs.Readers.{ReaderView, new_reader, OnlyTakes, ahead, certificate_limit}
use Rattle.certificate_laws.specs.Checks.{Lines, is_conflicts, rejected}
use Rattle.certificate_laws.specs.Closures.{Closure, closure_of}
use Rattle.certificate_laws.specs.Validity.{check_outcome}
use Rattle.certificate.proofs.FirstLines.{read_lines-line}
use Rattle.report.specs.declared.faults.Why.{Why}
use Rattle.report.specs.declared.faults.Why.TheVariants as why
use Rattle.steno_rules.specs.StateNumbers.{number_count}
use Rattle.certificate.proofs.Passing.{takes_same}
use Rattle.cert_check.specs.declared.faults.CheckFault.{CheckFault}
use Rattle.cert_check.specs.declared.upper.Upper.{Upper}
use Rattle.cert_check.proofs.ReadLemmas.{read_begin, read_next, missing}
use Rattle.cert_check.proofs.StageLemmas.{AtUpper, at_begin, upper_missing, upper_fails, upper_on, upper_done}
use Rattle.cert_check.proofs.AnswerLemmas.{conflicts_answers, no_le}

-- bytes that are taken in two calls, of which the first didn't fail
pub takes_on : (b : Bool) (old mid new : FilesView) → OnlyTakes false old mid → OnlyTakes b mid new → OnlyTakes b old new
takes_on b old mid new x y = record {
  leaves = record { held = y.leaves.held ∙ x.leaves.held; writing = y.leaves.writing ∙ x.leaves.writing; opened = y.leaves.opened ∙ x.leaves.opened };
  latest = y.latest ∙ (ap (λ o. cond b (option_map (λ name. (name, Reading)) o) mid.latest) x.leaves.opened ∙ ap (λ l. cond b (option_map (λ name. (name, Reading)) old.opened) l) x.latest);
  later = (let a = x.later in let c = y.later in omega (arith, a, c));
  rose = λ is. rose_later old.faults mid.faults new.faults x.later (y.rose is);
  steady = λ is. y.steady is ∙ x.steady refl;
}
  where
    rose_later : (a b c : ℕ) → a ≤ b → Rose b c → Rose a c
    rose_later a b c le rose = omega (arith, le, rose)

-- what is ahead behind a line that was given
pub next_rest : (here there : Option (List ℕ)) (text rest : List ℕ) → here ≡ Some rest → here ≡ prepend_known text there → (next : List ℕ) × (there ≡ Some next) × (rest ≡ text ++ next)
next_rest here None text rest is e = absurd (true≢false (ap is_some (sym is ∙ e)))
next_rest here (Some next) text rest is e = (next, refl, some_same rest (text ++ next) (sym is ∙ e))
  where
    some_same : (a b : List ℕ) → Some a ≡ Some b → a ≡ b
    some_same a b e' = cc

-- what is known, where the files tell their bytes
pub record ToldUpper (closure : Closure) (bytes : List ℕ) (given : ℕ) (u : Upper) (now : Option (List ℕ)) : Type 0 where
  pub rest : List ℕ
  pub is_ahead : now ≡ Some rest
  pub before : Lines
  pub represents : Represents u before
  pub at : AtUpper closure given bytes before rest

-- what the loop keeps
pub record IsReadingUpper (entries : List (List ℕ)) (flags : List Bool) (first reader : ReaderView) (old now : FilesView) (u : Upper) : Type 0 where
  pub takes : OnlyTakes false old now
  pub limit : reader.limit ≡ 4294967296
  pub lines : reader.lines ≡ u.lines
  pub sound : IsSound entries u
  pub told : (bytes : List ℕ) → ahead first old ≡ Some bytes → ToldUpper (closure_of entries flags) bytes reader.given u (ahead reader now)

-- at the start
pub upper_start : (entries : List (List ℕ)) (flags : List Bool) (first : ReaderView) (old : FilesView) (u : Upper) → first ≡ new_reader certificate_limit →
    number_count entries ≤ 33554432 → u.lines ≡ 0 → u.places.items ≡ [] → IsReadingUpper entries flags first first old old u
upper_start entries flags first old u is few lines places = record {
  takes = takes_same old;
  limit = ap (λ (r : ReaderView). r.limit) is;
  lines = ap (λ (r : ReaderView). r.lines) is ∙ sym lines;
  sound = record {
    limit = few;
    lines = omega (arith, lines);
    few = subst (λ ps. length ps ≤ number_count entries) (sym places) (omega arith);
    last = subst (λ ps. ends_listed ps ≡ true) (sym places) refl;
  };
  told = λ bytes told. record {
    rest = bytes;
    is_ahead = told;
    before = [];
    represents = record { count = sym lines; version = λ some. absurd (omega (arith, some, lines)); states = ap (places_from 0) places };
    at = subst (λ n. AtUpper (closure_of entries flags) n bytes [] bytes) (sym (ap (λ (r : ReaderView). r.given) is)) (at_begin (closure_of entries flags) bytes (read_begin certificate_limit bytes));
  };
}

-- what is known of one more line
pub record NextUpper (closure : Closure) (bytes : List ℕ) (given more : ℕ) (u : Upper) (l : CertLine) (now : Option (List ℕ)) : Type 0 where
  pub before : Lines
  pub rest : List ℕ
  pub next : List ℕ
  pub is_ahead : now ≡ Some next
  pub represents : Represents u before
  pub at : AtUpper closure given bytes before rest
  pub lines_are : read_lines rest ≡ Some l ∷ read_lines next
  pub read : IsReadTo certificate_limit more bytes (before ++ Some l ∷ []) next

pub next_upper : (closure : Closure) (bytes : List ℕ) (given more : ℕ) (u : Upper) (l : CertLine) (here now : Option (List ℕ)) → ToldUpper closure bytes given u here → here ≡ prepend_known (line_text l) now → fits l ≡ true →
    more ≡ given + length (line_text l) → more ≤ 4294967296 → NextUpper closure bytes given more u l now
next_upper closure bytes given more u l here now told line fit is within =
    let r = next_rest here now (line_text l) told.rest told.is_ahead line in record {
      before = told.before;
      rest = told.rest;
      next = r.0;
      is_ahead = r.1;
      represents = told.represents;
      at = told.at;
      lines_are = ap read_lines r.2 ∙ read_lines-line l r.0 fit;
      read =
          subst (λ n. IsReadTo certificate_limit n bytes (told.before ++ Some l ∷ []) r.0) (sym is)
          (read_next certificate_limit given bytes told.before l r.0 fit (subst (λ n. n ≤ certificate_limit) is within) (subst (IsReadTo certificate_limit given bytes told.before) r.2 told.at.read));
    }

pub if_some : (o : Option (List ℕ)) (x : List ℕ) (P : List ℕ → Type 0) → o ≡ Some x → IfSome o P → P x
if_some o x P e h = subst (λ p. IfSome p P) e h

-- where no line comes
pub told_missing : (closure : Closure) (bytes : List ℕ) (given limit n : ℕ) (u : Upper) (now : Option (List ℕ)) (f : CheckFault) → ToldUpper closure bytes given u now → limit ≡ 4294967296 → n ≡ u.lines →
    IfSome now (λ bytes. BeginsWithout (limit - given) n bytes f) → IsFaultOf (check_outcome closure bytes) f
told_missing closure bytes given limit n u now f told is lines h =
    let begins = if_some now told.rest (λ bytes. BeginsWithout (limit - given) n bytes f) told.is_ahead h in
    upper_missing closure given bytes told.before told.rest f told.at
    (missing certificate_limit given n bytes told.before told.rest f told.at.read (lines ∙ sym told.represents.count) (subst (λ k. BeginsWithout (k - given) n told.rest f) is begins))

-- where a line fails
pub told_fails : (closure : Closure) (bytes : List ℕ) (given more : ℕ) (u new : Upper) (l : CertLine) (now : Option (List ℕ)) (reason : Why) → NextUpper closure bytes given more u l now → TakesLine closure u new l (Some reason) →
    check_outcome closure bytes ≡ rejected (u.lines + 1) reason
told_fails closure bytes given more u new l now reason h takes =
    upper_fails closure given more bytes h.before l h.rest h.next reason h.lines_are h.at h.read (takes h.before h.represents).0
    ∙ ap (λ n. rejected (n + 1) reason) h.represents.count

-- where it's content_check
pub told_on : (closure : Closure) (bytes : List ℕ) (given more : ℕ) (u new : Upper) (l : CertLine) (now : Option (List ℕ)) → NextUpper closure bytes given more u l now → TakesLine closure u new l None → is_conflicts (Some l) ≡ false → ToldUpper closure bytes more new now
told_on closure bytes given more u new l now h takes other =
    let t = takes h.before h.represents in record {
      rest = h.next;
      is_ahead = h.is_ahead;
      before = h.before ++ Some l ∷ [];
      represents = t.1 refl;
      at = upper_on closure given more bytes h.before l h.rest h.next h.lines_are h.at h.read t.0 other;
    }

-- at the conflicts
pub told_early : (closure : Closure) (bytes : List ℕ) (given more n : ℕ) (u : Upper) (now : Option (List ℕ)) → NextUpper closure bytes given more u (of.Conflicts n) now → u.lines < 3 → check_outcome closure bytes ≡ rejected (u.lines + 1) why.Form
told_early closure bytes given more n u now h early =
    upper_fails closure given more bytes h.before (of.Conflicts n) h.rest h.next why.Form h.lines_are h.at h.read
    (sym (conflicts_answers closure u n h.before h.represents ∙ ap (λ b. cond b None (Some why.Form)) (no_le 3 u.lines early)))
    ∙ ap (λ k. rejected (k + 1) why.Form) h.represents.count

pub told_done : (closure : Closure) (bytes : List ℕ) (given more n : ℕ) (u : Upper) (now : Option (List ℕ)) → NextUpper closure bytes given more u (of.Conflicts n) now → 3 ≤ u.lines → IsUpperRead closure bytes more u n now
told_done closure bytes given more n u now h late =
    subst (IsUpperRead closure bytes more u n) (sym h.is_ahead)
    (upper_done closure given more n bytes h.before h.rest h.next u h.lines_are h.at h.read (sym (conflicts_answers closure u n h.before h.represents ∙ ap (λ b. cond b None (Some why.Form)) (le-leb 3 u.lines late))) h.represents)

pub not_conflicts : (l : CertLine) → ((n : ℕ) → l ≡ of.Conflicts n → ⊥) → is_conflicts (Some l) ≡ false
not_conflicts (of.Head v) h = refl
not_conflicts (of.Entries k) h = refl
not_conflicts (of.States k) h = refl
not_conflicts (of.Distance s d) h = refl
not_conflicts (of.Run s t d) h = refl
not_conflicts (of.Conflicts n) h = absurd (h n refl)
not_conflicts (of.Row r) h = refl
not_conflicts of.End h = refl

-- the same for a line that is known to be this one
pub told_early_at : (closure : Closure) (bytes : List ℕ) (given more n : ℕ) (u : Upper) (l : CertLine) (now : Option (List ℕ)) → NextUpper closure bytes given more u l now → l ≡ of.Conflicts n → u.lines < 3 → check_outcome closure bytes ≡ rejected (u.lines + 1) why.Form
told_early_at closure bytes given more n u l now h is early = told_early closure bytes given more n u now (subst (λ k. NextUpper closure bytes given more u k now) is h) early

pub told_done_at : (closure : Closure) (bytes : List ℕ) (given more n : ℕ) (u : Upper) (l : CertLine) (now : Option (List ℕ)) → NextUpper closure bytes given more u l now → l ≡ of.Conflicts n → 3 ≤ u.lines → IsUpperRead closure bytes more u n now
told_done_at closure bytes given more n u l now h is late = told_done closure bytes given more n u now (subst (λ k. NextUpper closure bytes given more u k now) is h) late

-- One line more.
pub upper_more : (entries : List (List ℕ)) (flags : List Bool) (first reader later : ReaderView) (old mid now : FilesView) (u new : Upper) (l : CertLine) (failure : Option Why) → IsReadingUpper entries flags first reader old mid u →
    ahead reader mid ≡ prepend_known (line_text l) (ahead later now) → fits l ≡ true → later.given ≡ reader.given + length (line_text l) → later.lines ≡ reader.lines + 1 → later.given ≤ later.limit → later.limit ≡ reader.limit → OnlyTakes false mid now →
    TakesLine (closure_of entries flags) u new l failure → failure ≡ None → is_conflicts (Some l) ≡ false → IsSound entries new → new.lines ≡ cond (is_some failure) u.lines (u.lines + 1) → IsReadingUpper entries flags first later old now new
upper_more entries flags first reader later old mid now u new l failure is line fit given lines within limit takes answer none other sound counted = record {
  takes = takes_on false old mid now is.takes takes;
  limit = limit ∙ is.limit;
  lines = lines ∙ (ap (λ n. n + 1) is.lines ∙ sym (counted ∙ ap (λ o. cond (is_some o) u.lines (u.lines + 1)) none));
  sound = sound;
  told = λ bytes told.
      told_on (closure_of entries flags) bytes reader.given later.given u new l (ahead later now)
      (next_upper (closure_of entries flags) bytes reader.given later.given u l (ahead reader mid) (ahead later now) (is.told bytes told) line fit given (let m = is.limit in omega (arith, within, limit, m)))
      (subst (TakesLine (closure_of entries flags) u new l) none answer) other;
}

-- A line that fails.
pub upper_stops : (entries : List (List ℕ)) (flags : List Bool) (first reader later : ReaderView) (old mid now : FilesView) (u new : Upper) (l : CertLine) (failure : Option Why) (reason : Why) (n : ℕ) → IsReadingUpper entries flags first reader old mid u →
    ahead reader mid ≡ prepend_known (line_text l) (ahead later now) → fits l ≡ true → later.given ≡ reader.given + length (line_text l) → later.given ≤ later.limit → later.limit ≡ reader.limit →
    TakesLine (closure_of entries flags) u new l failure → failure ≡ Some reason → new.lines ≡ cond (is_some failure) u.lines (u.lines + 1) → n ≡ new.lines →
    (bytes : List ℕ) → ahead first old ≡ Some bytes → check_outcome (closure_of entries flags) bytes ≡ rejected (n + 1) reason
upper_stops entries flags first reader later old mid now u new l failure reason n is line fit given within limit answer some counted same bytes told =
    told_fails (closure_of entries flags) bytes reader.given later.given u new l (ahead later now) reason
    (next_upper (closure_of entries flags) bytes reader.given later.given u l (ahead reader mid) (ahead later now) (is.told bytes told) line fit given (let m = is.limit in omega (arith, within, limit, m)))
    (subst (TakesLine (closure_of entries flags) u new l) some answer)
    ∙ ap (λ k. rejected (k + 1) reason) (sym (same ∙ (counted ∙ ap (λ o. cond (is_some o) u.lines (u.lines + 1)) some)))

pub few_lines : (entries : List (List ℕ)) (u new : Upper) (failure : Option Why) (reason : Why) (n : ℕ) → IsSound entries u → failure ≡ Some reason → new.lines ≡ cond (is_some failure) u.lines (u.lines + 1) → n ≡ new.lines → n + 1 < 2 ^ 64
few_lines entries u new failure reason n is some counted same =
    let e : new.lines ≡ u.lines = counted ∙ ap (λ o. cond (is_some o) u.lines (u.lines + 1)) some in
    let a = is.lines in let b = is.few in let c = is.limit in omega (arith, e, same, a, b, c)
