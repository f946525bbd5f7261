-- A file that becomes empty, is written and is ended.
use Rattle.std.proofs.Common.{◌≡◌, ℕ, ◌≤◌, List, [], ◌++◌, length, take, refl, sym, ap, subst, arith, Bool, true, false, true≢false, cond, Option, Some, None, ◌∙◌, IfSome, inl, inr}
use Rattle.std.specs.Prelude.{Result, Ok, Err, OnOk, IfErr, option_map}
use Rattle.std.proofs.Math.Seq.{take-length}
use Rattle.outside.specs.Faults.{Rose}
use Rattle.outside.specs.Files.{Both, Extends, FilesView, Held, Replaces}
use Rattle.outside.specs.declared.fault.Way.TheVariants.{Writing}
use Rattle.certificate.specs.CertFaults.{IsOutside, is_cert_failed}
use Rattle.certificate.specs.Readers.{certificate_limit}
use Rattle.certificate.specs.Writers.{AddsBytes, AddsPrefix, BeginsFile, EndsFile, OnlyPuts}
use Rattle.certificate.specs.declared.faults.CertFault.{CertFault}
use Rattle.certificate.specs.declared.faults.CertFault.TheVariants as fault
use Rattle.certificate.specs.declared.lines.CertLine.{CertLine}
use Rattle.audit_certificate.specs.Written.{IsCutShort, LeavesFile, WritesFile, fitting_text, lines_text, lines_within}
use Rattle.audit_certificate.specs.inside.Puts.{LeavesLines, PutsAll, PutsLines}
use Rattle.audit_certificate.proofs.Fitting.{fitting_all}

-- What is added to an empty file is all that it has.
filled : (name bytes : List ℕ) (old mid new : Option Held) → Both (Replaces name []) old mid → Both (Extends name bytes) mid new → Both (Replaces name bytes) old new
filled name bytes None None None a b = tt
filled name bytes None None (Some n) a b = absurd b
filled name bytes None (Some m) new a b = absurd a
filled name bytes (Some o) None new a b = absurd a
filled name bytes (Some o) (Some m) None a b = absurd b
filled name bytes (Some o) (Some m) (Some n) a b = record {
  here = b.here ∙ ap (λ xs. xs ++ bytes) a.here;
  others = λ other ne. b.others other ne ∙ a.others other ne;
}

-- what is said of the name that is being written, where it is this one
named : (writing : Option (List ℕ)) (name : List ℕ) (P : List ℕ → Type 0) → writing ≡ Some name → IfSome writing P → P name
named writing name P is h = subst (λ o. IfSome o P) is h

-- ---- the file of this name became empty, and lines were put

module _ (name : List ℕ) (lines : List CertLine) (old mid new : FilesView) (writing : mid.writing ≡ Some name) (emptied : Both (Replaces name []) old.held mid.held) where
  holds_bytes : (bytes : List ℕ) → AddsBytes bytes mid new → Both (Replaces name bytes) old.held new.held
  holds_bytes bytes h = filled name bytes old.held mid.held new.held emptied (named mid.writing name (λ name. Both (Extends name bytes) mid.held new.held) writing h)

  holds_prefix : (bytes : List ℕ) → AddsPrefix bytes mid new → IsCutShort name bytes old.held new.held
  holds_prefix bytes h =
      let b = named mid.writing name (λ name. (n : ℕ) × (n ≤ length bytes) × Both (Extends name (take n bytes)) mid.held new.held) writing h in
      inr (b.0, b.1, filled name (take b.0 bytes) old.held mid.held new.held emptied b.2)

  -- The whole text stands in it,
  pub holds_all : (now : ℕ) → PutsAll lines 0 now mid new → Both (Replaces name (lines_text lines)) old.held new.held
  holds_all now h = holds_bytes (lines_text lines) h.added

  -- or what a fault leaves of it.
  pub holds_part : (f : CertFault) → LeavesLines lines f 0 mid new → LeavesFile name lines f old.held new.held
  holds_part fault.TooLong h = record { passes = (let p = h.passes in omega (arith, p)); holds = holds_bytes (lines_text (lines_within 0 lines)) h.added }
  holds_part fault.Failed h = holds_prefix (fitting_text lines) h
  holds_part fault.Memory h = holds_prefix (fitting_text lines) h
  holds_part (fault.Bad line) h = absurd h

-- ---- a fault at the end leaves what there is

whole_short : (name xs : List ℕ) (old new : Option Held) → Both (Replaces name xs) old new → IsCutShort name xs old new
whole_short name xs old new h = inr (length xs, omega arith, subst (λ bytes. Both (Replaces name bytes) old new) (sym (take-length xs)) h)

short : (name : List ℕ) (lines : List CertLine) (f : CertFault) (old new : Option Held) → LeavesFile name lines f old new → IsCutShort name (fitting_text lines) old new
short name lines fault.TooLong old new h = whole_short name (fitting_text lines) old new h.holds
short name lines fault.Failed old new h = h
short name lines fault.Memory old new h = h
short name lines (fault.Bad line) old new h = absurd h

-- all lines that were put fit
all_fit : (lines : List CertLine) (now : ℕ) (mid new : FilesView) → PutsAll lines 0 now mid new → fitting_text lines ≡ lines_text lines
all_fit lines now mid new h =
    let count = h.count in
    let within = h.within in
    fitting_all lines (omega (arith, count, within))

-- ---- the clauses

module _ {T : Type 0} (name : List ℕ) (lines : List CertLine) (put : Result T CertFault) (start now : ℕ) (begun : start ≡ 0) (old mid new last : FilesView) (writing : mid.writing ≡ Some name)
    (emptied : Both (Replaces name []) old.held mid.held) (puts : PutsLines lines put start now mid new) (held : last.held ≡ new.held) where
  put_first : PutsLines lines put 0 now mid new
  put_first = subst (λ n. PutsLines lines put n now mid new) begun puts

  -- Where all was put and the writing ended, the file is the whole text,
  pub ends_whole : OnOk put (Both (Replaces name (lines_text lines)) old.held last.held)
  ends_whole = by put put_first
    where
      by : (put : Result T CertFault) → PutsLines lines put 0 now mid new → OnOk put (Both (Replaces name (lines_text lines)) old.held last.held)
      by (Ok x) h = subst (λ o. Both (Replaces name (lines_text lines)) old.held o) (sym held) (holds_all name lines old mid new writing emptied now h)
      by (Err f) h = tt

  -- which fits,
  pub ends_fit : OnOk put (length (lines_text lines) ≤ certificate_limit)
  ends_fit = by put put_first
    where
      by : (put : Result T CertFault) → PutsLines lines put 0 now mid new → OnOk put (length (lines_text lines) ≤ certificate_limit)
      by (Ok x) h = let c = h.count in let w = h.within in omega (arith, c, w)
      by (Err f) h = tt

  -- where it wasn't, the file is what the fault leaves,
  pub ends_part : IfErr put (λ f. LeavesFile name lines f old.held last.held)
  ends_part = by put put_first
    where
      by : (put : Result T CertFault) → PutsLines lines put 0 now mid new → IfErr put (λ f. LeavesFile name lines f old.held last.held)
      by (Ok x) h = tt
      by (Err f) h = subst (λ o. LeavesFile name lines f old.held o) (sym held) (holds_part name lines old mid new writing emptied f h.leaves)

  -- and where the end failed, it is a prefix of the lines that fit.
  pub fails_part : IsCutShort name (fitting_text lines) old.held last.held
  fails_part = by put put_first
    where
      by : (put : Result T CertFault) → PutsLines lines put 0 now mid new → IsCutShort name (fitting_text lines) old.held last.held
      by (Ok x) h =
          let whole = subst (λ text. Both (Replaces name text) old.held new.held) (sym (all_fit lines now mid new h)) (holds_all name lines old mid new writing emptied now h) in
          subst (λ o. IsCutShort name (fitting_text lines) old.held o) (sym held) (whole_short name (fitting_text lines) old.held new.held whole)
      by (Err f) h = subst (λ o. IsCutShort name (fitting_text lines) old.held o) (sym held) (short name lines f old.held new.held (holds_part name lines old mid new writing emptied f h.leaves))

-- A call that only puts, by its answer.
pub only_puts : {T : Type 0} (lines : List CertLine) (put : Result T CertFault) (now : ℕ) (mid new : FilesView) → PutsLines lines put 0 now mid new → OnlyPuts (is_cert_failed put) mid new
only_puts lines (Ok x) now mid new h = h.puts
only_puts lines (Err f) now mid new h = h.puts

-- A file that wasn't begun.
pub begins_none : (name : List ℕ) (lines : List CertLine) (f : CertFault) (old new : FilesView) → IsOutside f → new.held ≡ old.held → LeavesFile name lines f old.held new.held
begins_none name lines fault.TooLong old new is same = absurd is
begins_none name lines fault.Failed old new is same = inl same
begins_none name lines fault.Memory old new is same = inl same
begins_none name lines (fault.Bad line) old new is same = absurd is

-- What a refused beginning does.
pub begins_refused : {T : Type 0} (name : List ℕ) (f : CertFault) (failed : Bool) (old new : FilesView) → is_cert_failed {T = T} (Err f) ≡ failed → BeginsFile name {T = T} (Err f) old new → WritesFile name failed old new
begins_refused name f failed old new same a = record {
  writing = a.writing;
  opened = a.opened;
  latest = subst (λ b. new.latest ≡ cond b (Some (name, Writing)) old.latest) same a.latest;
  later = a.later;
  rose = λ e. a.rose (same ∙ e);
  steady = λ e. a.steady (same ∙ e);
}

-- A file was begun, put to and ended, and this failed where the answer says so.
pub writes_file : {T : Type 0} (name : List ℕ) (x : T) (put_failed end_failed : Bool) (old mid new last : FilesView) → BeginsFile name {T = T} (Ok x) old mid → OnlyPuts put_failed mid new → EndsFile end_failed new last
    → (failed : Bool) → failed ≡ cond end_failed true put_failed → WritesFile name failed old last
writes_file name x put_failed end_failed old mid new last a b c failed is = record {
  writing = c.writing;
  opened = c.opened ∙ (b.opened ∙ a.opened);
  latest = subst (λ f. last.latest ≡ cond f (Some (name, Writing)) old.latest) (sym is) (latest end_failed put_failed c.latest b.latest);
  later = (let x = a.later in let y = b.later in let z = c.later in omega (arith, x, y, z));
  rose = λ e. rises end_failed put_failed (sym is ∙ e) c.rose b.rose;
  steady = λ e. rests end_failed put_failed (sym is ∙ e) c.steady b.steady;
}
  where
    here : new.writing ≡ Some name
    here = b.writing ∙ a.writing

    latest : (e p : Bool) → last.latest ≡ cond e (option_map (λ name. (name, Writing)) new.writing) new.latest → new.latest ≡ cond p (option_map (λ name. (name, Writing)) mid.writing) mid.latest
        → last.latest ≡ cond (cond e true p) (Some (name, Writing)) old.latest
    latest true p l m = l ∙ ap (option_map (λ name. (name, Writing))) here
    latest false true l m = l ∙ (m ∙ ap (option_map (λ name. (name, Writing))) a.writing)
    latest false false l m = l ∙ (m ∙ a.latest)

    start : mid.faults ≡ old.faults
    start = a.steady refl

    rises : (e p : Bool) → cond e true p ≡ true → (e ≡ true → Rose new.faults last.faults) → (p ≡ true → Rose mid.faults new.faults) → Rose old.faults last.faults
    rises true p is end put = let r = end refl in let x = a.later in let y = b.later in omega (arith, r, x, y)
    rises false true is end put = let r = put refl in let x = a.later in let z = c.later in omega (arith, r, x, z)
    rises false false is end put = absurd (true≢false (sym is))

    rests : (e p : Bool) → cond e true p ≡ false → (e ≡ false → last.faults ≡ new.faults) → (p ≡ false → new.faults ≡ mid.faults) → last.faults ≡ old.faults
    rests true p is end put = absurd (true≢false is)
    rests false true is end put = absurd (true≢false is)
    rests false false is end put = end refl ∙ (put refl ∙ start)
