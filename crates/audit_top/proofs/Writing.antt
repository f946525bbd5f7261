-- What an audit returns that writes its certificate before its report.
use Rattle.std.proofs.Common.{ℕ, ◌≡◌, ◌≤◌, ◌<◌, ◌∙◌, inl, inr, List, ap, ap₂, sym, subst, refl, arith, length, take, Option, Some, None, IfSome, Result, Ok, Err, Bool, true, false, cond, nat_lt}
use Rattle.std.specs.Io.KnownBytes.{append_known}
use Rattle.std.proofs.Math.Seq.{take-length}
use Rattle.std.proofs.lemmas.Bool.Decides.{nat_tests}
use Rattle.outside.specs.Files.{Both, FaultAt, FilesView, Held, Replaces}
use Rattle.outside.specs.Sink.{AppendsPrefix, Puts}
use Rattle.outside.specs.declared.fault.OutsideFault.{OutsideFault}
use Rattle.outside.specs.declared.fault.OutsideFault.TheVariants as out_of
use Rattle.outside.specs.declared.fault.Way.TheVariants.{Writing}
use Rattle.steno_rules.specs.ClosureGraphs.{kept_lists}
use Rattle.longest_match.specs.Rows.{AreConflicts, Row}
use Rattle.conflict_example.specs.Chosen.{AreChosen, words_in_stack}
use Rattle.round_core.specs.Searches.{IsSearched, SettledView}
use Rattle.certificate.specs.Readers.{certificate_limit}
use Rattle.certificate.specs.CertFaults.{is_cert_failed}
use Rattle.certificate.specs.declared.faults.CertFault.{CertFault}
use Rattle.certificate.specs.declared.faults.CertFault.TheVariants as cert
use Rattle.audit_certificate.specs.OwnCertificates.{own_certificate}
use Rattle.audit_certificate.specs.Written.{IsCutShort, LeavesFile, WritesFile, fitting_text, own_certificate_lines}
use Rattle.audit_certificate.proofs.Fitting.{fitting_all}
use Rattle.dict_stack.specs.Stacks.{StackView}
use Rattle.report.specs.Refusals.{certificate_failed, certificate_too_long, refusal_text}
use Rattle.commands.specs.Commands.{audit_to}
use Rattle.audit_top.specs.Audited.{IsAuditTo, report_alone, report_and_certificate, report_or_limit}
use Rattle.audit_top.specs.Outcomes.{Expected, Written, refused, search_limit}
use Rattle.audit_top.specs.Runs.{IsFilePart, OutputView, World, Writes}
use Rattle.audit_top.specs.Statuses.{refusal_status}
use Rattle.audit_top.specs.inside.Answers.{Begun, FailsBehind, Goes, IsAnswered, IsStopped, MayGo, writes_only}
use Rattle.audit_top.specs.inside.Stops.{refusal_of_cert, refusal_of_report, stop_of}
use Rattle.audit_top.specs.declared.refusals.Refusal.{Refusal}
use Rattle.audit_top.specs.declared.refusals.Refusal.TheVariants as of
use Rattle.audit_top.specs.declared.status.Status.{Status}
use Rattle.audit_top.proofs.OtherFiles.{IsBehind}
use Rattle.audit_top.proofs.Reports.{conflicts-are}
use Rattle.audit_top.proofs.Stacks.{at, refused-stack}
use Rattle.audit_top.proofs.Stops.{begins-nothing, prefix-begun}

-- what was found of a stack
pub record AreFound (stack : StackView) (searched : SettledView) (rows : List Row) : Type 0 where
  pub exact : AreConflicts stack.outlines (words_in_stack stack) rows
  pub chosen : AreChosen stack.outlines (words_in_stack stack) searched.words rows
  pub search : IsSearched 0 (kept_lists stack.outlines (words_in_stack stack)) searched

module _ (name : List ℕ) (stack : StackView) (searched : SettledView) (rows : List Row) (found : AreFound stack searched rows) where
  abbrev pub expected : Expected
  expected = report_and_certificate name stack searched rows

  abbrev pub text_of : List ℕ
  text_of = own_certificate (length stack.outlines) searched.words rows

  abbrev pub fitting : List ℕ
  fitting = fitting_text (own_certificate_lines (length stack.outlines) searched.words rows)

  may : IsAuditTo name stack expected
  may = conflicts-are (report_and_certificate name) stack searched rows found.exact found.chosen found.search

  -- the certificate passes the limit, or fits
  over : certificate_limit < length text_of → report_or_limit stack searched rows ≡ refused certificate_too_long
  over passes =
      let test : nat_lt certificate_limit (length (own_certificate (length stack.outlines) searched.words rows)) ≡ true = grind (arith, nat_tests) in
      ap (λ (b : Bool). cond b (refused certificate_too_long) (report_alone stack searched rows)) test

  within : length text_of ≤ certificate_limit → report_or_limit stack searched rows ≡ report_alone stack searched rows
  within fits =
      let test : nat_lt certificate_limit (length (own_certificate (length stack.outlines) searched.words rows)) ≡ false = grind (arith, nat_tests) in
      ap (λ (b : Bool). cond b (refused certificate_too_long) (report_alone stack searched rows)) test

  -- a part of it stands in the file
  part_is : (n : ℕ) → IsFilePart (IsAuditTo name stack) (Some (record { name = name; bytes = take n fitting }))
  part_is n = (expected, record { name = name; bytes = fitting }, may, refl, refl, (n, refl))

  -- what the file has after a fault
  pub record IsLeft (old new : Option Held) : Type 0 where
    pub file : Option Written
    pub part : IsFilePart (IsAuditTo name stack) file
    pub files : (o n : FilesView) → o.held ≡ old → n.held ≡ new → Writes file o n

  left : (old new : Option Held) → IsCutShort name fitting old new → IsLeft old new
  left old new (inl same) = record { file = None; part = tt; files = λ o n before after. after ∙ same ∙ sym before }
  left old new (inr (n, short, both)) = record {
    file = Some (record { name = name; bytes = take n fitting });
    part = part_is n;
    files = λ o m before after. subst (λ (h : Option Held). Both (Replaces name (take n fitting)) h m.held) (sym before) (subst (λ (h : Option Held). Both (Replaces name (take n fitting)) old h) (sym after) both);
  }

  some_named : Some name ≡ None → ⊥
  some_named e = cc e

  -- no file is read
  none_told : (told : Option Held) → IfSome told (λ held. IfSome None (λ (n : List ℕ). None ≡ Some (held n)))
  none_told None = tt
  none_told (Some held) = tt

  -- what holds of the files whatever the output does
  goes : (old new : FilesView) (before after : OutputView) (answer : Result Status Refusal) → WritesFile name false old new → IsAnswered (MayGo certificate_failed None (writes_only name) (IsAuditTo name stack) (at old before) (at new after)) (at old before) (at new after) answer
      → Goes certificate_failed None (writes_only name) (λ file. IsAuditTo name stack) (at old before) (at new after) answer
  goes old new before after answer writes is = record {
    file = None;
    told = none_told old.held;
    is = is;
    memory = λ e. writes.steady refl;
    unchanged = λ (e : Some name ≡ None). absurd (some_named e);
    opened = inl writes.opened;
    faults = inl (writes.steady refl);
  }

  -- such a part is one of what may be produced
  part_more : (before after : World) (file : Option Written) → IsFilePart (IsAuditTo name stack) file → IsFilePart (MayGo certificate_failed None (writes_only name) (IsAuditTo name stack) before after) file
  part_more before after None part = tt
  part_more before after (Some file) (result, whole, is, same, named, rest) = (result, whole, inl is, same, named, rest)

  certificate_differs : of.Certificate ≡ of.Memory → ⊥
  certificate_differs e = cc e

  by_fault : (T : Type 0) (old new : FilesView) (out : OutputView) (fault : CertFault) → LeavesFile name (own_certificate_lines (length stack.outlines) searched.words rows) fault old.held new.held → WritesFile name (is_cert_failed {T = T} (Err fault)) old new
      → Goes certificate_failed None (writes_only name) (λ file. IsAuditTo name stack) (at old out) (at new out) (Err (refusal_of_cert fault))
  by_fault T old new out cert.TooLong leaves writes =
      let line = over leaves.passes in
      goes old new out out (Err of.CertificateLong) writes (record {
        result = expected;
        may = inl may;
        ends = ap (λ (r : Expected). r.status) line;
        line = ap (λ (r : Expected). r.text) line;
        out = refl;
        files = leaves.holds;
      })
  by_fault T old new out cert.Memory leaves writes =
      let l = left old.held new.held leaves in
      goes old new out out (Err of.Memory) writes (record { text = begins-nothing (MayGo certificate_failed None (writes_only name) (IsAuditTo name stack) (at old out) (at new out)) out.text; file = l.file; part = part_more (at old out) (at new out) l.file l.part; files = l.files old new refl refl }, refl)
  by_fault T old new out cert.Failed leaves writes =
      let l = left old.held new.held leaves in
      let fault : FaultAt name Writing old new = record { rose = writes.rose refl; place = writes.latest } in
      let behind : FailsBehind None (writes_only name) old new = record { accepted = refl; failed = inr fault } in
      record {
        file = None;
        told = none_told old.held;
        is = record {
          result = record { status = refusal_status certificate_failed; text = refusal_text certificate_failed; file = l.file };
          may = inr (record { behind = behind; status_is = refl; text_is = refl; part = l.part });
          ends = refl;
          line = refl;
          out = refl;
          files = l.files old new refl refl;
        };
        memory = λ (e : Err of.Certificate ≡ Err of.Memory). absurd (certificate_differs cc);
        unchanged = λ (e : Some name ≡ None). absurd (some_named e);
        opened = inl writes.opened;
        faults = inr behind;
      }
  by_fault T old new out (cert.Bad line) leaves writes = absurd leaves

  -- writing the certificate was refused
  pub write-stopped : (T : Type 0) (old new : FilesView) (out : OutputView) (fault : CertFault) (answer : Result Status Refusal) (refusal : Refusal) → LeavesFile name (own_certificate_lines (length stack.outlines) searched.words rows) fault old.held new.held
      → WritesFile name (is_cert_failed {T = T} (Err fault)) old new → answer ≡ Err refusal → refusal ≡ refusal_of_cert fault
      → Goes certificate_failed None (writes_only name) (λ file. IsAuditTo name stack) (at old out) (at new out) answer
  write-stopped T old new out fault answer refusal leaves writes is by =
      subst (Goes certificate_failed None (writes_only name) (λ file. IsAuditTo name stack) (at old out) (at new out)) (sym (is ∙ ap Err by)) (by_fault T old new out fault leaves writes)

  -- it was written
  whole_file : (old new : FilesView) → length text_of ≤ certificate_limit → Both (Replaces name text_of) old.held new.held → Both (Replaces name fitting) old.held new.held
  whole_file old new fits both = subst (λ (bytes : List ℕ). Both (Replaces name bytes) old.held new.held) (sym (fitting_all (own_certificate_lines (length stack.outlines) searched.words rows) fits)) both

  -- and then the report was put whole
  pub write-whole : (old new : FilesView) (before after : OutputView) (status : Status) → length text_of ≤ certificate_limit → Both (Replaces name text_of) old.held new.held → WritesFile name false old new
      → status ≡ Expected.status (report_alone stack searched rows) → after.text ≡ append_known before.text (Expected.text (report_alone stack searched rows)) → after.faults ≡ before.faults
      → Goes certificate_failed None (writes_only name) (λ file. IsAuditTo name stack) (at old before) (at new after) (Ok status)
  write-whole old new before after status fits both writes ends text steady =
      goes old new before after (Ok status) writes (record {
        result = expected;
        may = inl may;
        ends = ends ∙ sym (ap (λ (r : Expected). r.status) (within fits));
        text = text ∙ sym (ap (λ (r : Expected). append_known before.text r.text) (within fits));
        files = whole_file old new fits both;
        steady = steady;
      })

  -- or it was cut off
  begun_by : (old new : FilesView) (before after : OutputView) → length text_of ≤ certificate_limit → Both (Replaces name text_of) old.held new.held → AppendsPrefix before.text after.text (Expected.text (report_alone stack searched rows))
      → Begun (MayGo certificate_failed None (writes_only name) (IsAuditTo name stack) (at old before) (at new after)) (at old before) (at new after)
  begun_by old new before after fits both prefix = record {
    text = prefix-begun (MayGo certificate_failed None (writes_only name) (IsAuditTo name stack) (at old before) (at new after)) before.text after.text expected (inl may)
        (subst (λ (r : Expected). AppendsPrefix before.text after.text r.text) (sym (within fits)) prefix);
    file = Some (record { name = name; bytes = fitting });
    part = (expected, record { name = name; bytes = fitting }, inl may, refl, refl, (length fitting, sym (take-length fitting)));
    files = whole_file old new fits both;
  }

  put_cut : {T : Type 0} (old new : FilesView) (before after : OutputView) (fault : OutsideFault) → length text_of ≤ certificate_limit → Both (Replaces name text_of) old.held new.held → WritesFile name false old new
      → Puts (Expected.text (report_alone stack searched rows)) {T = T} (Err fault) before.text after.text before.faults after.faults
      → IsStopped (MayGo certificate_failed None (writes_only name) (IsAuditTo name stack) (at old before) (at new after)) (at old before) (at new after) (stop_of (refusal_of_report fault))
  put_cut old new before after out_of.Failed fits both writes puts = (begun_by old new before after fits both puts.prefix, puts.failed refl)
  put_cut old new before after out_of.Memory fits both writes puts = (begun_by old new before after fits both puts.prefix, puts.steady refl)

  pub write-cut : {T : Type 0} (old new : FilesView) (before after : OutputView) (fault : OutsideFault) (answer : Result Status Refusal) (refusal : Refusal) → length text_of ≤ certificate_limit → Both (Replaces name text_of) old.held new.held → WritesFile name false old new
      → Puts (Expected.text (report_alone stack searched rows)) {T = T} (Err fault) before.text after.text before.faults after.faults → answer ≡ Err refusal → refusal ≡ refusal_of_report fault
      → Goes certificate_failed None (writes_only name) (λ file. IsAuditTo name stack) (at old before) (at new after) answer
  write-cut {T} old new before after fault answer refusal fits both writes puts is by =
      goes old new before after answer writes
      (subst (IsAnswered (MayGo certificate_failed None (writes_only name) (IsAuditTo name stack) (at old before) (at new after)) (at old before) (at new after)) (sym (is ∙ ap Err by)) (put_cut {T = T} old new before after fault fits both writes puts))

-- ---- the numbers of the program's lists are those of the stack and of the search

module _ (name : List ℕ) (stack : StackView) (searched : SettledView) (rows : List Row) (entries : ℕ) (words : List ℕ) (count : entries ≡ length stack.outlines) (same : words ≡ searched.words) where
  pub leaves-as : (fault : CertFault) (old new : Option Held) → LeavesFile name (own_certificate_lines entries words rows) fault old new → LeavesFile name (own_certificate_lines (length stack.outlines) searched.words rows) fault old new
  leaves-as fault old new leaves =
      subst (λ (n : ℕ). LeavesFile name (own_certificate_lines n searched.words rows) fault old new) count
      (subst (λ (t : List ℕ). LeavesFile name (own_certificate_lines entries t rows) fault old new) same leaves)

  pub text-as : own_certificate entries words rows ≡ own_certificate (length stack.outlines) searched.words rows
  text-as = ap₂ (λ (n : ℕ) (t : List ℕ). own_certificate n t rows) count same

  pub fits-as : length (own_certificate entries words rows) ≤ certificate_limit → length (own_certificate (length stack.outlines) searched.words rows) ≤ certificate_limit
  fits-as fits = subst (λ (text : List ℕ). length text ≤ certificate_limit) text-as fits

  pub whole-as : (old new : Option Held) → Both (Replaces name (own_certificate entries words rows)) old new → Both (Replaces name (own_certificate (length stack.outlines) searched.words rows)) old new
  whole-as old new both = subst (λ (text : List ℕ). Both (Replaces name text) old new) text-as both

-- ---- the command

pub is-audit_to : (certificate : List ℕ) (workers : ℕ) (dicts : List (List ℕ)) → IsBehind (Some (audit_to certificate workers dicts)) dicts (writes_only certificate) (λ file. IsAuditTo certificate)
is-audit_to certificate workers dicts = record {
  base = record { dictionaries = refl; reads = refl; needs = refl; refused = λ inputs refusal first. refused-stack search_limit (IsAuditTo certificate) dicts inputs.dictionaries refusal first };
  no_report = refl;
  read = refl;
  written = refl;
  expected = λ inputs r is. is;
}
