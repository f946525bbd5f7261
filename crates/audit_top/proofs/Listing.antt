-- The parts of `rows`, and what is expected of it.
use Rattle.std.proofs.Common.{ℕ, ◌+◌, ◌≡◌, ◌≤◌, ◌<◌, ◌∙◌, ◌⊎◌, inl, inr, List, ap, sym, subst, refl, arith, length, Option, Some, None, IfSome, Result, Err, true, false, true≢false, Bool, if◌then◌else◌}
use Rattle.std.specs.List.{range_with_len}
use Rattle.std.proofs.lemmas.List.FromFn.{length-range_with_len}
use Rattle.outside.specs.Faults.{Steady, is_read_failed}
use Rattle.outside.specs.Files.{FaultAt, FilesView, Held, IsLastOpened, LeavesFiles}
use Rattle.outside.specs.declared.fault.ReadFault.{ReadFault}
use Rattle.outside.specs.declared.fault.ReadFault.TheVariants as read
use Rattle.outside.specs.declared.fault.Way.TheVariants.{Reading}
use Rattle.certificate.specs.Readers.{OpensFile}
use Rattle.dict_json.specs.Reading.{reading}
use Rattle.dict_files.proofs.FirstRefusals.{if_over-over, if_over-within}
use Rattle.dict_files.specs.declared.loading.TheConstants.{MAX_BYTES}
use Rattle.report.specs.Refusals.{file_failed, not_json, not_report, too_many_bytes}
use Rattle.report_json.specs.JsonFaults.{IsJsonCause}
use Rattle.report_json.specs.JsonLines.{listing_text}
use Rattle.report_json.specs.JsonReports.{IsJsonReport, JsonReportView, report_value}
use Rattle.report_json.specs.ReadOutcomes.{IsReadOutcome, ReadOutcome, a_report, another_value, no_value}
use Rattle.report_json.specs.declared.faults.JsonFault.{JsonFault}
use Rattle.report_json.specs.declared.faults.JsonFault.TheVariants as json
use Rattle.commands.specs.Commands.{rows as rows_of}
use Rattle.audit_top.specs.Listed.{IsListed, IsRows, ListsRows, bytes_limit, rows_result}
use Rattle.audit_top.specs.Outcomes.{prints, refused}
use Rattle.audit_top.specs.Runs.{FailsToRead, OutputView}
use Rattle.audit_top.specs.inside.Answers.{Answers, Goes, MayGo, reads_only}
use Rattle.audit_top.specs.inside.Stops.{refusal_of_json, refusal_of_read, stop_of}
use Rattle.audit_top.specs.declared.refusals.Refusal.{Refusal}
use Rattle.audit_top.specs.declared.refusals.Refusal.TheVariants as of
use Rattle.audit_top.specs.declared.status.Status.{Status}
use Rattle.audit_top.specs.declared.status.Status.TheVariants.{Clean}
use Rattle.audit_top.proofs.OtherFiles.{IsAlone, opened_as, reading-failed, reading-goes}
use Rattle.audit_top.proofs.Stacks.{at, lift, some_file}
use Rattle.audit_top.proofs.Stops.{begins-nothing, ran-out, refused-first, unless-none, unless-some}

-- ---- the bytes

within-limit : (bytes : List ℕ) → length bytes ≤ MAX_BYTES → bytes_limit bytes ≡ None
within-limit bytes within = if_over-within MAX_BYTES (λ _. too_many_bytes 1) (length bytes) within

over-limit : (bytes : List ℕ) → MAX_BYTES < length bytes → bytes_limit bytes ≡ Some (too_many_bytes 1)
over-limit bytes over = if_over-over MAX_BYTES (λ _. too_many_bytes 1) (length bytes) over

listed_as : (bytes : List ℕ) (outcome : ReadOutcome) → length bytes ≤ MAX_BYTES → IsReadOutcome (reading bytes) outcome → IsListed bytes (rows_result outcome)
listed_as bytes outcome within is =
    unless-none (bytes_limit bytes) (ListsRows bytes) (within-limit bytes within) (rows_result outcome) (record { outcome = outcome; is = is; produces = refl })

-- the rows of the report that was read
pub report-listed : (bytes : List ℕ) (report : JsonReportView) → length bytes ≤ MAX_BYTES → reading bytes ≡ Some (report_value report) → IsJsonReport report → IsListed bytes (prints Clean (listing_text report))
report-listed bytes report within is is_report = listed_as bytes (a_report report) within (record { is_report = is_report; is = is })

-- the bytes are no report's
pub no-report : (bytes : List ℕ) (out : OutputView) (answer : Result Status Refusal) (refusal : Refusal) (fault : JsonFault) → length bytes ≤ MAX_BYTES → IsJsonCause (reading bytes) fault → answer ≡ Err refusal → refusal ≡ refusal_of_json fault
    → Answers (IsListed bytes) out out answer
no-report bytes out answer refusal json.NotJson within cause is by =
    refused-first (IsListed bytes) out answer refusal (not_json 1) is (ap stop_of by) (listed_as bytes no_value within cause)
no-report bytes out answer refusal json.NotReport within cause is by =
    refused-first (IsListed bytes) out answer refusal (not_report 1) is (ap stop_of by) (listed_as bytes another_value within cause)
no-report bytes out answer refusal json.Memory within cause is by = ran-out (IsListed bytes) out answer refusal is by

-- ---- the file

-- what reading a whole file does to the files
pub opens-read : (name : List ℕ) (failed : Bool) (old new : FilesView) → LeavesFiles old new → IsLastOpened name old new → new.latest ≡ (if failed then Some (name, Reading) else old.latest) → old.faults ≤ new.faults
    → (failed ≡ true → FaultAt name Reading old new) → Steady failed old.faults new.faults → OpensFile name failed old new
opens-read name failed old new leaves opened latest later fault steady =
    record { leaves = leaves; opened = opened; latest = latest; later = later; rose = λ is. (fault is).rose; steady = steady }

-- some bytes are more than any limit
long_list : (n : ℕ) → (bytes : List ℕ) × (n < length bytes)
long_list n = (range_with_len 0 (n + 1), let count = length-range_with_len 0 (n + 1) in omega (arith, count))

too_long_is : (told : Option Held) (name : List ℕ) → IfSome told (λ held. MAX_BYTES < length (held name)) → IsRows (some_file told (Some name)) (refused (too_many_bytes 1))
unfolding some_file
too_long_is None name long =
    let some = long_list MAX_BYTES in
    (some.0, unless-some (bytes_limit some.0) (ListsRows some.0) (too_many_bytes 1) (over-limit some.0 some.1))
too_long_is (Some held) name long = unless-some (bytes_limit (held name)) (ListsRows (held name)) (too_many_bytes 1) (over-limit (held name) long)

-- the same, by why it wasn't read
pub opens-unread : (T : Type 0) (name : List ℕ) (fault : ReadFault) (old new : FilesView) → LeavesFiles old new → IsLastOpened name old new → new.latest ≡ (if is_read_failed {T = T} (Err fault) then Some (name, Reading) else old.latest)
    → old.faults ≤ new.faults → (fault ≡ read.Failed → FaultAt name Reading old new) → Steady (is_read_failed {T = T} (Err fault)) old.faults new.faults → OpensFile name (is_read_failed {T = T} (Err fault)) old new
opens-unread T name read.Failed old new leaves opened latest later failed steady = opens-read name true old new leaves opened latest later (λ _. failed refl) steady
opens-unread T name read.TooLong old new leaves opened latest later failed steady = opens-read name false old new leaves opened latest later (λ f. absurd (true≢false (sym f))) steady
opens-unread T name read.Memory old new leaves opened latest later failed steady = opens-read name false old new leaves opened latest later (λ f. absurd (true≢false (sym f))) steady

by_fault : (T : Type 0) (name : List ℕ) (old new : FilesView) (out : OutputView) (fault : ReadFault) → (fault ≡ read.TooLong → IfSome old.held (λ held. MAX_BYTES < length (held name))) → OpensFile name (is_read_failed {T = T} (Err fault)) old new
    → Goes (file_failed 1) None (reads_only name) IsRows (at old out) (at new out) (Err (refusal_of_read fault))
by_fault T name old new out read.Failed long opens = reading-failed (file_failed 1) name IsRows old new out of.ReportFailed opens refl (λ e. cc)
by_fault T name old new out read.TooLong long opens =
    reading-goes (file_failed 1) None name IsRows old new out out (Err of.ReportLong) opens (too_long_is old.held name (long refl), refl)
by_fault T name old new out read.Memory long opens =
    reading-goes (file_failed 1) None name IsRows old new out out (Err of.Memory) opens (begins-nothing (IsRows (some_file old.held (Some name))) out.text, refl)

-- the file wasn't read
pub unread : (T : Type 0) (name : List ℕ) (old new : FilesView) (out : OutputView) (fault : ReadFault) (answer : Result Status Refusal) (refusal : Refusal) → (fault ≡ read.TooLong → IfSome old.held (λ held. MAX_BYTES < length (held name)))
    → OpensFile name (is_read_failed {T = T} (Err fault)) old new → answer ≡ Err refusal → refusal ≡ refusal_of_read fault → Goes (file_failed 1) None (reads_only name) IsRows (at old out) (at new out) answer
unread T name old new out fault answer refusal long opens is by =
    subst (Goes (file_failed 1) None (reads_only name) IsRows (at old out) (at new out)) (sym (is ∙ ap Err by)) (by_fault T name old new out fault long opens)

-- it was read
pub read-goes : (name bytes kept : List ℕ) (old new : FilesView) (before after : OutputView) (answer : Result Status Refusal) → bytes ≡ kept → IfSome old.held (λ held. kept ≡ held name) → OpensFile name false old new → Answers (IsListed bytes) before after answer
    → Goes (file_failed 1) None (reads_only name) IsRows (at old before) (at new after) answer
read-goes name bytes kept old new before after answer same held opens answers = record {
  file = Some bytes;
  told = by old.held held;
  is = lift (IsListed bytes) (MayGo (file_failed 1) None (reads_only name) (IsRows (Some bytes)) (at old before) (at new after)) old new before after answer opens.leaves.held (λ r is. inl is) answers;
  memory = λ e. opens.steady refl;
  unchanged = λ e. opens.leaves;
  opened = opened_as name old new opens.opened;
  faults = inl (opens.steady refl);
}
  where
    by : (told : Option Held) → IfSome told (λ held. kept ≡ held name) → IfSome told (λ held. Some bytes ≡ Some (held name))
    by None is = tt
    by (Some held) is = ap Some (same ∙ is)

-- ---- the command

pub is-rows : (file : List ℕ) → IsAlone (Some (rows_of file)) (file_failed 1) (reads_only file) IsRows
is-rows file = record {
  no_dictionaries = refl;
  read = refl;
  written = refl;
  reads = refl;
  needs = refl;
  fails = λ inputs old new none failed. inr (refl, by old new failed);
  expected = λ inputs r is. is;
}
  where
    by : (old new : FilesView) → FailsToRead (Some file) old new ⊎ ⊥ → FailsToRead (Some file) old new
    by old new (inl is) = is
    by old new (inr is) = absurd is
