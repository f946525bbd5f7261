-- How a run ends whose command has answered.
use Rattle.std.proofs.Common.{ℕ, ◌≡◌, ◌∙◌, ◌⊎◌, inl, inr, List, ◌++◌, ap, sym, subst, refl, length, take, Option, Some, None, Result, Ok, Err, true}
use Rattle.std.specs.Io.KnownBytes.{append_known}
use Rattle.std.proofs.Math.Seq.{take-length}
use Rattle.outside.specs.Faults.{Rose}
use Rattle.outside.specs.Files.{FilesView}
use Rattle.outside.proofs.Known.{append_known-append, append_known-empty}
use Rattle.report.specs.Refusals.{RefusalView, refusal_text, no_memory, file_failed, not_words, certificate_failed, not_json, not_object, not_text, not_report, too_many_dictionaries, too_many_bytes, outline_too_long, too_many_entries, too_many_nodes, too_many_states, certificate_too_long, rejected}
use Rattle.commands.specs.Commands.{CommandView}
use Rattle.commands.specs.Inputs.{certificate_in, checks, dictionaries_in, file_in, finds, report_in, target_of}
use Rattle.audit_top.specs.Outcomes.{Expected, Inputs, Written}
use Rattle.outside.specs.declared.fault.Way.{Way}
use Rattle.outside.specs.declared.fault.Way.TheVariants.{Reading, Writing}
use Rattle.audit_top.specs.Runs.{AddsPart, Ends, EndsAsExpected, EndsWhole, FailedAt, FailsToRead, FileFailed, IsFailure, IsFilePart, IsRun, MayProduce, NoFault, OutputView, PutsFailure, World}
use Rattle.audit_top.specs.Statuses.{refusal_status}
use Rattle.audit_top.specs.inside.Answers.{Begins, Begun, IsAnswer, IsAnswered, IsStopped, Refuses}
use Rattle.audit_top.specs.inside.Endings.{EndsLine, EndsMemory, EndsStop, Finishes}
use Rattle.audit_top.specs.inside.Stops.{Stop, by_memory, by_output, by_refusal, stop_of}
use Rattle.audit_top.specs.declared.refusals.Refusal.{Refusal}
use Rattle.audit_top.specs.declared.status.Status.{Status}
use Rattle.audit_top.specs.declared.status.Status.TheVariants.{Conflicts, Words, File, Output, Memory, Rejected}
use Rattle.audit_top.proofs.Causes.{fits}
use Rattle.audit_top.proofs.Stacks.{are-some, at, is-some_file, some_contents, some_file}
use Rattle.audit_top.proofs.Stops.{begins-nothing}

-- ---- the texts

-- a part that was begun, and then a part of the line that says that memory ran out
part : (May : Expected → Type 0) (old mid new : Option (List ℕ)) (n : ℕ) → Begins May old mid → new ≡ append_known mid (take n (refusal_text no_memory)) → AddsPart May old new
part May old mid new n begins added = record {
  begun = begins.begun;
  is_begun = begins.is_begun;
  line = n;
  added = added ∙ ap (λ t. append_known t (take n (refusal_text no_memory))) begins.added ∙ append_known-append old begins.begun (take n (refusal_text no_memory));
}

-- ---- the end

ends-ok : (May : Expected → Type 0) (before : World) (files : FilesView) (mid after : OutputView) (ended status : Status) → EndsWhole May before (at files mid) ended → status ≡ ended → after ≡ mid → Ends May before (at files after) status
ends-ok May before files mid after ended status whole same stays = inl (record {
  result = whole.result;
  may = whole.may;
  ends = same ∙ whole.ends;
  text = ap (λ (o : OutputView). o.text) stays ∙ whole.text;
  files = whole.files;
  steady = ap (λ (o : OutputView). o.faults) stays ∙ whole.steady;
})

ends-output : (May : Expected → Type 0) (before : World) (files : FilesView) (mid after : OutputView) (status : Status) → Begun May before (at files mid) → Rose before.out.faults mid.faults → status ≡ Output → after ≡ mid
    → Ends May before (at files after) status
ends-output May before files mid after status begun rose is stays = inr (record {
  ends = inl is;
  output = λ _. subst (λ (o : OutputView). Rose before.out.faults o.faults) (sym stays) rose;
  memory = λ e. absurd (cc (is, e));
  text = part May before.out.text mid.text after.text 0 begun.text (ap (λ (o : OutputView). o.text) stays ∙ sym (append_known-empty mid.text));
  file = begun.file;
  part = begun.part;
  files = begun.files;
})

-- a count that hasn't changed before the end
rose_since : (a b c : ℕ) → b ≡ a → Rose b c → Rose a c
rose_since a b c same rose = subst (λ (n : ℕ). Rose n c) same rose

ends-memory : (May : Expected → Type 0) (before : World) (files : FilesView) (mid after : OutputView) (status : Status) → Begun May before (at files mid) → mid.faults ≡ before.out.faults → EndsMemory mid after status
    → Ends May before (at files after) status
ends-memory May before files mid after status begun steady end = inr (record {
  ends = end.fails.ends;
  output = λ e. rose_since before.out.faults mid.faults after.faults steady (end.fails.output e);
  memory = λ e. end.fails.memory e ∙ steady;
  text = part May before.out.text mid.text after.text end.line begun.text end.text;
  file = begun.file;
  part = begun.part;
  files = begun.files;
})

-- a refusal whose line was cut off wrote its own file
own_part : (May : Expected → Type 0) (result : Expected) (file : Option Written) → May result → result.file ≡ file → IsFilePart May file
own_part May result None may is = tt
own_part May result (Some file) may is = (result, file, may, is, refl, (length file.bytes, sym (take-length file.bytes)))

ends-refused : (May : Expected → Type 0) (before : World) (files : FilesView) (mid after : OutputView) (refusal : RefusalView) (status : Status) → Refuses May before (at files mid) refusal → EndsLine refusal mid after status
    → Ends May before (at files after) status
ends-refused May before files mid after refusal status refuses (inl puts) = inl (record {
  result = refuses.result;
  may = refuses.may;
  ends = puts.ends ∙ sym refuses.ends;
  text = puts.text ∙ ap (λ (o : OutputView). append_known o.text (refusal_text refusal)) refuses.out ∙ ap (append_known before.out.text) (sym refuses.line);
  files = refuses.files;
  steady = puts.steady ∙ ap (λ (o : OutputView). o.faults) refuses.out;
})
ends-refused May before files mid after refusal status refuses (inr cuts) =
    let same : mid.faults ≡ before.out.faults = ap (λ (o : OutputView). o.faults) refuses.out in
    inr (record {
      ends = cuts.fails.ends;
      output = λ e. rose_since before.out.faults mid.faults after.faults same (cuts.fails.output e);
      memory = λ e. cuts.fails.memory e ∙ same;
      text = record {
        begun = take cuts.put (refusal_text refusal);
        is_begun = inr (refuses.result, refuses.may, (cuts.put, ap (take cuts.put) (sym refuses.line)));
        line = cuts.line;
        added = cuts.text ∙ ap (λ (o : OutputView). append_known o.text (take cuts.put (refusal_text refusal) ++ take cuts.line (refusal_text no_memory))) refuses.out;
      };
      file = refuses.result.file;
      part = own_part May refuses.result refuses.result.file refuses.may refl;
      files = refuses.files;
    })

ends-stopped : (May : Expected → Type 0) (before : World) (files : FilesView) (mid after : OutputView) (stop : Stop) (status : Status) → IsStopped May before (at files mid) stop → EndsStop stop mid after status
    → Ends May before (at files after) status
ends-stopped May before files mid after by_output status is end = ends-output May before files mid after status is.0 is.1 end.0 end.1
ends-stopped May before files mid after by_memory status is end = ends-memory May before files mid after status is.0 is.1 end
ends-stopped May before files mid after (by_refusal refusal) status is end = ends-refused May before files mid after refusal status is end

ends : (May : Expected → Type 0) (before : World) (files : FilesView) (mid after : OutputView) (answer : Result Status Refusal) (status : Status) → IsAnswered May before (at files mid) answer
    → Finishes answer mid after status → Ends May before (at files after) status
ends May before files mid after (Ok ended) status is end = ends-ok May before files mid after ended status is end.0 end.1
ends May before files mid after (Err refusal) status is end = ends-stopped May before files mid after (stop_of refusal) status is end

-- ---- causes

rose_at : (name : Option (List ℕ)) (way : Way) (old new : FilesView) → FailedAt name way old new → Rose old.faults new.faults
rose_at None way old new failed = absurd failed
rose_at (Some name) way old new failed = failed.rose

-- a file's failure has its status, and the count of faults rose
failure_fits : (command : Option CommandView) (inputs : Inputs) (old new : FilesView) (refusal : RefusalView) → FileFailed command inputs old new refusal → (refusal_status refusal ≡ File) × Rose old.faults new.faults
failure_fits command inputs old new (file_failed file) (inl failed) = (refl, failed.0.fault.rose)
failure_fits command inputs old new (file_failed file) (inr failed) = (refl, rose_at (report_in command) Reading old new failed.1.0)
failure_fits command inputs old new not_words failed = absurd failed
failure_fits command inputs old new certificate_failed failed = (refl, by failed.failed)
  where
    by : FailsToRead (certificate_in command) old new ⊎ FailedAt (target_of command) Writing old new → Rose old.faults new.faults
    by (inl read) = rose_at (certificate_in command) Reading old new read.0
    by (inr written) = rose_at (target_of command) Writing old new written
failure_fits command inputs old new (not_json file) failed = absurd failed
failure_fits command inputs old new (not_object file) failed = absurd failed
failure_fits command inputs old new (not_text file key) failed = absurd failed
failure_fits command inputs old new (not_report file) failed = absurd failed
failure_fits command inputs old new (too_many_dictionaries n) failed = absurd failed
failure_fits command inputs old new (too_many_bytes file) failed = absurd failed
failure_fits command inputs old new (outline_too_long file key parts) failed = absurd failed
failure_fits command inputs old new (too_many_entries n) failed = absurd failed
failure_fits command inputs old new (too_many_nodes n) failed = absurd failed
failure_fits command inputs old new (too_many_states n) failed = absurd failed
failure_fits command inputs old new certificate_too_long failed = absurd failed
failure_fits command inputs old new no_memory failed = absurd failed
failure_fits command inputs old new (rejected at why) failed = absurd failed

pub status-failed : (command : Option CommandView) (inputs : Inputs) (old new : FilesView) (result : Expected) → IsFailure command inputs old new result → result.status ≡ File
status-failed command inputs old new result failure = failure.status_is ∙ (failure_fits command inputs old new failure.refusal failure.failed).0

-- a run that is cut off has no other status
cut_only : (status other : Status) → (status ≡ Output) ⊎ (status ≡ Memory) → status ≡ other → (other ≡ Output → ⊥) → (other ≡ Memory → ⊥) → ⊥
cut_only status other (inl e) is not_output not_memory = not_output (sym is ∙ e)
cut_only status other (inr e) is not_output not_memory = not_memory (sym is ∙ e)

found : (command : Option CommandView) (inputs : Inputs) (before after : World) (status : Status) → Ends (MayProduce command inputs before after) before after status → status ≡ Conflicts → finds command ≡ true
found command inputs before after status (inr cut) is = absurd (cut_only status Conflicts cut.ends is (λ e. cc) (λ e. cc))
found command inputs before after status (inl whole) is = by whole.may
  where
    by : MayProduce command inputs before after whole.result → finds command ≡ true
    by (inl may) = (fits inputs command whole.result may).found (sym whole.ends ∙ is)
    by (inr failure) = let s = status-failed command inputs before.files after.files whole.result failure in absurd (cc (s, whole.ends, is))

arguments : (command : Option CommandView) (inputs : Inputs) (before after : World) (status : Status) → Ends (MayProduce command inputs before after) before after status → status ≡ Words → command ≡ None
arguments command inputs before after status (inr cut) is = absurd (cut_only status Words cut.ends is (λ e. cc) (λ e. cc))
arguments command inputs before after status (inl whole) is = by whole.may
  where
    by : MayProduce command inputs before after whole.result → command ≡ None
    by (inl may) = (fits inputs command whole.result may).arguments (sym whole.ends ∙ is)
    by (inr failure) = let s = status-failed command inputs before.files after.files whole.result failure in absurd (cc (s, whole.ends, is))

rejects : (command : Option CommandView) (inputs : Inputs) (before after : World) (status : Status) → Ends (MayProduce command inputs before after) before after status → status ≡ Rejected → checks command ≡ true
rejects command inputs before after status (inr cut) is = absurd (cut_only status Rejected cut.ends is (λ e. cc) (λ e. cc))
rejects command inputs before after status (inl whole) is = by whole.may
  where
    by : MayProduce command inputs before after whole.result → checks command ≡ true
    by (inl may) = (fits inputs command whole.result may).rejected (sym whole.ends ∙ is)
    by (inr failure) = let s = status-failed command inputs before.files after.files whole.result failure in absurd (cc (s, whole.ends, is))

failed : (command : Option CommandView) (inputs : Inputs) (before after : World) (status : Status) → Ends (MayProduce command inputs before after) before after status → status ≡ File → PutsFailure command inputs before after
failed command inputs before after status (inr cut) is = absurd (cut_only status File cut.ends is (λ e. cc) (λ e. cc))
failed command inputs before after status (inl whole) is = by whole.may
  where
    by : MayProduce command inputs before after whole.result → PutsFailure command inputs before after
    by (inl may) = absurd ((fits inputs command whole.result may).file (sym whole.ends ∙ is))
    by (inr failure) = record { refusal = failure.refusal; failed = failure.failed; line = whole.text ∙ ap (append_known before.out.text) failure.text_is }

outputs : (command : Option CommandView) (inputs : Inputs) (before after : World) (status : Status) → Ends (MayProduce command inputs before after) before after status → status ≡ Output → Rose before.out.faults after.out.faults
outputs command inputs before after status (inr cut) is = cut.output is
outputs command inputs before after status (inl whole) is = by whole.may
  where
    by : MayProduce command inputs before after whole.result → Rose before.out.faults after.out.faults
    by (inl may) = absurd ((fits inputs command whole.result may).output (sym whole.ends ∙ is))
    by (inr failure) = let s = status-failed command inputs before.files after.files whole.result failure in absurd (cc (s, whole.ends, is))

steadies : (command : Option CommandView) (inputs : Inputs) (before after : World) (status : Status) → Ends (MayProduce command inputs before after) before after status → (status ≡ Output → ⊥) → after.out.faults ≡ before.out.faults
steadies command inputs before after status (inl whole) other = whole.steady
steadies command inputs before after status (inr cut) other = by cut.ends
  where
    by : (status ≡ Output) ⊎ (status ≡ Memory) → after.out.faults ≡ before.out.faults
    by (inl e) = absurd (other e)
    by (inr e) = cut.memory e

complete : (command : Option CommandView) (inputs : Inputs) (before after : World) (status : Status) → Ends (MayProduce command inputs before after) before after status → NoFault before after
    → (status ≡ Memory) ⊎ EndsAsExpected inputs command status
complete command inputs before after status (inl whole) none = by whole.may
  where
    by : MayProduce command inputs before after whole.result → (status ≡ Memory) ⊎ EndsAsExpected inputs command status
    by (inl may) = inr (whole.result, may, whole.ends)
    by (inr failure) = absurd (none.0 (failure_fits command inputs before.files after.files failure.refusal failure.failed).1)
complete command inputs before after status (inr cut) none = by cut.ends
  where
    by : (status ≡ Output) ⊎ (status ≡ Memory) → (status ≡ Memory) ⊎ EndsAsExpected inputs command status
    by (inl e) = absurd (none.1 (cut.output e))
    by (inr e) = inl e

-- a command has answered, and the run was finished
pub run-finished : (command : Option CommandView) (before : World) (files : FilesView) (mid after : OutputView) (answer : Result Status Refusal) (status : Status) → IsAnswer command before (at files mid) answer
    → Finishes answer mid after status → IsRun command before (at files after) status
run-finished command before files mid after answer status is end =
    let ended = ends (MayProduce command is.inputs before (at files mid)) before files mid after answer status is.is end in
    record {
      inputs = is.inputs;
      read = is.read;
      ends = ended;
      found = found command is.inputs before (at files after) status ended;
      arguments = arguments command is.inputs before (at files after) status ended;
      failed = failed command is.inputs before (at files after) status ended;
      output = outputs command is.inputs before (at files after) status ended;
      steady = steadies command is.inputs before (at files after) status ended;
      rejected = rejects command is.inputs before (at files after) status ended;
      unchanged = is.unchanged;
      opened = is.opened;
      faults = is.faults;
      unread = is.unread;
      complete = complete command is.inputs before (at files after) status ended;
    }

-- a run whose memory ran out at once
pub memory-run : (command : Option CommandView) (files : FilesView) (old new : OutputView) (status : Status) → EndsMemory old new status → IsRun command (at files old) (at files new) status
memory-run command files old new status end =
    let inputs : Inputs = record { dictionaries = some_contents files.held (dictionaries_in command); file = some_file files.held (file_in command) } in
    let May : Expected → Type 0 = MayProduce command inputs (at files old) (at files new) in
    let ended = ends-memory May (at files old) files old new status (record { text = begins-nothing May old.text; file = None; part = tt; files = refl }) refl end in
    record {
      inputs = inputs;
      read = record { dictionaries = are-some files.held (dictionaries_in command); file = is-some_file files.held (file_in command) };
      ends = ended;
      found = found command inputs (at files old) (at files new) status ended;
      arguments = arguments command inputs (at files old) (at files new) status ended;
      failed = failed command inputs (at files old) (at files new) status ended;
      output = outputs command inputs (at files old) (at files new) status ended;
      steady = steadies command inputs (at files old) (at files new) status ended;
      rejected = rejects command inputs (at files old) (at files new) status ended;
      unchanged = λ _. record { held = refl; writing = refl };
      opened = inl refl;
      faults = inl refl;
      unread = λ _. refl;
      complete = complete command inputs (at files old) (at files new) status ended;
    }
