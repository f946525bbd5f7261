-- What a part of a command returns that reads or writes one more file behind the dictionaries.
use Rattle.std.proofs.Common.{ℕ, ◌≡◌, ◌∙◌, ◌⊎◌, inl, inr, List, [], ap, sym, subst, refl, length, Option, Some, None, IfSome, IsSome, Result, Ok, Err, true, false, true≢false, ◌<◌, ◌≤◌, arith}
use Rattle.std.specs.Prelude.{is_some}
use Rattle.outside.specs.Faults.{Rose}
use Rattle.outside.specs.Files.{Both, FaultAt, FilesView, Held, IsLastOpened, LeavesFiles, Replaces}
use Rattle.outside.specs.declared.fault.Way.{Way}
use Rattle.outside.specs.declared.fault.Way.TheVariants.{Reading, Writing}
use Rattle.certificate.specs.Readers.{OpensFile}
use Rattle.dict_stack.specs.Stacks.{StackView, most_dictionaries}
use Rattle.dict_files.specs.Contents.{AreContents, ReadsOnly}
use Rattle.dict_files.specs.Loading.{IsLoaded}
use Rattle.dict_files.specs.Refusals.{dictionaries_refusal, first_of, stack_from}
use Rattle.report.specs.Refusals.{RefusalView, certificate_failed}
use Rattle.commands.specs.Commands.{CommandView, check}
use Rattle.audit_top.specs.Checked.{IsCheck}
use Rattle.commands.specs.Inputs.{certificate_in, dictionaries_in, file_in, first_named, reads_files, report_in, target_of, writes}
use Rattle.audit_top.specs.Outcomes.{Expected, Inputs, OverStack, UnlessRefused, Written, refused, search_limit}
use Rattle.audit_top.specs.Expected.{IsExpected}
use Rattle.audit_top.specs.Runs.{CertificateFailed, FailedAt, FailsNamed, FailsToRead, FileFailed, IsFilePart, MayProduce, OpensNamed, OutputView, Writes}
use Rattle.audit_top.specs.inside.Answers.{Answers, Begun, FailsBehind, Goes, IsAnswer, IsAnswered, IsStopped, MayGo, Touched, needs_memory, reads_only}
use Rattle.audit_top.specs.inside.Stops.{Stop, by_memory, by_output, by_refusal, stop_of}
use Rattle.audit_top.specs.declared.refusals.Refusal.{Refusal}
use Rattle.audit_top.specs.declared.refusals.Refusal.TheVariants as of
use Rattle.audit_top.specs.declared.status.Status.{Status}
use Rattle.audit_top.proofs.Stacks.{HasStack, accepted_stack, are_none, at, few_accepted, few_need, is-some_file, lift, opens, refused-stack, some_file, too_many}
use Rattle.audit_top.proofs.Stops.{begins-weaker, unless-none}

-- ---- what may be produced is more, and the files were other ones with the same contents

part_weaker : (May May' : Expected → Type 0) (file : Option Written) → ((r : Expected) → May r → May' r) → IsFilePart May file → IsFilePart May' file
part_weaker May May' None to is = tt
part_weaker May May' (Some file) to (result, whole, may, is, name, rest) = (result, whole, to result may, is, name, rest)

writes_from : (file : Option Written) (old mid new : FilesView) → mid.held ≡ old.held → Writes file mid new → Writes file old new
writes_from None old mid new held is = is ∙ held
writes_from (Some file) old mid new held is = subst (λ (h : Option Held). Both (Replaces file.name file.bytes) h new.held) held is

begun_from : (May May' : Expected → Type 0) (old mid new : FilesView) (before after : OutputView) → mid.held ≡ old.held → ((r : Expected) → May r → May' r) → Begun May (at mid before) (at new after) → Begun May' (at old before) (at new after)
begun_from May May' old mid new before after held to is =
    record { text = begins-weaker May May' before.text after.text to is.text; file = is.file; part = part_weaker May May' is.file to is.part; files = writes_from is.file old mid new held is.files }

stopped_from : (May May' : Expected → Type 0) (old mid new : FilesView) (before after : OutputView) (stop : Stop) → mid.held ≡ old.held → ((r : Expected) → May r → May' r)
    → IsStopped May (at mid before) (at new after) stop → IsStopped May' (at old before) (at new after) stop
stopped_from May May' old mid new before after by_output held to is = (begun_from May May' old mid new before after held to is.0, is.1)
stopped_from May May' old mid new before after by_memory held to is = (begun_from May May' old mid new before after held to is.0, is.1)
stopped_from May May' old mid new before after (by_refusal refusal) held to is =
    record { result = is.result; may = to is.result is.may; ends = is.ends; line = is.line; out = is.out; files = writes_from is.result.file old mid new held is.files }

pub answered-from : (May May' : Expected → Type 0) (old mid new : FilesView) (before after : OutputView) (answer : Result Status Refusal) → mid.held ≡ old.held → ((r : Expected) → May r → May' r)
    → IsAnswered May (at mid before) (at new after) answer → IsAnswered May' (at old before) (at new after) answer
answered-from May May' old mid new before after (Ok status) held to is =
    record { result = is.result; may = to is.result is.may; ends = is.ends; text = is.text; files = writes_from is.result.file old mid new held is.files; steady = is.steady }
answered-from May May' old mid new before after (Err refusal) held to is = stopped_from May May' old mid new before after (stop_of refusal) held to is

-- ---- a part that reads the file of this name, and then only writes to the output

pub opened_as : (name : List ℕ) (old new : FilesView) → IsLastOpened name old new → (new.opened ≡ old.opened) ⊎ (IsSome (Some name) × (new.opened ≡ Some name))
opened_as name old new (inl is) = inr (refl, is)
opened_as name old new (inr same) = inl same

pub reading-goes : (line : RefusalView) (limit : Option RefusalView) (name : List ℕ) (May : Option (List ℕ) → Expected → Type 0) (old new : FilesView) (before after : OutputView) (answer : Result Status Refusal)
    → OpensFile name false old new → Answers (May (some_file old.held (Some name))) before after answer → Goes line limit (reads_only name) May (at old before) (at new after) answer
reading-goes line limit name May old new before after answer opens answers = record {
  file = some_file old.held (Some name);
  told = is-some_file old.held (Some name);
  is = lift (May (some_file old.held (Some name))) (MayGo line limit (reads_only name) (May (some_file old.held (Some name))) (at old before) (at new after)) old new before after answer opens.leaves.held (λ r is. inl is) answers;
  memory = λ e. opens.steady refl;
  unchanged = λ e. opens.leaves;
  opened = opened_as name old new opens.opened;
  faults = inl (opens.steady refl);
}

-- a part that touches no file
pub output-goes : (line : RefusalView) (limit : Option RefusalView) (touched : Touched) (May : Option (List ℕ) → Expected → Type 0) (files : FilesView) (before after : OutputView) (answer : Result Status Refusal)
    → Answers (May (some_file files.held touched.read)) before after answer → Goes line limit touched May (at files before) (at files after) answer
output-goes line limit touched May files before after answer answers = record {
  file = some_file files.held touched.read;
  told = is-some_file files.held touched.read;
  is = lift (May (some_file files.held touched.read)) (MayGo line limit touched (May (some_file files.held touched.read)) (at files before) (at files after)) files files before after answer refl (λ r is. inl is) answers;
  memory = λ e. refl;
  unchanged = λ e. record { held = refl; writing = refl };
  opened = inl refl;
  faults = inl refl;
}

-- reading the file failed
pub reading-failed : (line : RefusalView) (name : List ℕ) (May : Option (List ℕ) → Expected → Type 0) (old new : FilesView) (out : OutputView) (reason : Refusal)
    → OpensFile name true old new → stop_of reason ≡ by_refusal line → (reason ≡ of.Memory → ⊥) → Goes line None (reads_only name) May (at old out) (at new out) (Err reason)
reading-failed line name May old new out reason opens stop other =
    let fault : FaultAt name Reading old new = record { rose = opens.rose refl; place = opens.latest } in
    let behind : FailsBehind None (reads_only name) old new = record { accepted = refl; failed = inl (fault, opens.leaves) } in
    let file = some_file old.held (Some name) in
    record {
      file = file;
      told = is-some_file old.held (Some name);
      is = subst (IsStopped (MayGo line None (reads_only name) (May file) (at old out) (at new out)) (at old out) (at new out)) (sym stop) (record {
        result = refused line;
        may = inr (record { behind = behind; status_is = refl; text_is = refl; part = tt });
        ends = refl;
        line = refl;
        out = refl;
        files = opens.leaves.held;
      });
      memory = λ (e : Err reason ≡ Err of.Memory). absurd (other cc);
      unchanged = λ e. opens.leaves;
      opened = opened_as name old new opens.opened;
      faults = inr behind;
    }

-- ---- behind a limit

behind_limit : (limit : Option RefusalView) (touched : Touched) (old new : FilesView) → limit ≡ None → FailsBehind None touched old new → FailsBehind limit touched old new
behind_limit limit touched old new none is = record { accepted = none; failed = is.failed }

pub goes-behind : (line : RefusalView) (limit : Option RefusalView) (touched : Touched) (May : Option (List ℕ) → Expected → Type 0) (old new : FilesView) (before after : OutputView) (answer : Result Status Refusal) → limit ≡ None
    → Goes line None touched May (at old before) (at new after) answer → Goes line limit touched (λ file. UnlessRefused limit (May file)) (at old before) (at new after) answer
goes-behind line limit touched May old new before after answer none goes = record {
  file = goes.file;
  told = goes.told;
  is = answered-from (MayGo line None touched (May goes.file) (at old before) (at new after)) (MayGo line limit touched (UnlessRefused limit (May goes.file)) (at old before) (at new after)) old old new before after answer refl to goes.is;
  memory = goes.memory;
  unchanged = goes.unchanged;
  opened = goes.opened;
  faults = faults goes.faults;
}
  where
    within : (r : Expected) → May goes.file r → UnlessRefused limit (May goes.file) r
    within r is = unless-none limit (May goes.file) none r is

    to : (r : Expected) → MayGo line None touched (May goes.file) (at old before) (at new after) r → MayGo line limit touched (UnlessRefused limit (May goes.file)) (at old before) (at new after) r
    to r (inl may) = inl (within r may)
    to r (inr failure) = inr (record {
      behind = behind_limit limit touched old new none failure.behind;
      status_is = failure.status_is;
      text_is = failure.text_is;
      part = part_weaker (May goes.file) (UnlessRefused limit (May goes.file)) r.file within failure.part;
    })

    faults : (new.faults ≡ old.faults) ⊎ FailsBehind None touched old new → (new.faults ≡ old.faults) ⊎ FailsBehind limit touched old new
    faults (inl same) = inl same
    faults (inr behind) = inr (behind_limit limit touched old new none behind)

-- ---- behind the dictionaries

-- a command that reads or writes one more file behind its dictionaries
pub record IsBehind (command : Option CommandView) (dicts : List (List ℕ)) (touched : Touched) (Follows : Option (List ℕ) → StackView → Expected → Type 0) : Type 0 where
  pub base : HasStack command dicts
  pub no_report : report_in command ≡ None
  pub read : certificate_in command ≡ touched.read
  pub written : target_of command ≡ touched.written
  pub expected : (inputs : Inputs) (result : Expected) → OverStack search_limit (Follows inputs.file) dicts inputs.dictionaries result → IsExpected inputs command result

-- the file that the command reads is the certificate
file_is : (command : Option CommandView) (read : Option (List ℕ)) → report_in command ≡ None → certificate_in command ≡ read → file_in command ≡ read
file_is command read no_report is = ap (λ (o : Option (List ℕ)). first_named o (certificate_in command)) no_report ∙ is

-- a command that writes no file has none to write
not_written : (command : Option CommandView) (written : Option (List ℕ)) → target_of command ≡ written → writes command ≡ false → written ≡ None
not_written command written is none = by written (subst (λ (o : Option (List ℕ)). is_some o ≡ false) is none)
  where
    by : (o : Option (List ℕ)) → is_some o ≡ false → o ≡ None
    by None none = refl
    by (Some name) none = absurd (true≢false none)

-- a fault since the dictionaries were read
fault_from : (name : Option (List ℕ)) (way : Way) (old mid new : FilesView) → mid.faults ≡ old.faults → FailedAt name way mid new → FailedAt name way old new
fault_from None way old mid new same failed = absurd failed
fault_from (Some name) way old mid new same failed = record { rose = subst (λ n. Rose n new.faults) same failed.rose; place = failed.place }

-- no file has changed
leaves_from : (old mid new : FilesView) → LeavesFiles old mid → LeavesFiles mid new → LeavesFiles old new
leaves_from old mid new before after = record { held = after.held ∙ before.held; writing = after.writing ∙ before.writing }

module _ (command : Option CommandView) (dicts : List (List ℕ)) (touched : Touched) (Follows : Option (List ℕ) → StackView → Expected → Type 0) (over : IsBehind command dicts touched Follows)
    (stack : StackView) (old mid new : FilesView) (before after : OutputView) (answer : Result Status Refusal) (loaded : IsLoaded dicts old.held stack) (reads : ReadsOnly dicts old mid) (steady : mid.faults ≡ old.faults)
    (goes : Goes certificate_failed (search_limit stack) touched (λ file. UnlessRefused (search_limit stack) (Follows file stack)) (at mid before) (at new after) answer) where
  inputs : Inputs
  inputs = record { dictionaries = loaded.contents; file = goes.file }

  told : IfSome old.held (λ held. IfSome (file_in command) (λ name. goes.file ≡ Some (held name)))
  told =
      subst (λ (h : Option Held). IfSome h (λ held. IfSome (file_in command) (λ name. goes.file ≡ Some (held name)))) reads.leaves.held
      (subst (λ (o : Option (List ℕ)). IfSome mid.held (λ held. IfSome o (λ name. goes.file ≡ Some (held name)))) (sym (file_is command touched.read over.no_report over.read)) goes.told)

  may : (r : Expected) → UnlessRefused (search_limit stack) (Follows goes.file stack) r → IsExpected inputs command r
  unfolding inputs
  may r is = over.expected inputs r (accepted_stack search_limit (Follows goes.file) dicts loaded.contents stack r loaded.accepted loaded.is is)

  -- nothing was refused before the certificate
  accepted : search_limit stack ≡ None → first_of (dictionaries_refusal (dictionaries_in command) loaded.contents) (search_limit (stack_from (dictionaries_in command) loaded.contents)) ≡ None
  accepted none =
      subst (λ (ds : List (List ℕ)). first_of (dictionaries_refusal ds loaded.contents) (search_limit (stack_from ds loaded.contents)) ≡ None) (sym over.base.dictionaries)
      (subst (λ o. first_of o (search_limit (stack_from dicts loaded.contents)) ≡ None) (sym loaded.accepted)
      (subst (λ (s : StackView). search_limit s ≡ None) loaded.is none))

  failed : FailsBehind (search_limit stack) touched mid new → CertificateFailed command inputs old new
  unfolding inputs
  failed behind = record { accepted = accepted behind.accepted; failed = by behind.failed }
    where
      by : FailsToRead touched.read mid new ⊎ FailedAt touched.written Writing mid new → FailsToRead (certificate_in command) old new ⊎ FailedAt (target_of command) Writing old new
      by (inl read) = inl (subst (λ o. FailsToRead o old new) (sym over.read) (fault_from touched.read Reading old mid new steady read.0, leaves_from old mid new reads.leaves read.1))
      by (inr written) = inr (subst (λ o. FailedAt o Writing old new) (sym over.written) (fault_from touched.written Writing old mid new steady written))

  produces : (r : Expected) → MayGo certificate_failed (search_limit stack) touched (UnlessRefused (search_limit stack) (Follows goes.file stack)) (at mid before) (at new after) r → MayProduce command inputs (at old before) (at new after) r
  produces r (inl is) = inl (may r is)
  produces r (inr failure) = inr (record {
    refusal = certificate_failed;
    failed = failed failure.behind;
    status_is = failure.status_is;
    text_is = failure.text_is;
    file = part_weaker (UnlessRefused (search_limit stack) (Follows goes.file stack)) (IsExpected inputs command) r.file may failure.part;
  })

  leaves : writes command ≡ false → LeavesFiles old new
  leaves none = leaves_from old mid new reads.leaves (goes.unchanged (not_written command touched.written over.written none))

  opened : OpensNamed command old new
  opened = by goes.opened
    where
      before_it : OpensNamed command old mid
      before_it = opens command dicts old mid over.base.dictionaries reads

      by : (new.opened ≡ mid.opened) ⊎ (IsSome touched.read × (new.opened ≡ touched.read)) → OpensNamed command old new
      by (inl same) = subst (λ (o : Option (List ℕ)). OpensNamed command old (record { held = new.held; rest = new.rest; opened = o; writing = new.writing; latest = new.latest; faults = new.faults })) (sym same) before_it
      by (inr is) = inr (inr (subst (λ (o : Option (List ℕ)). IsSome o × (new.opened ≡ o)) (sym (file_is command touched.read over.no_report over.read)) is))

  fails : (new.faults ≡ mid.faults) ⊎ FailsBehind (search_limit stack) touched mid new → FailsNamed command inputs old new
  fails (inl same) = inl (same ∙ steady)
  fails (inr behind) = inr (record { refusal = certificate_failed; failed = failed behind })

  pub behind-stack : IsAnswer command (at old before) (at new after) answer
  unfolding inputs
  behind-stack =
      let few = few_accepted dicts loaded.contents loaded.accepted in
      record {
        inputs = inputs;
        read = record { dictionaries = subst (λ ds. AreContents old.held ds loaded.contents) (sym over.base.dictionaries) loaded.read; file = told };
        is = answered-from (MayGo certificate_failed (search_limit stack) touched (UnlessRefused (search_limit stack) (Follows goes.file stack)) (at mid before) (at new after)) (MayProduce command inputs (at old before) (at new after))
            old mid new before after answer reads.leaves.held produces goes.is;
        memory = λ e. record { needed = few_need command dicts over.base.needs few; steady = goes.memory e ∙ steady };
        unchanged = leaves;
        opened = opened;
        faults = fails goes.faults;
        unread = λ none. absurd (too_few (too_many command dicts over.base.reads none) few);
      }
    where
      too_few : most_dictionaries < length dicts → length dicts ≤ most_dictionaries → ⊥
      too_few over within = absurd (omega arith)

-- ---- without dictionaries

-- a command that reads or writes files but no dictionaries
pub record IsAlone (command : Option CommandView) (line : RefusalView) (touched : Touched) (Follows : Option (List ℕ) → Expected → Type 0) : Type 0 where
  pub no_dictionaries : dictionaries_in command ≡ []
  pub read : file_in command ≡ touched.read
  pub written : target_of command ≡ touched.written
  pub reads : reads_files command ≡ true
  pub needs : needs_memory command ≡ true
  pub fails : (inputs : Inputs) (old new : FilesView) → inputs.dictionaries ≡ [] → FailsToRead touched.read old new ⊎ FailedAt touched.written Writing old new → FileFailed command inputs old new line
  pub expected : (inputs : Inputs) (result : Expected) → Follows inputs.file result → IsExpected inputs command result

module _ (command : Option CommandView) (line : RefusalView) (touched : Touched) (Follows : Option (List ℕ) → Expected → Type 0) (alone : IsAlone command line touched Follows)
    (old new : FilesView) (before after : OutputView) (answer : Result Status Refusal) (goes : Goes line None touched Follows (at old before) (at new after) answer) where
  alone_inputs : Inputs
  alone_inputs = record { dictionaries = []; file = goes.file }

  alone_failed : FailsBehind None touched old new → FileFailed command alone_inputs old new line
  unfolding alone_inputs
  alone_failed behind = alone.fails alone_inputs old new refl behind.failed

  alone_produces : (r : Expected) → MayGo line None touched (Follows goes.file) (at old before) (at new after) r → MayProduce command alone_inputs (at old before) (at new after) r
  unfolding alone_inputs
  alone_produces r (inl is) = inl (alone.expected alone_inputs r is)
  alone_produces r (inr failure) = inr (record {
    refusal = line;
    failed = alone_failed failure.behind;
    status_is = failure.status_is;
    text_is = failure.text_is;
    file = part_weaker (Follows goes.file) (IsExpected alone_inputs command) r.file (λ r is. alone.expected alone_inputs r is) failure.part;
  })

  alone_opened : (new.opened ≡ old.opened) ⊎ (IsSome touched.read × (new.opened ≡ touched.read)) → OpensNamed command old new
  alone_opened (inl same) = inl same
  alone_opened (inr is) = inr (inr (subst (λ (o : Option (List ℕ)). IsSome o × (new.opened ≡ o)) (sym alone.read) is))

  alone_faults : (new.faults ≡ old.faults) ⊎ FailsBehind None touched old new → FailsNamed command alone_inputs old new
  alone_faults (inl same) = inl same
  alone_faults (inr behind) = inr (record { refusal = line; failed = alone_failed behind })

  pub alone-answer : IsAnswer command (at old before) (at new after) answer
  unfolding alone_inputs
  alone-answer = record {
    inputs = alone_inputs;
    read = record {
      dictionaries = subst (λ ds. AreContents old.held ds []) (sym alone.no_dictionaries) (are_none old.held);
      file = subst (λ (o : Option (List ℕ)). IfSome old.held (λ held. IfSome o (λ name. goes.file ≡ Some (held name)))) (sym alone.read) goes.told;
    };
    is = answered-from (MayGo line None touched (Follows goes.file) (at old before) (at new after)) (MayProduce command alone_inputs (at old before) (at new after)) old old new before after answer refl alone_produces goes.is;
    memory = λ e. record { needed = alone.needs; steady = goes.memory e };
    unchanged = λ none. goes.unchanged (not_written command touched.written alone.written none);
    opened = alone_opened goes.opened;
    faults = alone_faults goes.faults;
    unread = λ none. absurd (true≢false (sym alone.reads ∙ none));
  }

-- the commands
pub is-check : (certificate : List ℕ) (dicts : List (List ℕ)) → IsBehind (Some (check certificate dicts)) dicts (reads_only certificate) IsCheck
is-check certificate dicts = record {
  base = record { dictionaries = refl; reads = refl; needs = refl; refused = λ inputs refusal first. refused-stack search_limit (IsCheck inputs.file) dicts inputs.dictionaries refusal first };
  no_report = refl;
  read = refl;
  written = refl;
  expected = λ inputs r is. is;
}
