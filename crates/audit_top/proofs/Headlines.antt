-- What single commands promise follows from what a run does.
use Rattle.std.proofs.Common.{ℕ, ◌≡◌, ◌∙◌, ◌⊎◌, inl, inr, List, ap, refl, subst, sym, Option, Some, None, IfSome, Bool, true, false, true≢false, length}
use Rattle.std.specs.Io.KnownBytes.{append_known}
use Rattle.outside.specs.Files.{Held}
use Rattle.steno_rules.specs.Outlines.{AreEntries}
use Rattle.report.specs.Refusals.{RefusalView, too_many_bytes}
use Rattle.certificate_laws.specs.Checks.{CheckOutcome, accepted, rejected, too_long}
use Rattle.certificate_laws.specs.Validity.{IsValid, check_outcome}
use Rattle.certificate_laws.proofs.ConflictRows.{valid_rows}
use Rattle.certificate_laws.proofs.LimitLemmas.{rejected_invalid, valid_at}
use Rattle.cert_check.specs.Verdicts.{closure_at}
use Rattle.dict_stack.specs.Stacks.{StackView}
use Rattle.dict_files.specs.Contents.{AreContents}
use Rattle.dict_files.specs.DictFiles.{bytes_of}
use Rattle.dict_files.specs.Refusals.{dictionaries_refusal, first_of, stack_from}
use Rattle.commands.specs.Commands.{CommandView, audit, audit_json, check, explain, brief_outlines, parse, rows as rows_of, settled, try_briefs, upgrade}
use Rattle.audit_top.specs.Outcomes.{Expected, Inputs, OverStack, UnlessRefused, search_limit, trie_limit, refused}
use Rattle.audit_top.specs.Audited.{IsAudit, IsAuditJson, summary_of}
use Rattle.audit_top.specs.Kept.{IsSettled}
use Rattle.audit_top.specs.Listed.{IsListed, IsRows, ListsRows, bytes_limit, rows_result}
use Rattle.audit_top.specs.Parsed.{IsParse, IsReadOneWay}
use Rattle.audit_top.specs.Upgraded.{IsUpgrade, upgrade_result}
use Rattle.audit_top.specs.Checked.{IsCheck, accepted_line, check_result}
use Rattle.audit_top.specs.Translated.{IsExplained, all_typed, typed_parts, typed_text}
use Rattle.audit_top.specs.Expected.{IsExpected}
use Rattle.audit_top.specs.Headline.{Headline, ReportsFiles}
use Rattle.audit_top.specs.Promises.{Explains, Keeps, KeepsPairs, Lists, ListsReport, Reads, Tells, TellsConflicts, Tries, Upgrades, Verdict, Verifies, WritesAnew, IsUnfinished}
use Rattle.audit_top.specs.Runs.{Ends, IsRun, MayProduce, World, Writes}
use Rattle.audit_top.specs.declared.status.Status.{Status}
use Rattle.audit_top.specs.declared.status.Status.TheVariants.{Clean, Conflicts, Words, File, Refused, Limit, Output, Memory, Rejected}
use Rattle.dict_json.specs.Reading.{reading}
use Rattle.dict_files.specs.declared.loading.TheConstants.{MAX_BYTES}
use Rattle.report_json.specs.ReadOutcomes.{IsReadOutcome, ReadOutcome, a_report, another_value, no_value}
use Rattle.cert_upgrade.specs.Forms.{upgrade_outcome}
use Rattle.cert_upgrade.specs.Upgrades.{IsNeverValid}
use Rattle.cert_upgrade.proofs.UpgradeLaw.{never_valid, upgraded}
use Rattle.audit_top.proofs.Causes.{IsInput, input-briefs, input-dictionaries, input-first, input-over, input-search, input-trie}
use Rattle.audit_top.proofs.Parsing.{read-one-way}
use Rattle.audit_top.proofs.Trying.{tells-trials}
use Rattle.audit_top.specs.Tried.{IsTry, TellsTrials, TriesBriefs, briefs_limit}
use Rattle.audit_top.proofs.Ends.{status-failed}
use Rattle.audit_top.proofs.StackEntries.{stack-entries}
use Rattle.audit_top.proofs.Unfinished.{unfinished}

-- ---- a run that wasn't cut and met no file that failed

-- the status says so
abbrev pub is_done : Status → Bool
is_done Clean = true
is_done Conflicts = true
is_done Words = false
is_done File = false
is_done Refused = false
is_done Limit = false
is_done Output = false
is_done Memory = false
is_done Rejected = true

-- it produced what is expected
pub record Produced (command : Option CommandView) (inputs : Inputs) (before after : World) (status : Status) : Type 0 where
  pub result : Expected
  pub is : IsExpected inputs command result
  pub ends : status ≡ result.status
  pub text : after.out.text ≡ append_known before.out.text result.text
  pub files : Writes result.file before.files after.files

-- such a status is no other one
not_done : (status other : Status) → is_done status ≡ true → status ≡ other → is_done other ≡ false → ⊥
not_done status other done is other_done = true≢false (sym done ∙ ap is_done is ∙ other_done)

pub produced : (command : Option CommandView) (inputs : Inputs) (before after : World) (status : Status) → is_done status ≡ true → Ends (MayProduce command inputs before after) before after status → Produced command inputs before after status
produced command inputs before after status done (inr cut) = absurd (by cut.ends)
  where
    by : (status ≡ Output) ⊎ (status ≡ Memory) → ⊥
    by (inl is) = not_done status Output done is refl
    by (inr is) = not_done status Memory done is refl
produced command inputs before after status done (inl whole) = by whole.may
  where
    by : MayProduce command inputs before after whole.result → Produced command inputs before after status
    by (inl may) = record { result = whole.result; is = may; ends = whole.ends; text = whole.text; files = whole.files }
    by (inr failure) = absurd (not_done status File done (whole.ends ∙ status-failed command inputs before.files after.files whole.result failure) refl)

-- what was refused has another one
pub not_refused : (refusal : RefusalView) (result : Expected) → IsInput refusal → is_done result.status ≡ true → result ≡ refused refusal → ⊥
not_refused refusal result (inl a) done is = not_done result.status Refused done (ap (λ (r : Expected). r.status) is ∙ a) refl
not_refused refusal result (inr a) done is = not_done result.status Limit done (ap (λ (r : Expected). r.status) is ∙ a) refl

-- nothing was refused
unrefused : (o : Option RefusalView) (Follows : Expected → Type 0) (result : Expected) → IfSome o IsInput → is_done result.status ≡ true → UnlessRefused o Follows result → Follows result
unrefused None Follows result input done is = is
unrefused (Some refusal) Follows result input done is = absurd (not_refused refusal result input done is)

-- over the stack of dictionaries
pub over : (limit : StackView → Option RefusalView) (Follows : StackView → Expected → Type 0) (dicts contents : List (List ℕ)) (result : Expected) → ((s : StackView) → IfSome (limit s) IsInput) → is_done result.status ≡ true
    → OverStack limit Follows dicts contents result → Follows (stack_from dicts contents) result
over limit Follows dicts contents result input done is =
    unrefused (first_of (dictionaries_refusal dicts contents) (limit (stack_from dicts contents))) (Follows (stack_from dicts contents)) result
    (input-first (dictionaries_refusal dicts contents) (limit (stack_from dicts contents)) (input-dictionaries dicts contents) (input (stack_from dicts contents))) done is

-- what was produced ended with a status of that kind
pub ends_done : (status : Status) (result : Expected) → status ≡ result.status → is_done status ≡ true → is_done result.status ≡ true
ends_done status result same done = sym (ap is_done same) ∙ done

-- ---- the commands

-- the audit
audited : (workers : ℕ) (dicts : List (List ℕ)) (before after : World) (status : Status) → IsRun (Some (audit workers dicts)) before after status → is_done status ≡ true → ReportsFiles dicts before.files.held before.out.text after.out.text status
audited workers dicts before after status run done =
    let made = produced (Some (audit workers dicts)) run.inputs before after status done run.ends in
    let is = over search_limit IsAudit dicts run.inputs.dictionaries made.result input-search (ends_done status made.result made.ends done) made.is in (
      run.inputs.dictionaries,
      run.read.dictionaries,
      record {
        rows = is.rows;
        summary = summary_of is.searched is.rows;
        counts = refl;
        text = made.text ∙ ap (λ (r : Expected). append_known before.out.text r.text) is.produces;
        exact = is.exact;
        ends = made.ends ∙ ap (λ (r : Expected). r.status) is.produces;
      },
    )

pub found_done : (status : Status) → (status ≡ Clean) ⊎ (status ≡ Conflicts) → is_done status ≡ true
found_done status (inl is) = ap is_done is
found_done status (inr is) = ap is_done is

pub headline : (command : Option CommandView) (before after : World) (status : Status) → IsRun command before after status → Headline command before.files.held before.out.text after.out.text status
headline command before after status run workers dicts is ends =
    audited workers dicts before after status (subst (λ c. IsRun c before after status) is run) (found_done status ends)

-- the explanation
pub explains : (command : Option CommandView) (before after : World) (status : Status) → IsRun command before after status → Explains command before.files.held before.out.text after.out.text status
explains command before after status run outlines dicts is clean =
    by (subst (λ c. IsRun c before after status) is run)
  where
    by : IsRun (Some (explain outlines dicts)) before after status → (contents : List (List ℕ)) × AreContents before.files.held dicts contents × (after.out.text ≡ append_known before.out.text (typed_text (stack_from dicts contents) (all_typed outlines) (typed_parts outlines)))
    by run =
        let done : is_done status ≡ true = ap is_done clean in
        let made = produced (Some (explain outlines dicts)) run.inputs before after status done run.ends in
        let is = over trie_limit (IsExplained outlines) dicts run.inputs.dictionaries made.result input-trie (ends_done status made.result made.ends done) made.is in
        (run.inputs.dictionaries, run.read.dictionaries, made.text ∙ ap (λ (r : Expected). append_known before.out.text r.text) is)

-- the check of a certificate
verdict : (stack : StackView) (bytes : List ℕ) (old new : Option (List ℕ)) (status : Status) (outcome : CheckOutcome) (result : Expected) → check_outcome (closure_at stack) bytes ≡ outcome → result ≡ check_result outcome
    → AreEntries stack.outlines → status ≡ result.status → new ≡ append_known old result.text → Verdict stack bytes old new status
verdict stack bytes old new status (accepted n) result outcome is are ends text = record {
  accepted = λ clean. let valid : IsValid (closure_at stack) bytes = (n, valid_at (closure_at stack) bytes n outcome) in
      let rows = valid_rows stack.outlines stack.words bytes are valid in
      record { valid = valid; exact = rows.0; text = text ∙ ap (λ (r : Expected). append_known old r.text) is ∙ ap (λ (n : ℕ). append_known old (accepted_line n)) rows.1 };
  rejected = λ e. absurd (not_clean (sym e ∙ ends ∙ ap (λ (r : Expected). r.status) is));
}
  where
    not_clean : Rejected ≡ Clean → ⊥
    not_clean e = cc e
verdict stack bytes old new status (rejected line why) result outcome is are ends text = record {
  accepted = λ clean. absurd (not_rejected (sym clean ∙ ends ∙ ap (λ (r : Expected). r.status) is));
  rejected = λ e. rejected_invalid (closure_at stack) bytes line why outcome;
}
  where
    not_rejected : Clean ≡ Rejected → ⊥
    not_rejected e = cc e
verdict stack bytes old new status too_long result outcome is are ends text = record {
  accepted = λ clean. absurd (not_limit (ap is_done (sym clean ∙ ends ∙ ap (λ (r : Expected). r.status) is)));
  rejected = λ e. absurd (not_limit (ap is_done (sym e ∙ ends ∙ ap (λ (r : Expected). r.status) is)));
}
  where
    not_limit : true ≡ false → ⊥
    not_limit e = true≢false e

checked : (certificate : List ℕ) (dicts : List (List ℕ)) (before after : World) (status : Status) → IsRun (Some (check certificate dicts)) before after status → (held : Held) → before.files.held ≡ Some held → is_done status ≡ true
    → Verdict (stack_from dicts (bytes_of held dicts)) (held certificate) before.out.text after.out.text status
checked certificate dicts before after status run held told done =
    let made = produced (Some (check certificate dicts)) run.inputs before after status done run.ends in
    let file : run.inputs.file ≡ Some (held certificate) = subst (λ (t : Option Held). IfSome t (λ held. run.inputs.file ≡ Some (held certificate))) told run.read.file in
    let contents : run.inputs.dictionaries ≡ bytes_of held dicts = contents_are (subst (λ (t : Option Held). AreContents t dicts run.inputs.dictionaries) told run.read.dictionaries) in
    let is = over search_limit (IsCheck run.inputs.file) dicts run.inputs.dictionaries made.result input-search (ends_done status made.result made.ends done) made.is in
    let is' : IsCheck (Some (held certificate)) (stack_from dicts (bytes_of held dicts)) made.result =
    subst (λ (f : Option (List ℕ)). IsCheck f (stack_from dicts (bytes_of held dicts)) made.result) file
    (subst (λ (cs : List (List ℕ)). IsCheck run.inputs.file (stack_from dicts cs) made.result) contents is) in
    verdict (stack_from dicts (bytes_of held dicts)) (held certificate) before.out.text after.out.text status (check_outcome (closure_at (stack_from dicts (bytes_of held dicts))) (held certificate)) made.result refl is' (stack-entries dicts (bytes_of held dicts)) made.ends made.text
  where
    contents_are : AreContents (Some held) dicts run.inputs.dictionaries → run.inputs.dictionaries ≡ bytes_of held dicts
    contents_are are = are.held

pub verifies : (command : Option CommandView) (before after : World) (status : Status) → IsRun command before after status → Verifies command before.files.held before.out.text after.out.text status
verifies command before after status run certificate dicts is =
    by before.files.held refl
  where
    run' : IsRun (Some (check certificate dicts)) before after status
    run' = subst (λ c. IsRun c before after status) is run

    by : (told : Option Held) → before.files.held ≡ told → IfSome told (λ held. Verdict (stack_from dicts (bytes_of held dicts)) (held certificate) before.out.text after.out.text status)
    by None told = tt
    by (Some held) told = record {
      accepted = λ clean. (checked certificate dicts before after status run' held told (ap is_done clean)).accepted clean;
      rejected = λ e. (checked certificate dicts before after status run' held told (ap is_done e)).rejected e;
    }

-- ---- the other searches

-- the audit whose report is JSON
pub tells : (command : Option CommandView) (before after : World) (status : Status) → IsRun command before after status → Tells command before.files.held before.out.text after.out.text status
tells command before after status run workers dicts is ends = by (subst (λ c. IsRun c before after status) is run) (found_done status ends)
  where
    by : IsRun (Some (audit_json workers dicts)) before after status → is_done status ≡ true → (contents : List (List ℕ)) × AreContents before.files.held dicts contents × TellsConflicts before.out.text after.out.text status (stack_from dicts contents)
    by run done =
        let made = produced (Some (audit_json workers dicts)) run.inputs before after status done run.ends in
        let is = over search_limit IsAuditJson dicts run.inputs.dictionaries made.result input-search (ends_done status made.result made.ends done) made.is in (
          run.inputs.dictionaries,
          run.read.dictionaries,
          record {
            rows = is.rows;
            summary = summary_of is.searched is.rows;
            counts = refl;
            text = made.text ∙ ap (λ (r : Expected). append_known before.out.text r.text) is.produces;
            exact = is.exact;
            ends = made.ends ∙ ap (λ (r : Expected). r.status) is.produces;
          },
        )

-- the pairs that stay
pub keeps : (command : Option CommandView) (before after : World) (status : Status) → IsRun command before after status → Keeps command before.files.held before.out.text after.out.text status
keeps command before after status run workers dicts is ends = by (subst (λ c. IsRun c before after status) is run) (found_done status ends)
  where
    by : IsRun (Some (settled workers dicts)) before after status → is_done status ≡ true → (contents : List (List ℕ)) × AreContents before.files.held dicts contents × KeepsPairs before.out.text after.out.text status (stack_from dicts contents)
    by run done =
        let made = produced (Some (settled workers dicts)) run.inputs before after status done run.ends in
        let is = over search_limit IsSettled dicts run.inputs.dictionaries made.result input-search (ends_done status made.result made.ends done) made.is in (
          run.inputs.dictionaries,
          run.read.dictionaries,
          record {
            rows = is.rows;
            summary = summary_of is.searched is.rows;
            counts = refl;
            text = made.text ∙ ap (λ (r : Expected). append_known before.out.text r.text) is.produces;
            exact = is.exact;
            conflicts = is.conflicts;
            ends = made.ends ∙ ap (λ (r : Expected). r.status) is.produces;
          },
        )

-- two readings
pub reads : (command : Option CommandView) (before after : World) (status : Status) → IsRun command before after status → Reads command before.files.held before.out.text after.out.text status
reads command before after status run workers dicts is ends = by (subst (λ c. IsRun c before after status) is run) (found_done status ends)
  where
    by : IsRun (Some (parse workers dicts)) before after status → is_done status ≡ true → (contents : List (List ℕ)) × AreContents before.files.held dicts contents × IsReadOneWay (stack_from dicts contents) before.out.text after.out.text status
    by run done =
        let made = produced (Some (parse workers dicts)) run.inputs before after status done run.ends in
        let is = over search_limit IsParse dicts run.inputs.dictionaries made.result input-search (ends_done status made.result made.ends done) made.is in
        (run.inputs.dictionaries, run.read.dictionaries, read-one-way (stack_from dicts run.inputs.dictionaries) before.out.text after.out.text status made.result is made.text made.ends)

-- ---- briefs

briefs_tried : (workers : ℕ) (briefs : List ℕ) (dicts : List (List ℕ)) (before after : World) (status : Status) → IsRun (Some (try_briefs workers briefs dicts)) before after status → is_done status ≡ true
    → (contents : List (List ℕ)) × AreContents before.files.held dicts contents × TellsTrials (brief_outlines briefs) before.out.text after.out.text status (stack_from dicts contents)
briefs_tried workers briefs dicts before after status run done =
    let outlines = brief_outlines briefs in
    let made = produced (Some (try_briefs workers briefs dicts)) run.inputs before after status done run.ends in
    let stack = stack_from dicts run.inputs.dictionaries in
    let ends = ends_done status made.result made.ends done in
    let may = over search_limit (IsTry outlines) dicts run.inputs.dictionaries made.result input-search ends made.is in
    let is = unrefused (briefs_limit outlines stack) (TriesBriefs outlines stack) made.result (input-briefs outlines stack) ends may in
    (run.inputs.dictionaries, run.read.dictionaries, tells-trials outlines stack before.out.text after.out.text status made.result is made.text made.ends)

pub tries : (command : Option CommandView) (before after : World) (status : Status) → IsRun command before after status → Tries command before.files.held before.out.text after.out.text status
tries command before after status run workers briefs dicts is ends =
    briefs_tried workers briefs dicts before after status (subst (λ c. IsRun c before after status) is run) (found_done status ends)

-- ---- the rows of a report

bytes_input : (bytes : List ℕ) → IfSome (bytes_limit bytes) IsInput
bytes_input bytes = input-over MAX_BYTES (λ _. too_many_bytes 1) (length bytes) (inr refl)

listed : (bytes : List ℕ) (old new : Option (List ℕ)) (outcome : ReadOutcome) (result : Expected) → IsReadOutcome (reading bytes) outcome → result ≡ rows_result outcome → result.status ≡ Clean → new ≡ append_known old result.text → ListsReport bytes old new
listed bytes old new (a_report report) result read is clean text = record { report = report; read = read; text = text ∙ ap (λ (r : Expected). append_known old r.text) is }
listed bytes old new no_value result read is clean text = absurd (not_done result.status Refused (ap is_done clean) (ap (λ (r : Expected). r.status) is) refl)
listed bytes old new another_value result read is clean text = absurd (not_done result.status Refused (ap is_done clean) (ap (λ (r : Expected). r.status) is) refl)

rows_listed : (file : List ℕ) (before after : World) (status : Status) → IsRun (Some (rows_of file)) before after status → (held : Held) → before.files.held ≡ Some held → status ≡ Clean → ListsReport (held file) before.out.text after.out.text
rows_listed file before after status run held told clean =
    let done : is_done status ≡ true = ap is_done clean in
    let made = produced (Some (rows_of file)) run.inputs before after status done run.ends in
    let bytes : run.inputs.file ≡ Some (held file) = subst (λ (t : Option Held). IfSome t (λ held. run.inputs.file ≡ Some (held file))) told run.read.file in
    let is : IsListed (held file) made.result = subst (λ (f : Option (List ℕ)). IsRows f made.result) bytes made.is in
    let lists = unrefused (bytes_limit (held file)) (ListsRows (held file)) made.result (bytes_input (held file)) (ends_done status made.result made.ends done) is in
    listed (held file) before.out.text after.out.text lists.outcome made.result lists.is lists.produces (sym made.ends ∙ clean) made.text

pub lists : (command : Option CommandView) (before after : World) (status : Status) → IsRun command before after status → Lists command before.files.held before.out.text after.out.text status
lists command before after status run file is clean = by before.files.held refl
  where
    run' : IsRun (Some (rows_of file)) before after status
    run' = subst (λ c. IsRun c before after status) is run

    by : (told : Option Held) → before.files.held ≡ told → IfSome told (λ held. ListsReport (held file) before.out.text after.out.text)
    by None told = tt
    by (Some held) told = rows_listed file before after status run' held told clean

-- ---- a certificate that is written anew

anew : (target bytes : List ℕ) (before after : World) (outcome : CheckOutcome) (result : Expected) → upgrade_outcome bytes ≡ outcome → result ≡ upgrade_result target bytes outcome → result.status ≡ Clean
    → after.out.text ≡ append_known before.out.text result.text → Writes result.file before.files after.files → WritesAnew target bytes before after
anew target bytes before after (accepted n) result outcome is clean text files = record {
  conflicts = n;
  upgraded = upgraded bytes n outcome;
  file = subst (λ (r : Expected). Writes r.file before.files after.files) is files;
  text = text ∙ ap (λ (r : Expected). append_known before.out.text r.text) is;
}
anew target bytes before after (rejected line why) result outcome is clean text files = absurd (not_rejected (sym clean ∙ ap (λ (r : Expected). r.status) is))
  where
    not_rejected : Clean ≡ Rejected → ⊥
    not_rejected e = cc e
anew target bytes before after too_long result outcome is clean text files = absurd (not_done result.status Limit (ap is_done clean) (ap (λ (r : Expected). r.status) is) refl)

never : (target bytes : List ℕ) (outcome : CheckOutcome) (result : Expected) → upgrade_outcome bytes ≡ outcome → result ≡ upgrade_result target bytes outcome → result.status ≡ Rejected → IsNeverValid bytes
never target bytes (accepted n) result outcome is ends = absurd (not_clean (sym ends ∙ ap (λ (r : Expected). r.status) is))
  where
    not_clean : Rejected ≡ Clean → ⊥
    not_clean e = cc e
never target bytes (rejected line why) result outcome is ends = never_valid bytes line why outcome
never target bytes too_long result outcome is ends = absurd (not_done result.status Limit (ap is_done ends) (ap (λ (r : Expected). r.status) is) refl)

-- what was produced of it
upgrade_made : (certificate target : List ℕ) (before after : World) (status : Status) (run : IsRun (Some (upgrade certificate target)) before after status) (held : Held) → before.files.held ≡ Some held → is_done status ≡ true
    → (made : Produced (Some (upgrade certificate target)) run.inputs before after status) × (made.result ≡ upgrade_result target (held certificate) (upgrade_outcome (held certificate)))
upgrade_made certificate target before after status run held told done =
    let made = produced (Some (upgrade certificate target)) run.inputs before after status done run.ends in
    let bytes : run.inputs.file ≡ Some (held certificate) = subst (λ (t : Option Held). IfSome t (λ held. run.inputs.file ≡ Some (held certificate))) told run.read.file in
    (made, subst (λ (f : Option (List ℕ)). IsUpgrade target f made.result) bytes made.is)

pub upgrades : (command : Option CommandView) (before after : World) (status : Status) → IsRun command before after status → Upgrades command before after status
upgrades command before after status run certificate target is = by before.files.held refl
  where
    run' : IsRun (Some (upgrade certificate target)) before after status
    run' = subst (λ c. IsRun c before after status) is run

    by : (told : Option Held) → before.files.held ≡ told
        → IfSome told (λ held. ((status ≡ Clean) → WritesAnew target (held certificate) before after) × ((status ≡ Rejected) → IsNeverValid (held certificate))
        × ((status ≡ File) → IsUnfinished certificate target (held certificate) before.files after.files))
    by None told = tt
    by (Some held) told = (
      (λ clean. let m = upgrade_made certificate target before after status run' held told (ap is_done clean) in
          anew target (held certificate) before after (upgrade_outcome (held certificate)) m.0.result refl m.1 (sym m.0.ends ∙ clean) m.0.text m.0.files),
      (λ ends. let m = upgrade_made certificate target before after status run' held told (ap is_done ends) in
          never target (held certificate) (upgrade_outcome (held certificate)) m.0.result refl m.1 (sym m.0.ends ∙ ends)),
      (λ failed. unfinished certificate target before after status run' held told failed),
    )
