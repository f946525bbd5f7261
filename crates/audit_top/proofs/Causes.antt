-- When the expected status of each command may be which.
use Rattle.longest_match.specs.Rows.{Row}
use Rattle.round_core.specs.Searches.{SettledView}
use Rattle.state_numbering.specs.Causes.{most_states}
use Rattle.steno_rules.specs.StateNumbers.{number_count}
use Rattle.std.proofs.Common.{ℕ, ◌+◌, ◌≡◌, ◌⊎◌, inl, inr, List, [], ◌∷◌, Bool, true, false, cond, nat_lt, length, sym, subst, refl, Option, Some, None, IfSome, option_map, if◌then◌else◌}
use Rattle.dict_json.specs.Outcomes.{Outcome, dictionary_outcome}
use Rattle.dict_json.specs.Outcomes as of
use Rattle.dict_stack.specs.Stacks.{StackView, most_dictionaries, most_entries}
use Rattle.steno_rules.specs.Nodes.{nodes}
use Rattle.outline_trie.specs.declared.trie.TheConstants.Trie.{MAX_NODES}
use Rattle.report.specs.Refusals.{RefusalView, certificate_too_long, not_words, too_many_dictionaries, too_many_bytes, too_many_entries, too_many_nodes, too_many_states}
use Rattle.dict_files.specs.Refusals.{dictionaries_refusal, file_refusal, first_of, first_refusal, if_over, outcome_refusal, outline_count, stack_from}
use Rattle.dict_files.specs.declared.loading.TheConstants.{MAX_BYTES}
use Rattle.commands.specs.Commands.{CommandView, brief_outlines, replay, explain, audit, audit_json, rows, audit_to, check, upgrade, settled, parse, try_briefs, generate, audit_generated}
use Rattle.commands.specs.Inputs.{checks, finds}
use Rattle.audit_top.specs.Outcomes.{Expected, Inputs, OverStack, UnlessRefused, refused, search_limit, trie_limit}
use Rattle.audit_top.specs.Translated.{IsExplained, IsReplay}
use Rattle.audit_top.specs.Audited.{IsAudit, IsAuditJson, IsAuditTo, IsSummary, Made, PrintsConflicts, counts_alone, entries_limit, generated_stack, json_alone, report_alone, report_and_certificate, report_or_limit}
use Rattle.free_parse.specs.FoundReadings.{ReadingsView}
use Rattle.certificate.specs.Readers.{certificate_limit}
use Rattle.audit_certificate.specs.OwnCertificates.{own_certificate}
use Rattle.report_json.specs.ReadOutcomes.{ReadOutcome, a_report, another_value, no_value}
use Rattle.cert_upgrade.specs.Forms.{upgrade_outcome}
use Rattle.audit_top.specs.Upgraded.{IsUpgrade, upgrade_result}
use Rattle.audit_top.specs.Kept.{IsSettled, settled_result}
use Rattle.audit_top.specs.Listed.{IsListed, IsRows, ListsRows, bytes_limit, rows_result}
use Rattle.audit_top.specs.Parsed.{IsParse, parse_result, parse_status}
use Rattle.audit_top.specs.Tried.{IsTry, TriesBriefs, briefs_limit, has_conflict, limit_line, trials_status, try_result}
use Rattle.brief_trial.specs.Limits.{brief_limit, first_limit, over_or, searched_limit, trial_limit}
use Rattle.brief_trial.specs.Trials.{TrialView, with_brief}
use Rattle.brief_trial.specs.declared.faults.TrialFault.{TrialFault}
use Rattle.brief_trial.specs.declared.faults.TrialFault.TheVariants as trial_fault
use Rattle.outline_trie.specs.Tries.{most_nodes}
use Rattle.std.specs.List.{list_any}
use Rattle.audit_top.specs.Checked.{IsCheck, check_result}
use Rattle.certificate_laws.specs.Checks.{CheckOutcome, accepted, rejected, too_long}
use Rattle.certificate_laws.specs.Validity.{check_outcome}
use Rattle.cert_check.specs.Verdicts.{closure_at}
use Rattle.audit_top.specs.Expected.{IsExpected}
use Rattle.audit_top.specs.Statuses.{audit_status, refusal_status}
use Rattle.audit_top.specs.declared.status.Status.{Status}
use Rattle.audit_top.specs.declared.status.Status.TheVariants.{Clean, Conflicts, Words, File, Refused, Limit, Output, Rejected}

-- a refusal of dictionaries or of their stack
abbrev pub IsInput : RefusalView → Type 0
IsInput refusal = (refusal_status refusal ≡ Refused) ⊎ (refusal_status refusal ≡ Limit)

pub input-first : (a b : Option RefusalView) → IfSome a IsInput → IfSome b IsInput → IfSome (first_of a b) IsInput
input-first None b ha hb = hb
input-first (Some refusal) b ha hb = ha

pub input-over : (most : ℕ) (refusal : ℕ → RefusalView) (n : ℕ) → IsInput (refusal n) → IfSome (if_over most refusal n) IsInput
input-over most refusal n is = by (nat_lt most n)
  where
    by : (b : Bool) → IfSome (cond b (Some (refusal n)) None) IsInput
    by true = is
    by false = tt

input-outcome : (file : ℕ) (outcome : Outcome) → IfSome (outcome_refusal file outcome) IsInput
input-outcome file of.not_json = inl refl
input-outcome file of.not_object = inl refl
input-outcome file (of.not_text key) = inl refl
input-outcome file (of.too_long key parts) = inr refl
input-outcome file (of.dictionary d) = tt

input-file : (file : ℕ) (bytes : List ℕ) → IfSome (file_refusal file bytes) IsInput
input-file file bytes = by (nat_lt MAX_BYTES (length bytes)) (outcome_refusal file (dictionary_outcome bytes)) (input-outcome file (dictionary_outcome bytes))
  where
    by : (b : Bool) (o : Option RefusalView) → IfSome o IsInput → IfSome (cond b (Some (too_many_bytes file)) o) IsInput
    by true o h = inr refl
    by false o h = h

input-files : (file : ℕ) (contents : List (List ℕ)) → IfSome (first_refusal file contents) IsInput
input-files file [] = tt
input-files file (bytes ∷ contents) = input-first (file_refusal file bytes) (first_refusal (file + 1) contents) (input-file file bytes) (input-files (file + 1) contents)

pub input-dictionaries : (args contents : List (List ℕ)) → IfSome (dictionaries_refusal args contents) IsInput
input-dictionaries args contents =
    input-first (if_over most_dictionaries too_many_dictionaries (length args)) _ (input-over most_dictionaries too_many_dictionaries (length args) (inr refl))
    (input-first (first_refusal 1 contents) _ (input-files 1 contents) (input-over most_entries too_many_entries (outline_count contents) (inr refl)))

pub input-trie : (stack : StackView) → IfSome (trie_limit stack) IsInput
input-trie stack = input-over MAX_NODES too_many_nodes (length (nodes stack.outlines)) (inr refl)

pub input-search : (stack : StackView) → IfSome (search_limit stack) IsInput
input-search stack = input-first (trie_limit stack) _ (input-trie stack) (input-over most_states too_many_states (number_count stack.outlines) (inr refl))

input-entries : (stack : StackView) → IfSome (entries_limit stack) IsInput
input-entries stack = input-first (if_over most_entries too_many_entries (length stack.outlines)) (search_limit stack) (input-over most_entries too_many_entries (length stack.outlines) (inr refl)) (input-search stack)

-- of the trial stack of a brief
input-count : (most : ℕ) (limit : ℕ → TrialFault) (count : ℕ) (later : Option TrialFault) → IsInput (limit_line (limit count)) → IfSome (option_map limit_line later) IsInput → IfSome (option_map limit_line (over_or most limit count later)) IsInput
input-count most limit count later line others = by (nat_lt most count)
  where
    by : (b : Bool) → IfSome (option_map limit_line (if b then Some (limit count) else later)) IsInput
    by true = line
    by false = others

input-first_limit : (first later : Option TrialFault) → IfSome (option_map limit_line first) IsInput → IfSome (option_map limit_line later) IsInput → IfSome (option_map limit_line (first_limit first later)) IsInput
input-first_limit (Some limit) later line others = line
input-first_limit None later line others = others

input-limits : (entries briefs : List (List ℕ)) → IfSome (option_map limit_line (trial_limit entries briefs)) IsInput
input-limits entries [] = tt
input-limits entries (brief ∷ briefs) =
    let trial = with_brief entries brief in
    input-first_limit (brief_limit entries brief) (trial_limit entries briefs)
    (input-count most_entries trial_fault.Entries (length trial) (searched_limit trial) (inr refl)
    (input-count most_nodes trial_fault.Nodes (length (nodes trial)) _ (inr refl)
    (input-count most_states trial_fault.States (number_count trial) None (inr refl) tt)))
    (input-limits entries briefs)

pub input-briefs : (briefs : List (List ℕ)) (stack : StackView) → IfSome (briefs_limit briefs stack) IsInput
input-briefs briefs stack = input-limits stack.outlines briefs

-- ---- statuses

-- the statuses that a command may be expected to end with
pub record Fits (command : Option CommandView) (status : Status) : Type 0 where
  pub found : status ≡ Conflicts → finds command ≡ true
  pub arguments : status ≡ Words → command ≡ None
  pub file : status ≡ File → ⊥
  pub output : status ≡ Output → ⊥
  pub rejected : status ≡ Rejected → checks command ≡ true

fits-clean : (command : Option CommandView) → Fits command Clean
fits-clean command = record { found = λ e. absurd cc; arguments = λ e. absurd cc; file = λ e. cc; output = λ e. cc; rejected = λ e. absurd cc }

fits-input : (command : Option CommandView) (status : Status) → (status ≡ Refused) ⊎ (status ≡ Limit) → Fits command status
fits-input command status (inl is) = record { found = λ e. absurd (cc (is, e)); arguments = λ e. absurd (cc (is, e)); file = λ e. cc (is, e); output = λ e. cc (is, e); rejected = λ e. absurd (cc (is, e)) }
fits-input command status (inr is) = record { found = λ e. absurd (cc (is, e)); arguments = λ e. absurd (cc (is, e)); file = λ e. cc (is, e); output = λ e. cc (is, e); rejected = λ e. absurd (cc (is, e)) }

-- a result is this one
fits-as : (command : Option CommandView) (result other : Expected) → result ≡ other → Fits command other.status → Fits command result.status
fits-as command result other is fits = subst (λ (r : Expected). Fits command r.status) (sym is) fits

fits-unless : (command : Option CommandView) (o : Option RefusalView) (Follows : Expected → Type 0) (result : Expected) → IfSome o IsInput → ((r : Expected) → Follows r → Fits command r.status)
    → UnlessRefused o Follows result → Fits command result.status
fits-unless command (Some refusal) Follows result input follows is = fits-as command result (refused refusal) is (fits-input command (refusal_status refusal) input)
fits-unless command None Follows result input follows is = follows result is

-- of a command over dictionaries
fits-over : (command : Option CommandView) (limit : StackView → Option RefusalView) (Follows : StackView → Expected → Type 0) (args contents : List (List ℕ)) (result : Expected)
    → ((s : StackView) → IfSome (limit s) IsInput) → ((s : StackView) (r : Expected) → Follows s r → Fits command r.status) → OverStack limit Follows args contents result → Fits command result.status
fits-over command limit Follows args contents result input follows is =
    fits-unless command (first_of (dictionaries_refusal args contents) (limit (stack_from args contents))) (Follows (stack_from args contents)) result
    (input-first (dictionaries_refusal args contents) (limit (stack_from args contents)) (input-dictionaries args contents) (input (stack_from args contents))) (follows (stack_from args contents)) is

fits-found : (command : Option CommandView) → finds command ≡ true → Fits command Conflicts
fits-found command finds = record { found = λ e. finds; arguments = λ e. absurd cc; file = λ e. cc; output = λ e. cc; rejected = λ e. absurd cc }

fits-rows : (command : Option CommandView) (found : List Row) → finds command ≡ true → Fits command (audit_status found)
fits-rows command [] is = fits-clean command
fits-rows command (row ∷ others) is = fits-found command is

-- of an audit
fits-conflicts : (command : Option CommandView) (make : Made) (stack : StackView) (result : Expected) → ((s : StackView) (f : SettledView) (rows : List Row) → Expected.status (make s f rows) ≡ audit_status rows) → finds command ≡ true
    → PrintsConflicts make stack result → Fits command result.status
fits-conflicts command make stack result ends finds is =
    fits-as command result (make stack is.searched is.rows) is.produces (subst (Fits command) (sym (ends stack is.searched is.rows)) (fits-rows command is.rows finds))

-- of an audit that writes its certificate
fits-limit : (command : Option CommandView) (stack : StackView) (searched : SettledView) (found : List Row) → finds command ≡ true → Fits command (Expected.status (report_or_limit stack searched found))
fits-limit command stack searched found is = by (nat_lt certificate_limit (length (own_certificate (length stack.outlines) searched.words found)))
  where
    by : (b : Bool) → Fits command (Expected.status (cond b (refused certificate_too_long) (report_alone stack searched found)))
    by true = fits-input command Limit (inr refl)
    by false = fits-rows command found is

-- of the rows of a report
fits-read : (command : Option CommandView) (outcome : ReadOutcome) → Fits command (Expected.status (rows_result outcome))
fits-read command (a_report report) = fits-clean command
fits-read command no_value = fits-input command Refused (inl refl)
fits-read command another_value = fits-input command Refused (inl refl)

fits-bytes : (command : Option CommandView) (bytes : List ℕ) (result : Expected) → IsListed bytes result → Fits command result.status
fits-bytes command bytes result is =
    fits-unless command (bytes_limit bytes) (ListsRows bytes) result (input-over MAX_BYTES (λ _. too_many_bytes 1) (length bytes) (inr refl))
    (λ r e. fits-as command r (rows_result e.outcome) e.produces (fits-read command e.outcome)) is

fits-listed : (command : Option CommandView) (file : Option (List ℕ)) (result : Expected) → IsRows file result → Fits command result.status
fits-listed command (Some bytes) result is = fits-bytes command bytes result is
fits-listed command None result is = fits-bytes command is.0 result is.1

-- of two readings
fits-two : (command : Option CommandView) (found : Option ReadingsView) → finds command ≡ true → Fits command (parse_status found)
fits-two command None is = fits-clean command
fits-two command (Some two) is = fits-found command is

-- of trials
fits-trials : (command : Option CommandView) (trials : List TrialView) → finds command ≡ true → Fits command (trials_status trials)
fits-trials command trials is = by (list_any has_conflict trials)
  where
    by : (b : Bool) → Fits command (if b then Conflicts else Clean)
    by true = fits-found command is
    by false = fits-clean command

-- of the check of a certificate
fits-outcome : (command : Option CommandView) (outcome : CheckOutcome) → checks command ≡ true → Fits command (Expected.status (check_result outcome))
fits-outcome command (accepted n) checks = fits-clean command
fits-outcome command (rejected at why) checks = record { found = λ e. absurd cc; arguments = λ e. absurd cc; file = λ e. cc; output = λ e. cc; rejected = λ e. checks }
fits-outcome command too_long checks = fits-input command Limit (inr refl)

fits-check : (command : Option CommandView) (file : Option (List ℕ)) (stack : StackView) (result : Expected) → checks command ≡ true → IsCheck file stack result → Fits command result.status
fits-check command (Some bytes) stack result checks is = fits-as command result (check_result (check_outcome (closure_at stack) bytes)) is (fits-outcome command (check_outcome (closure_at stack) bytes) checks)
fits-check command None stack result checks is = fits-as command result (check_result is.0) is.1 (fits-outcome command is.0 checks)

-- of a certificate that is written anew
fits-upgraded : (command : Option CommandView) (target bytes : List ℕ) (outcome : CheckOutcome) → checks command ≡ true → Fits command (Expected.status (upgrade_result target bytes outcome))
fits-upgraded command target bytes (accepted n) is = fits-clean command
fits-upgraded command target bytes (rejected at why) is = fits-outcome command (rejected at why) is
fits-upgraded command target bytes too_long is = fits-input command Limit (inr refl)

fits-upgrade : (command : Option CommandView) (target : List ℕ) (file : Option (List ℕ)) (result : Expected) → checks command ≡ true → IsUpgrade target file result → Fits command result.status
fits-upgrade command target (Some bytes) result checks is = fits-as command result (upgrade_result target bytes (upgrade_outcome bytes)) is (fits-upgraded command target bytes (upgrade_outcome bytes) checks)
fits-upgrade command target None result checks is = fits-as command result (upgrade_result target is.bytes is.outcome) is.is (fits-upgraded command target is.bytes is.outcome checks)

pub fits : (inputs : Inputs) (command : Option CommandView) (result : Expected) → IsExpected inputs command result → Fits command result.status
fits inputs None result is = fits-as None result (refused not_words) is (record { found = λ e. absurd cc; arguments = λ e. refl; file = λ e. cc; output = λ e. cc; rejected = λ e. absurd cc })
fits inputs (Some (replay outline dicts)) result is =
    fits-over (Some (replay outline dicts)) trie_limit (IsReplay outline) dicts inputs.dictionaries result input-trie
    (λ s r e. fits-as (Some (replay outline dicts)) r _ e (fits-clean (Some (replay outline dicts)))) is
fits inputs (Some (explain outlines dicts)) result is =
    fits-over (Some (explain outlines dicts)) trie_limit (IsExplained outlines) dicts inputs.dictionaries result input-trie
    (λ s r e. fits-as (Some (explain outlines dicts)) r _ e (fits-clean (Some (explain outlines dicts)))) is
fits inputs (Some (audit workers dicts)) result is =
    fits-over (Some (audit workers dicts)) search_limit IsAudit dicts inputs.dictionaries result input-search
    (λ s r e. fits-conflicts (Some (audit workers dicts)) report_alone s r (λ s f rows. refl) refl e) is
fits inputs (Some (audit_json workers dicts)) result is =
    fits-over (Some (audit_json workers dicts)) search_limit IsAuditJson dicts inputs.dictionaries result input-search
    (λ s r e. fits-conflicts (Some (audit_json workers dicts)) json_alone s r (λ s f rows. refl) refl e) is
fits inputs (Some (rows file)) result is = fits-listed (Some (rows file)) inputs.file result is
fits inputs (Some (audit_to certificate workers dicts)) result is =
    fits-over (Some (audit_to certificate workers dicts)) search_limit (IsAuditTo certificate) dicts inputs.dictionaries result input-search
    (λ s r e. fits-as (Some (audit_to certificate workers dicts)) r (report_and_certificate certificate s e.searched e.rows) e.produces (fits-limit (Some (audit_to certificate workers dicts)) s e.searched e.rows refl)) is
fits inputs (Some (check certificate dicts)) result is =
    fits-over (Some (check certificate dicts)) search_limit (IsCheck inputs.file) dicts inputs.dictionaries result input-search
    (λ s r e. fits-check (Some (check certificate dicts)) inputs.file s r refl e) is
fits inputs (Some (upgrade certificate target)) result is = fits-upgrade (Some (upgrade certificate target)) target inputs.file result refl is
fits inputs (Some (settled workers dicts)) result is =
    fits-over (Some (settled workers dicts)) search_limit IsSettled dicts inputs.dictionaries result input-search
    (λ s r e. fits-as (Some (settled workers dicts)) r (settled_result s e.searched e.rows) e.produces (fits-rows (Some (settled workers dicts)) e.rows refl)) is
fits inputs (Some (parse workers dicts)) result is =
    fits-over (Some (parse workers dicts)) search_limit IsParse dicts inputs.dictionaries result input-search
    (λ s r e. fits-as (Some (parse workers dicts)) r (parse_result s e.searched e.found) e.produces (fits-two (Some (parse workers dicts)) e.found refl)) is
fits inputs (Some (try_briefs workers briefs dicts)) result is =
    let command = Some (try_briefs workers briefs dicts) in
    fits-over command search_limit (IsTry (brief_outlines briefs)) dicts inputs.dictionaries result input-search
    (λ s r e. fits-unless command (briefs_limit (brief_outlines briefs) s) (TriesBriefs (brief_outlines briefs) s) r (input-briefs (brief_outlines briefs) s)
    (λ r e. fits-as command r (try_result s e.trials) e.produces (fits-trials command e.trials refl)) e) is
fits inputs (Some (generate start count)) result is = fits-as (Some (generate start count)) result _ is (fits-clean (Some (generate start count)))
fits inputs (Some (audit_generated start count workers)) result is =
    let stack : StackView = generated_stack start count in
    fits-unless (Some (audit_generated start count workers)) (entries_limit stack) (IsSummary stack) result (input-entries stack)
    (λ r e. fits-conflicts (Some (audit_generated start count workers)) counts_alone stack r (λ s f rows. refl) refl e) is
