-- Of what a run is expected to produce there is at most one.
use Rattle.conflict_example.specs.Chosen.{AreChosen, words_in_stack}
use Rattle.conflict_example.proofs.OneRow.{rows_once}
use Rattle.round_core.proofs.OneSearch.{search_once}
use Rattle.round_core.specs.Searches.{SettledView}
use Rattle.longest_match.specs.Rows.{Row}
use Rattle.steno_rules.specs.ClosureGraphs.{kept_lists}
use Rattle.dict_json.specs.Reading.{reading}
use Rattle.report_json.proofs.Decided.{one_outcome, some_outcome}
use Rattle.cert_upgrade.specs.Forms.{upgrade_outcome}
use Rattle.audit_top.specs.Upgraded.{IsUpgrade, upgrade_result}
use Rattle.audit_top.specs.Kept.{IsSettled}
use Rattle.audit_top.proofs.Keeping.{settled-once}
use Rattle.audit_top.specs.Listed.{IsListed, IsRows, ListsRows, bytes_limit, rows_result}
use Rattle.audit_top.specs.Parsed.{IsParse}
use Rattle.audit_top.proofs.Parsing.{parsed-once}
use Rattle.audit_top.specs.Tried.{IsTry, TriesBriefs, briefs_limit}
use Rattle.audit_top.proofs.Trying.{tries-once}
use Rattle.std.proofs.Common.{ℕ, ◌≡◌, ◌∙◌, List, [], sym, refl, Option, Some, None, ◌∷◌, ap, ap₂, subst, false, true≢false, IsSome}
use Rattle.dict_json.specs.Generated.{generated_text}
use Rattle.dict_stack.specs.Stacks.{StackView}
use Rattle.dict_files.specs.Refusals.{dictionaries_refusal, first_of, stack_from}
use Rattle.report.specs.Refusals.{RefusalView, not_words}
use Rattle.report.specs.Replays.{replay_text}
use Rattle.commands.specs.Commands.{CommandView, brief_outlines, replay, explain, audit, audit_json, rows, audit_to, check, upgrade, settled, parse, try_briefs, generate, audit_generated}
use Rattle.commands.specs.Inputs.{searches}
use Rattle.audit_top.specs.Outcomes.{Expected, Inputs, OverStack, UnlessRefused, prints, refused, trie_limit, search_limit}
use Rattle.audit_top.specs.Translated.{IsExplained, IsReplay, all_typed, typed_parts, typed_strokes, typed_text}
use Rattle.audit_top.specs.Audited.{IsAudit, IsAuditJson, IsAuditTo, IsSummary, Made, PrintsConflicts, counts_alone, entries_limit, generated_stack, json_alone, report_alone, report_and_certificate}
use Rattle.audit_top.specs.Checked.{IsCheck, check_result}
use Rattle.certificate_laws.specs.Checks.{too_long}
use Rattle.certificate_laws.specs.Validity.{check_outcome}
use Rattle.cert_check.specs.Verdicts.{closure_at}
use Rattle.audit_top.specs.Expected.{IsExpected, IsTold}
use Rattle.audit_top.specs.declared.status.Status.TheVariants.{Clean}

-- ---- results

prints_once : (make : Made) (stack : StackView) (a b : Expected) → PrintsConflicts make stack a → PrintsConflicts make stack b → a ≡ b
prints_once make stack a b ha hb =
    let searched : ha.searched ≡ hb.searched = search_once 0 (kept_lists stack.outlines (words_in_stack stack)) ha.searched hb.searched ha.search hb.search in
    let chosen = subst (λ (s : SettledView). AreChosen stack.outlines (words_in_stack stack) s.words hb.rows) (sym searched) hb.chosen in
    let rows : ha.rows ≡ hb.rows = rows_once stack.outlines (words_in_stack stack) ha.searched.words ha.rows hb.rows ha.exact hb.exact ha.chosen chosen in
    ha.produces
    ∙ ap₂ (λ (rows : List Row) (s : SettledView). make stack s rows) rows searched
    ∙ sym hb.produces

unless_once : (o : Option RefusalView) (Follows : Expected → Type 0) (a b : Expected) → ((a b : Expected) → Follows a → Follows b → a ≡ b) → UnlessRefused o Follows a → UnlessRefused o Follows b → a ≡ b
unless_once None Follows a b once ha hb = once a b ha hb
unless_once (Some refusal) Follows a b once ha hb = ha ∙ sym hb

over_once : (limit : StackView → Option RefusalView) (Follows : StackView → Expected → Type 0) (dicts contents : List (List ℕ)) (a b : Expected) → ((s : StackView) (a b : Expected) → Follows s a → Follows s b → a ≡ b)
    → OverStack limit Follows dicts contents a → OverStack limit Follows dicts contents b → a ≡ b
over_once limit Follows dicts contents a b once ha hb =
    unless_once (first_of (dictionaries_refusal dicts contents) (limit (stack_from dicts contents))) (Follows (stack_from dicts contents)) a b (once (stack_from dicts contents)) ha hb

-- where the certificate's bytes are known
check_once : (bytes : List ℕ) (stack : StackView) (a b : Expected) → IsCheck (Some bytes) stack a → IsCheck (Some bytes) stack b → a ≡ b
check_once bytes stack a b ha hb = ha ∙ sym hb

-- where the report's bytes are known
listed_once : (bytes : List ℕ) (a b : Expected) → IsListed bytes a → IsListed bytes b → a ≡ b
listed_once bytes a b ha hb = unless_once (bytes_limit bytes) (ListsRows bytes) a b by ha hb
  where
    by : (a b : Expected) → ListsRows bytes a → ListsRows bytes b → a ≡ b
    by a b la lb = la.produces ∙ ap rows_result (one_outcome (reading bytes) la.outcome lb.outcome la.is lb.is) ∙ sym lb.produces

tried_once : (briefs : List (List ℕ)) (stack : StackView) (a b : Expected) → IsTry briefs stack a → IsTry briefs stack b → a ≡ b
tried_once briefs stack a b ha hb = unless_once (briefs_limit briefs stack) (TriesBriefs briefs stack) a b (tries-once briefs stack) ha hb

pub expected-once : (inputs : Inputs) (command : Option CommandView) (a b : Expected) → IsTold command inputs → IsExpected inputs command a → IsExpected inputs command b → a ≡ b
expected-once inputs None a b told ha hb = ha ∙ sym hb
expected-once inputs (Some (replay outline dicts)) a b told ha hb = over_once trie_limit (IsReplay outline) dicts inputs.dictionaries a b (λ s a b x y. x ∙ sym y) ha hb
expected-once inputs (Some (explain outlines dicts)) a b told ha hb = over_once trie_limit (IsExplained outlines) dicts inputs.dictionaries a b (λ s a b x y. x ∙ sym y) ha hb
expected-once inputs (Some (audit workers dicts)) a b told ha hb = over_once search_limit IsAudit dicts inputs.dictionaries a b (prints_once report_alone) ha hb
expected-once inputs (Some (audit_json workers dicts)) a b told ha hb = over_once search_limit IsAuditJson dicts inputs.dictionaries a b (prints_once json_alone) ha hb
expected-once inputs (Some (rows file)) a b told ha hb = by inputs.file told ha hb
  where
    by : (file : Option (List ℕ)) → IsSome file → IsRows file a → IsRows file b → a ≡ b
    by None told ha hb = absurd (true≢false (sym told))
    by (Some bytes) told ha hb = listed_once bytes a b ha hb
expected-once inputs (Some (audit_to certificate workers dicts)) a b told ha hb = over_once search_limit (IsAuditTo certificate) dicts inputs.dictionaries a b (prints_once (report_and_certificate certificate)) ha hb
expected-once inputs (Some (check certificate dicts)) a b told ha hb = by inputs.file told ha hb
  where
    by : (file : Option (List ℕ)) → IsSome file → OverStack search_limit (IsCheck file) dicts inputs.dictionaries a → OverStack search_limit (IsCheck file) dicts inputs.dictionaries b → a ≡ b
    by None told ha hb = absurd (true≢false (sym told))
    by (Some bytes) told ha hb = over_once search_limit (IsCheck (Some bytes)) dicts inputs.dictionaries a b (check_once bytes) ha hb
expected-once inputs (Some (upgrade certificate target)) a b told ha hb = by inputs.file told ha hb
  where
    by : (file : Option (List ℕ)) → IsSome file → IsUpgrade target file a → IsUpgrade target file b → a ≡ b
    by None told ha hb = absurd (true≢false (sym told))
    by (Some bytes) told ha hb = ha ∙ sym hb
expected-once inputs (Some (settled workers dicts)) a b told ha hb = over_once search_limit IsSettled dicts inputs.dictionaries a b settled-once ha hb
expected-once inputs (Some (parse workers dicts)) a b told ha hb = over_once search_limit IsParse dicts inputs.dictionaries a b parsed-once ha hb
expected-once inputs (Some (try_briefs workers briefs dicts)) a b told ha hb =
    over_once search_limit (IsTry (brief_outlines briefs)) dicts inputs.dictionaries a b (tried_once (brief_outlines briefs)) ha hb
expected-once inputs (Some (generate start count)) a b told ha hb = ha ∙ sym hb
expected-once inputs (Some (audit_generated start count workers)) a b told ha hb =
    let stack : StackView = generated_stack start count in
    unless_once (entries_limit stack) (IsSummary stack) a b (prints_once counts_alone stack) ha hb

-- ---- and of a command that searches nothing there is one

unless_some : (o : Option RefusalView) (Follows : Expected → Type 0) (result : Expected) → Follows result → (r : Expected) × UnlessRefused o Follows r
unless_some None Follows result is = (result, is)
unless_some (Some refusal) Follows result is = (refused refusal, refl)

over_some : (limit : StackView → Option RefusalView) (Follows : StackView → Expected → Type 0) (dicts contents : List (List ℕ)) → ((s : StackView) → (r : Expected) × Follows s r) → (r : Expected) × OverStack limit Follows dicts contents r
over_some limit Follows dicts contents some =
    let stack : StackView = stack_from dicts contents in
    unless_some (first_of (dictionaries_refusal dicts contents) (limit stack)) (Follows stack) (some stack).0 (some stack).1

listed_some : (bytes : List ℕ) → (r : Expected) × IsListed bytes r
listed_some bytes =
    let some = some_outcome (reading bytes) in
    unless_some (bytes_limit bytes) (ListsRows bytes) (rows_result some.0) (record { outcome = some.0; is = some.1; produces = refl })

rows_some : (file : Option (List ℕ)) → (r : Expected) × IsRows file r
rows_some (Some bytes) = listed_some bytes
rows_some None = let some = listed_some [] in (some.0, ([], some.1))

check_some : (file : Option (List ℕ)) (stack : StackView) → (r : Expected) × IsCheck file stack r
check_some (Some bytes) stack = (check_result (check_outcome (closure_at stack) bytes), refl)
check_some None stack = (check_result too_long, (too_long, refl))

upgrade_some : (target : List ℕ) (file : Option (List ℕ)) → (r : Expected) × IsUpgrade target file r
upgrade_some target (Some bytes) = (upgrade_result target bytes (upgrade_outcome bytes), refl)
upgrade_some target None = (upgrade_result target [] too_long, record { bytes = []; outcome = too_long; is = refl })

pub expected-some : (inputs : Inputs) (command : Option CommandView) → searches command ≡ false → (result : Expected) × IsExpected inputs command result
expected-some inputs None plain = (refused not_words, refl)
expected-some inputs (Some (replay outline dicts)) plain = over_some trie_limit (IsReplay outline) dicts inputs.dictionaries (λ s. (prints Clean (replay_text s (typed_strokes outline)), refl))
expected-some inputs (Some (explain outlines dicts)) plain = over_some trie_limit (IsExplained outlines) dicts inputs.dictionaries (λ s. (prints Clean (typed_text s (all_typed outlines) (typed_parts outlines)), refl))
expected-some inputs (Some (audit workers dicts)) plain = absurd (true≢false plain)
expected-some inputs (Some (audit_json workers dicts)) plain = absurd (true≢false plain)
expected-some inputs (Some (rows file)) plain = rows_some inputs.file
expected-some inputs (Some (audit_to certificate workers dicts)) plain = absurd (true≢false plain)
expected-some inputs (Some (check certificate dicts)) plain = over_some search_limit (IsCheck inputs.file) dicts inputs.dictionaries (check_some inputs.file)
expected-some inputs (Some (upgrade certificate target)) plain = upgrade_some target inputs.file
expected-some inputs (Some (settled workers dicts)) plain = absurd (true≢false plain)
expected-some inputs (Some (parse workers dicts)) plain = absurd (true≢false plain)
expected-some inputs (Some (try_briefs workers briefs dicts)) plain = absurd (true≢false plain)
expected-some inputs (Some (audit_generated start count workers)) plain = absurd (true≢false plain)
expected-some inputs (Some (generate start count)) plain = (prints Clean (generated_text start count), refl)
