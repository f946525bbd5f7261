-- An audit that leaves its certificate in a file: that file proves its report.
use Rattle.std.proofs.Common.{ℕ, ◌≡◌, ◌≤◌, ◌∙◌, List, ap, refl, subst, sym, arith, cond, nat_lt, nat_le, take, count_by, All, Bool, true, false, true≢false, Option, Some, None, IfSome, length}
use Rattle.std.specs.Prelude.{◌==◌}
use Rattle.std.specs.Io.KnownBytes.{append_known}
use Rattle.std.proofs.lemmas.Bool.{ltb-false}
use Rattle.std.proofs.lemmas.Bool.Decides.{nat_tests}
use Rattle.outside.specs.Files.{Both, Replaces}
use Rattle.steno_rules.specs.Outlines.{AreEntries, IsOutline}
use Rattle.steno_rules.specs.StateNumbers.{number_count}
use Rattle.steno_rules.proofs.FlaggedWords.{flagged-are}
use Rattle.longest_match.specs.Rows.{Row}
use Rattle.dict_stack.specs.Stacks.{StackView, most_dictionaries, most_entries}
use Rattle.dict_files.specs.Refusals.{dictionaries_refusal, first_of, first_refusal, if_over, outline_count, stack_from}
use Rattle.dict_files.specs.Contents.{AreContents}
use Rattle.report.specs.Refusals.{RefusalView, certificate_too_long, too_many_dictionaries, too_many_entries, too_many_states}
use Rattle.report.specs.Reports.{report_text}
use Rattle.conflict_example.specs.Chosen.{words_in_stack}
use Rattle.round_core.specs.Searches.{SettledView}
use Rattle.state_numbering.specs.Causes.{most_states}
use Rattle.certificate.specs.CertReading.{read_lines}
use Rattle.certificate.specs.Readers.{certificate_limit}
use Rattle.certificate_laws.specs.Checks.{accepted, certificate_rows, outcome_of, readable_lines}
use Rattle.certificate_laws.specs.Validity.{IsValid, all_checks, check_outcome}
use Rattle.certificate_laws.proofs.ConflictRows.{valid_rows}
use Rattle.cert_check.specs.Verdicts.{closure_at}
use Rattle.audit_certificate.specs.OwnCertificates.{IsAudited, own_certificate}
use Rattle.audit_certificate.proofs.Callers.{is_audited}
use Rattle.audit_certificate.specs.Written.{own_certificate_lines}
use Rattle.audit_certificate.proofs.Fitting.{fitting_all}
use Rattle.audit_certificate.proofs.Proving.{own_proves}
use Rattle.commands.specs.Commands.{CommandView, audit_to}
use Rattle.audit_top.specs.Audited.{IsAuditTo, report_alone, report_or_limit, summary_of}
use Rattle.audit_top.specs.Outcomes.{Expected, UnlessRefused, refused, search_limit, trie_limit}
use Rattle.audit_top.specs.Promises.{Certifies, CertifiesConflicts, IsCertificate}
use Rattle.audit_top.specs.Runs.{IsRun, World, Writes}
use Rattle.audit_top.specs.Statuses.{audit_status}
use Rattle.audit_top.specs.declared.status.Status.{Status}
use Rattle.audit_top.proofs.Causes.{IsInput, input-dictionaries, input-first, input-search}
use Rattle.audit_top.proofs.Headlines.{ends_done, found_done, is_done, not_refused, over, produced}
use Rattle.audit_top.proofs.SmallRows.{small-rows}
use Rattle.audit_top.proofs.Writing.{AreFound}
use Rattle.audit_top.proofs.StackEntries.{stack-entries, stack-outlines}

-- ---- what wasn't refused

-- nothing is over a limit
within : (most : ℕ) (refusal : ℕ → RefusalView) (n : ℕ) → if_over most refusal n ≡ None → n ≤ most
within most refusal n none = by (nat_lt most n) refl none
  where
    by : (b : Bool) → nat_lt most n ≡ b → cond b (Some (refusal n)) None ≡ None → n ≤ most
    by true is none = absurd cc
    by false is none = ltb-false most n is

-- neither of two refusals
neither : (a b : Option RefusalView) → first_of a b ≡ None → (a ≡ None) × (b ≡ None)
neither None b none = (refl, none)
neither (Some refusal) b none = absurd cc

-- the dictionaries and their stack are within the limits
record IsWithinLimits (stack : StackView) : Type 0 where
  entries : length stack.outlines ≤ most_entries
  states : number_count stack.outlines ≤ most_states

stack-within : (dicts contents : List (List ℕ)) → first_of (dictionaries_refusal dicts contents) (search_limit (stack_from dicts contents)) ≡ None → IsWithinLimits (stack_from dicts contents)
stack-within dicts contents none =
    let stack = stack_from dicts contents in
    let two = neither (dictionaries_refusal dicts contents) (search_limit stack) none in
    let few = neither (if_over most_dictionaries too_many_dictionaries (length dicts)) (first_of (first_refusal 1 contents) (if_over most_entries too_many_entries (outline_count contents))) two.0 in
    let entries = neither (first_refusal 1 contents) (if_over most_entries too_many_entries (outline_count contents)) few.1 in
    let states = neither (trie_limit stack) (if_over most_states too_many_states (number_count stack.outlines)) two.1 in
    record {
      entries = within most_entries too_many_entries (outline_count contents) entries.1;
      states = within most_states too_many_states (number_count stack.outlines) states.1;
    }

-- a run that wasn't refused had no refusal
no-refusal : (o : Option RefusalView) (Follows : Expected → Type 0) (result : Expected) → IfSome o IsInput → is_done result.status ≡ true → UnlessRefused o Follows result → o ≡ None
no-refusal None Follows result input done is = refl
no-refusal (Some refusal) Follows result input done is = absurd (not_refused refusal result input done is)

-- ---- the certificate

-- a result that wasn't refused for the certificate's length has the report, and the certificate fits
record CertificateFits (stack : StackView) (searched : SettledView) (rows : List Row) : Type 0 where
  fits : length (own_certificate (length stack.outlines) searched.words rows) ≤ certificate_limit
  report : report_or_limit stack searched rows ≡ report_alone stack searched rows

certificate-fits : (stack : StackView) (searched : SettledView) (rows : List Row) → is_done (Expected.status (report_or_limit stack searched rows)) ≡ true → CertificateFits stack searched rows
certificate-fits stack searched rows = by (nat_lt certificate_limit (length (own_certificate (length stack.outlines) searched.words rows))) refl
  where
    by : (b : Bool) → nat_lt certificate_limit (length (own_certificate (length stack.outlines) searched.words rows)) ≡ b
        → is_done (Expected.status (cond b (refused certificate_too_long) (report_alone stack searched rows))) ≡ true → CertificateFits stack searched rows
    by true is done = absurd (true≢false (sym done))
    by false is done = record {
      fits = ltb-false certificate_limit (length (own_certificate (length stack.outlines) searched.words rows)) is;
      report = ap (λ (b : Bool). cond b (refused certificate_too_long) (report_alone stack searched rows)) is;
    }

-- a valid certificate that fits is accepted
fitting-accepted : (stack : StackView) (bytes : List ℕ) → AreEntries stack.outlines → length bytes ≤ certificate_limit → IsValid (closure_at stack) bytes → check_outcome (closure_at stack) bytes ≡ accepted (length (certificate_rows (read_lines bytes)))
fitting-accepted stack bytes are fits valid =
    let test : nat_le (length bytes) certificate_limit ≡ true = grind (arith, nat_tests) in
    let all : readable_lines certificate_limit bytes ≡ None = ap (λ (b : Bool). cond b None (Some (count_by (λ c. c == 10) (take certificate_limit bytes)))) test in
    ap (λ (most : Option ℕ). outcome_of most (read_lines bytes) (all_checks (closure_at stack) (read_lines bytes))) all
    ∙ valid.1 ∙ ap accepted (valid_rows stack.outlines stack.words bytes are valid).1

-- what was found of the stack is an audit
is-audit : (stack : StackView) (searched : SettledView) (rows : List Row) → AreEntries stack.outlines → All IsOutline stack.outlines → IsWithinLimits stack → AreFound stack searched rows → IsAudited stack.outlines stack.words searched.words rows
is-audit stack searched rows are outlines few found =
    let words = words_in_stack stack in
    let small = small-rows stack.outlines words rows are (flagged-are stack.outlines stack.words are) outlines few.entries few.states found.exact in
    let entries = few.entries in
    let states = few.states in
    is_audited stack.outlines stack.words searched.words rows are outlines (omega (arith, entries)) (omega (arith, states)) found.search.words found.exact small

-- its certificate, where it fits, is one of the stack
own-certificate : (stack : StackView) (searched : SettledView) (rows : List Row) → AreEntries stack.outlines → All IsOutline stack.outlines → IsWithinLimits stack → AreFound stack searched rows
    → length (own_certificate (length stack.outlines) searched.words rows) ≤ certificate_limit
    → IsCertificate stack (own_certificate (length stack.outlines) searched.words rows) × (certificate_rows (read_lines (own_certificate (length stack.outlines) searched.words rows)) ≡ rows)
own-certificate stack searched rows are outlines few found fits =
    let bytes = own_certificate (length stack.outlines) searched.words rows in
    let proves = own_proves stack.outlines stack.words searched.words rows (is-audit stack searched rows are outlines few found) in (
      record {
        valid = proves.valid;
        outcome = fitting-accepted stack bytes are fits proves.valid;
        exact = proves.exact;
        table = searched.words;
        settled = found.search.words;
        longest = proves.runs;
      },
      proves.rows_are,
    )

-- ---- the command

pub certifies : (command : Option CommandView) (before after : World) (status : Status) → IsRun command before after status → Certifies command before after status
certifies command before after status run certificate workers dicts is ends = by (subst (λ c. IsRun c before after status) is run) (found_done status ends)
  where
    by : IsRun (Some (audit_to certificate workers dicts)) before after status → is_done status ≡ true
        → (contents : List (List ℕ)) × AreContents before.files.held dicts contents × CertifiesConflicts certificate before after status (stack_from dicts contents)
    by run done =
        let contents = run.inputs.dictionaries in
        let stack = stack_from dicts contents in
        let made = produced (Some (audit_to certificate workers dicts)) run.inputs before after status done run.ends in
        let unrefused = ends_done status made.result made.ends done in
        let is = over search_limit (IsAuditTo certificate) dicts contents made.result input-search unrefused made.is in
        let none = no-refusal (first_of (dictionaries_refusal dicts contents) (search_limit stack)) (IsAuditTo certificate stack) made.result
        (input-first (dictionaries_refusal dicts contents) (search_limit stack) (input-dictionaries dicts contents) (input-search stack)) unrefused made.is in
        let fit = certificate-fits stack is.searched is.rows (sym (ap (λ (r : Expected). is_done r.status) is.produces) ∙ unrefused) in
        let found : AreFound stack is.searched is.rows = record { exact = is.exact; chosen = is.chosen; search = is.search } in
        let own = own-certificate stack is.searched is.rows (stack-entries dicts contents) (stack-outlines dicts contents) (stack-within dicts contents none) found fit.fits in
        let summary = summary_of is.searched is.rows in (
          contents,
          run.read.dictionaries,
          record {
            bytes = own_certificate (length stack.outlines) is.searched.words is.rows;
            is = own.0;
            file = subst (λ (bytes : List ℕ). Both (Replaces certificate bytes) before.files.held after.files.held) (fitting_all (own_certificate_lines (length stack.outlines) is.searched.words is.rows) fit.fits)
                (subst (λ (r : Expected). Writes r.file before.files after.files) is.produces made.files);
            summary = summary;
            counts = sym (ap length own.1);
            text = made.text ∙ ap (λ (r : Expected). append_known before.out.text r.text) is.produces ∙ ap (λ (r : Expected). append_known before.out.text r.text) fit.report
                ∙ ap (λ (rows : List Row). append_known before.out.text (report_text stack summary rows)) (sym own.1);
            ends = made.ends ∙ ap (λ (r : Expected). r.status) is.produces ∙ ap (λ (r : Expected). r.status) fit.report ∙ ap audit_status (sym own.1);
          },
        )
