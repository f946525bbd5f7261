-- What is expected of audits: of dictionaries, and of one that is generated.
--     PrintsConflicts make stack result    the rows are exactly the conflicts, and the result is made of them and of the search
--     IsAudit stack result                 the report
--     IsAuditJson stack result             the report as JSON
--     IsAuditTo name stack result          the report, and the certificate in the file of this name
--     IsAuditGenerated start count result  the counts alone, of the generated dictionary
use Rattle.std.specs.Prelude.{ℕ, ◌≡◌, List, [], ◌∷◌, true, not, nat_eq, nat_lt, if◌then◌else◌, length, filter, Option, Some}
use Rattle.graph_rules.specs.Graphs.{unreached}
use Rattle.steno_rules.specs.ClosureGraphs.{kept_lists}
use Rattle.dict_json.specs.Generated.{generated_text}
use Rattle.dict_stack.specs.Stacks.{StackView, most_entries, stack_of}
use Rattle.dict_files.specs.Refusals.{dictionaries_of, first_of, if_over}
use Rattle.longest_match.specs.Rows.{Row, AreConflicts}
use Rattle.round_core.specs.Searches.{IsSearched, SettledView}
use Rattle.conflict_example.specs.Chosen.{AreChosen, words_in_stack}
use Rattle.report.specs.Refusals.{RefusalView, certificate_too_long, too_many_entries}
use Rattle.report.specs.Reports.{report_text, summary_text}
use Rattle.report.specs.declared.reports.Summary.{Summary}
use Rattle.report_json.specs.JsonLines.{json_text}
use Rattle.report_json.specs.JsonReports.{json_report}
use Rattle.certificate.specs.Readers.{certificate_limit}
use Rattle.audit_certificate.specs.OwnCertificates.{own_certificate}
use Rattle.audit_certificate.specs.Written.{fitting_text, own_certificate_lines}
use Rattle.audit_top.specs.Outcomes.{Expected, UnlessRefused, Written, prints, refused, search_limit}
use Rattle.audit_top.specs.Statuses.{audit_status}

-- how many numbers have a word of the search
abbrev pub reached_count : List ℕ → ℕ
reached_count table = length (filter (λ word. not (nat_eq word unreached)) table)

-- the counts of a report
abbrev pub summary_by : ℕ → ℕ → ℕ → Summary
summary_by states rounds conflicts =
    record { states = states; rounds = rounds; conflicts = conflicts }

abbrev pub summary_of : SettledView → List Row → Summary
summary_of searched rows =
    summary_by (reached_count searched.words) searched.rounds (length rows)

-- a result, by the stack, what was searched, and the conflicts
abbrev pub Made : Type 0
Made = StackView → SettledView → List Row → Expected

-- the rows are exactly the conflicts, each with its chosen shortest example, and the result is made of them and of the search
pub record PrintsConflicts (make : Made) (stack : StackView) (result : Expected) : Type 0 where
  pub rows : List Row
  pub searched : SettledView
  pub exact : AreConflicts stack.outlines (words_in_stack stack) rows
  pub chosen : AreChosen stack.outlines (words_in_stack stack) searched.words rows
  pub search : IsSearched 0 (kept_lists stack.outlines (words_in_stack stack)) searched
  pub produces : result ≡ make stack searched rows

-- ---- of dictionaries

-- the report, with the counts of the search
abbrev pub whole_report : StackView → SettledView → List Row → List ℕ
whole_report stack searched rows = report_text stack (summary_of searched rows) rows

abbrev pub report_alone : Made
report_alone stack searched rows = prints (audit_status rows) (whole_report stack searched rows)

abbrev pub IsAudit : StackView → Expected → Type 0
IsAudit stack result = PrintsConflicts report_alone stack result

-- the report as JSON
abbrev pub whole_json : StackView → SettledView → List Row → List ℕ
whole_json stack searched rows = json_text (json_report stack (summary_of searched rows) rows)

abbrev pub json_alone : Made
json_alone stack searched rows = prints (audit_status rows) (whole_json stack searched rows)

abbrev pub IsAuditJson : StackView → Expected → Type 0
IsAuditJson stack result = PrintsConflicts json_alone stack result

-- the lines of the certificate of the search and the conflicts that fit within the limit of its bytes: all of them, unless they pass it
abbrev pub certificate_in_file : List ℕ → StackView → SettledView → List Row → Option Written
certificate_in_file name stack searched rows =
    let lines = own_certificate_lines (length stack.outlines) searched.words rows in
    Some (record { name = name; bytes = fitting_text lines })

-- the report, unless the certificate passes the limit
abbrev pub report_or_limit : Made
report_or_limit stack searched rows =
    let certificate = own_certificate (length stack.outlines) searched.words rows in
    if nat_lt certificate_limit (length certificate) then refused certificate_too_long
    else report_alone stack searched rows

-- the certificate in a file, and then the report
abbrev pub report_and_certificate : List ℕ → Made
report_and_certificate name stack searched rows = record {
  status = Expected.status (report_or_limit stack searched rows);
  text = Expected.text (report_or_limit stack searched rows);
  file = certificate_in_file name stack searched rows;
}

abbrev pub IsAuditTo : List ℕ → StackView → Expected → Type 0
IsAuditTo name stack result = PrintsConflicts (report_and_certificate name) stack result

-- ---- of a generated dictionary

-- the stack of the one dictionary that the generator makes, which supplies words
abbrev pub generated_stack : ℕ → ℕ → StackView
generated_stack start count = stack_of (dictionaries_of (generated_text start count ∷ [])) (true ∷ [])

-- the limits of an audit of that dictionary, whose bytes are never refused
abbrev pub entries_limit : StackView → Option RefusalView
entries_limit stack =
    first_of (if_over most_entries too_many_entries (length stack.outlines)) (search_limit stack)

-- the counts alone, with how many moves the search made
abbrev pub counts_alone : Made
counts_alone stack searched rows =
    prints (audit_status rows) (summary_text stack (summary_of searched rows) searched.relaxed)

abbrev pub IsSummary : StackView → Expected → Type 0
IsSummary stack result = PrintsConflicts counts_alone stack result

-- the limits of the generated dictionary's stack, or the counts
abbrev pub IsAuditGenerated : ℕ → ℕ → Expected → Type 0
IsAuditGenerated start count result =
    let stack = generated_stack start count in
    UnlessRefused (entries_limit stack) (IsSummary stack) result
