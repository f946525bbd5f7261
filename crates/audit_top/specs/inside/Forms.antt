-- The forms of what is printed of an audit.
use Rattle.std.specs.Prelude.{ℕ, List}
use Rattle.dict_stack.specs.Stacks.{StackView}
use Rattle.longest_match.specs.Rows.{Row}
use Rattle.report.specs.Reports.{summary_text}
use Rattle.round_core.specs.Searches.{SettledView}
use Rattle.audit_top.specs.Audited.{Made, summary_of, whole_json, whole_report}
use Rattle.audit_top.specs.Outcomes.{prints}
use Rattle.audit_top.specs.Statuses.{audit_status}
use Rattle.audit_top.specs.declared.audit.Form.{Form}
use Rattle.audit_top.specs.declared.audit.Form.TheVariants as form

-- the text, by its form
abbrev pub text_in : Form → StackView → SettledView → List Row → List ℕ
text_in form.Report stack searched rows = whole_report stack searched rows
text_in form.Json stack searched rows = whole_json stack searched rows
text_in form.Summary stack searched rows = summary_text stack (summary_of searched rows) searched.relaxed

-- and the result
abbrev pub made_in : Form → Made
made_in form stack searched rows = prints (audit_status rows) (text_in form stack searched rows)
