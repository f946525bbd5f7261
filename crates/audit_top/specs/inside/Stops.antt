-- Why a run goes no further, as the parts of a run see it, and how a fault of a call below becomes such a reason.
use Rattle.report.specs.Refusals.{RefusalView, certificate_failed, certificate_too_long, file_failed, not_json, not_report, not_words, rejected, too_many_bytes, too_many_nodes, too_many_states}
use Rattle.brief_trial.specs.declared.faults.TrialFault.{TrialFault}
use Rattle.brief_trial.specs.declared.faults.TrialFault.TheVariants as trial
use Rattle.certificate.specs.declared.faults.CertFault.{CertFault}
use Rattle.certificate.specs.declared.faults.CertFault.TheVariants as cert
use Rattle.cert_check.specs.declared.faults.CheckFault.{CheckFault}
use Rattle.cert_check.specs.declared.faults.CheckFault.TheVariants as check
use Rattle.outside.specs.declared.fault.OutsideFault.{OutsideFault}
use Rattle.outside.specs.declared.fault.OutsideFault.TheVariants as report
use Rattle.outside.specs.declared.fault.ReadFault.{ReadFault}
use Rattle.outside.specs.declared.fault.ReadFault.TheVariants as read
use Rattle.report_json.specs.declared.faults.JsonFault.{JsonFault}
use Rattle.report_json.specs.declared.faults.JsonFault.TheVariants as json
use Rattle.dict_files.specs.Loading.{load_refusal}
use Rattle.dict_files.specs.declared.faults.LoadFault.{LoadFault}
use Rattle.dict_files.specs.declared.faults.LoadFault.TheVariants as load
use Rattle.dict_stack.specs.declared.faults.StackFault.{StackFault}
use Rattle.dict_stack.specs.declared.faults.StackFault.TheVariants as stack
use Rattle.steno_order.specs.declared.faults.StrokesFault.{StrokesFault}
use Rattle.steno_order.specs.declared.faults.StrokesFault.TheVariants as strokes
use Rattle.outline_trie.specs.declared.trie.TrieFault.{TrieFault}
use Rattle.outline_trie.specs.declared.trie.TrieFault.TheVariants as trie
use Rattle.state_numbering.specs.declared.fault.NumberFault.{NumberFault}
use Rattle.state_numbering.specs.declared.fault.NumberFault.TheVariants as numbers
use Rattle.audit_top.specs.declared.refusals.Refusal.{Refusal}
use Rattle.audit_top.specs.declared.refusals.Refusal.TheVariants as of

-- the output failed, memory ran out, or the input is refused
pub data Stop : Type 0 where
  by_output : Stop
  by_memory : Stop
  by_refusal : RefusalView → Stop

abbrev pub stop_of : Refusal → Stop
stop_of of.Arguments = by_refusal not_words
stop_of (of.Dictionaries fault) = by_refusal (load_refusal fault)
stop_of (of.Nodes count) = by_refusal (too_many_nodes count)
stop_of (of.States count) = by_refusal (too_many_states count)
stop_of of.Certificate = by_refusal certificate_failed
stop_of of.CertificateLong = by_refusal certificate_too_long
stop_of (of.Rejected at why) = by_refusal (rejected at why)
stop_of of.ReportFailed = by_refusal (file_failed 1)
stop_of of.ReportLong = by_refusal (too_many_bytes 1)
stop_of of.NotJson = by_refusal (not_json 1)
stop_of of.NotReport = by_refusal (not_report 1)
stop_of of.Output = by_output
stop_of of.Memory = by_memory

-- ---- from the faults of calls below

abbrev pub refusal_of_load : LoadFault → Refusal
refusal_of_load load.Memory = of.Memory
refusal_of_load fault = of.Dictionaries fault

abbrev pub refusal_of_stack : StackFault → Refusal
refusal_of_stack (stack.TooManyEntries count) = of.Dictionaries (load.Entries count)
refusal_of_stack stack.Memory = of.Memory

abbrev pub refusal_of_strokes : StrokesFault → Refusal
refusal_of_strokes (strokes.Unreadable part) = of.Arguments
refusal_of_strokes strokes.Memory = of.Memory

abbrev pub refusal_of_trie : TrieFault → Refusal
refusal_of_trie (trie.TooManyNodes count) = of.Nodes count
refusal_of_trie trie.Memory = of.Memory

abbrev pub refusal_of_numbers : NumberFault → Refusal
refusal_of_numbers (numbers.TooManyStates count) = of.States count
refusal_of_numbers numbers.Memory = of.Memory

abbrev pub refusal_of_trial : TrialFault → Refusal
refusal_of_trial (trial.Entries count) = of.Dictionaries (load.Entries count)
refusal_of_trial (trial.Nodes count) = of.Nodes count
refusal_of_trial (trial.States count) = of.States count
refusal_of_trial trial.Memory = of.Memory

abbrev pub refusal_of_report : OutsideFault → Refusal
refusal_of_report report.Failed = of.Output
refusal_of_report report.Memory = of.Memory

abbrev pub refusal_of_read : ReadFault → Refusal
refusal_of_read read.Failed = of.ReportFailed
refusal_of_read read.TooLong = of.ReportLong
refusal_of_read read.Memory = of.Memory

abbrev pub refusal_of_json : JsonFault → Refusal
refusal_of_json json.NotJson = of.NotJson
refusal_of_json json.NotReport = of.NotReport
refusal_of_json json.Memory = of.Memory

abbrev pub refusal_of_cert : CertFault → Refusal
refusal_of_cert cert.Failed = of.Certificate
refusal_of_cert cert.TooLong = of.CertificateLong
refusal_of_cert cert.Memory = of.Memory
refusal_of_cert (cert.Bad line) = of.Certificate

abbrev pub refusal_of_check : CheckFault → Refusal
refusal_of_check (check.Rejected line why) = of.Rejected line why
refusal_of_check check.Failed = of.Certificate
refusal_of_check check.TooLong = of.CertificateLong
refusal_of_check check.Memory = of.Memory
