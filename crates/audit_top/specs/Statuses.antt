-- Statuses: their numbers, that of an audit that reports conflicts, and that of a run that ends with the line of a refusal.
use Rattle.std.specs.Prelude.{ℕ, List, [], ◌∷◌}
use Rattle.longest_match.specs.Rows.{Row}
use Rattle.report.specs.Refusals.{RefusalView, not_words, file_failed, certificate_failed, not_json, not_object, not_text, not_report, too_many_dictionaries, too_many_bytes, outline_too_long, too_many_entries, too_many_nodes, too_many_states, certificate_too_long, no_memory, rejected}
use Rattle.audit_top.specs.declared.status.Status.{Status}
use Rattle.audit_top.specs.declared.status.Status.TheVariants.{Clean, Conflicts, Words, File, Refused, Limit, Output, Memory, Rejected}

-- the number with which the program ends
abbrev pub exit_code : Status → ℕ
exit_code Clean = 0
exit_code Conflicts = 1
exit_code Words = 2
exit_code File = 3
exit_code Refused = 4
exit_code Limit = 5
exit_code Output = 6
exit_code Memory = 7
exit_code Rejected = 8

-- the status of an audit that reports these conflicts: 1 where there is one, else 0
abbrev pub audit_status : List Row → Status
audit_status [] = Clean
audit_status (row ∷ rows) = Conflicts

-- the status of a run that ends with this line
abbrev pub refusal_status : RefusalView → Status
refusal_status not_words = Words
refusal_status (file_failed file) = File
refusal_status certificate_failed = File
refusal_status (not_json file) = Refused
refusal_status (not_object file) = Refused
refusal_status (not_text file key) = Refused
refusal_status (not_report file) = Refused
refusal_status (too_many_dictionaries n) = Limit
refusal_status (too_many_bytes file) = Limit
refusal_status (outline_too_long file key parts) = Limit
refusal_status (too_many_entries n) = Limit
refusal_status (too_many_nodes n) = Limit
refusal_status (too_many_states n) = Limit
refusal_status certificate_too_long = Limit
refusal_status no_memory = Memory
refusal_status (rejected at why) = Rejected
