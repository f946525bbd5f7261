-- What a run is expected to produce: the status with which it ends, the text that it adds to the output, and the file that it writes.
--     IsExpected inputs command result     this is expected of a run of the command on these inputs
--     IsTold command inputs                the bytes of all files that the command reads are known
-- What each command promises stands in `Translated`, `Audited`, `Kept`, `Listed`, `Parsed`, `Tried`, `Checked` and `Upgraded`. A new command adds its line here.
use Rattle.std.specs.Prelude.{◌≡◌, Option, Some, None, IfSome, IsSome}
use Rattle.commands.specs.Inputs.{file_in}
use Rattle.commands.specs.Commands.{CommandView, brief_outlines, replay, explain, audit, audit_json, rows, audit_to, check, upgrade, settled, parse, try_briefs, generate, audit_generated}
use Rattle.report.specs.Refusals.{not_words}
use Rattle.audit_top.specs.Outcomes.{Expected, Inputs, OverStack, refused, search_limit, trie_limit}
use Rattle.audit_top.specs.Translated.{IsExplained, IsGenerated, IsReplay}
use Rattle.audit_top.specs.Audited.{IsAudit, IsAuditGenerated, IsAuditJson, IsAuditTo}
use Rattle.audit_top.specs.Parsed.{IsParse}
use Rattle.audit_top.specs.Kept.{IsSettled}
use Rattle.audit_top.specs.Listed.{IsRows}
use Rattle.audit_top.specs.Checked.{IsCheck}
use Rattle.audit_top.specs.Tried.{IsTry}
use Rattle.audit_top.specs.Upgraded.{IsUpgrade}

abbrev pub IsExpected : Inputs → Option CommandView → Expected → Type 0
IsExpected inputs None result = result ≡ refused not_words
IsExpected inputs (Some (replay outline dicts)) result =
    OverStack trie_limit (IsReplay outline) dicts inputs.dictionaries result
IsExpected inputs (Some (explain outlines dicts)) result =
    OverStack trie_limit (IsExplained outlines) dicts inputs.dictionaries result
IsExpected inputs (Some (audit workers dicts)) result =
    OverStack search_limit IsAudit dicts inputs.dictionaries result
IsExpected inputs (Some (audit_json workers dicts)) result =
    OverStack search_limit IsAuditJson dicts inputs.dictionaries result
IsExpected inputs (Some (rows file)) result = IsRows inputs.file result
IsExpected inputs (Some (audit_to certificate workers dicts)) result =
    OverStack search_limit (IsAuditTo certificate) dicts inputs.dictionaries result
IsExpected inputs (Some (check certificate dicts)) result =
    OverStack search_limit (IsCheck inputs.file) dicts inputs.dictionaries result
IsExpected inputs (Some (upgrade certificate target)) result =
    IsUpgrade target inputs.file result
IsExpected inputs (Some (settled workers dicts)) result =
    OverStack search_limit IsSettled dicts inputs.dictionaries result
IsExpected inputs (Some (parse workers dicts)) result =
    OverStack search_limit IsParse dicts inputs.dictionaries result
IsExpected inputs (Some (try_briefs workers briefs dicts)) result =
    OverStack search_limit (IsTry (brief_outlines briefs)) dicts inputs.dictionaries result
IsExpected inputs (Some (generate start count)) result = IsGenerated start count result
IsExpected inputs (Some (audit_generated start count workers)) result =
    IsAuditGenerated start count result

-- the bytes of the file that the command reads besides dictionaries are known, if it reads one
abbrev pub IsTold : Option CommandView → Inputs → Type 0
IsTold command inputs = IfSome (file_in command) (λ name. IsSome inputs.file)
