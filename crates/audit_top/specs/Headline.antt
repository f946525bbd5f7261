-- The headline: what an audit that ends with status 0 or 1 reports. It rests on the definitions of strokes, entries and words,
-- segmentation, shows, conflict and least strokes, on the dictionary of a file and the stack, and on the report's text.
--     Headline command told old new status    of an audit whose output was `old` before and is `new` after
use Rattle.std.specs.Prelude.{ℕ, ◌≡◌, ◌⊎◌, List, length, Option, Some}
use Rattle.std.specs.Io.KnownBytes.{append_known}
use Rattle.steno_rules.specs.Outlines.{flagged_entries}
use Rattle.outside.specs.Files.{Held}
use Rattle.longest_match.specs.Rows.{Row, AreConflicts}
use Rattle.dict_files.specs.Refusals.{stack_from}
use Rattle.dict_files.specs.Contents.{AreContents}
use Rattle.report.specs.Reports.{report_text}
use Rattle.report.specs.declared.reports.Summary.{Summary}
use Rattle.commands.specs.Commands.{CommandView, audit}
use Rattle.audit_top.specs.Statuses.{audit_status}
use Rattle.audit_top.specs.declared.status.Status.{Status}
use Rattle.audit_top.specs.declared.status.Status.TheVariants.{Clean, Conflicts}

-- what was added to the output is the report of some rows, and these are exactly the conflicts of the dictionaries
pub record ReportsConflicts (dicts contents : List (List ℕ)) (old new : Option (List ℕ))
    (status : Status) : Type 0 where
  pub rows : List Row
  pub summary : Summary
  pub counts : summary.conflicts ≡ length rows
  pub text : new ≡ append_known old (report_text (stack_from dicts contents) summary rows)
  pub exact : let stack = stack_from dicts contents in
      AreConflicts stack.outlines (flagged_entries stack.outlines stack.words) rows
  pub ends : status ≡ audit_status rows

-- of dictionaries as their files hold them, or where files tell nothing as they were read
abbrev pub ReportsFiles : List (List ℕ) → Option Held → Option (List ℕ) → Option (List ℕ)
    → Status → Type 0
ReportsFiles dicts told old new status =
    (contents : List (List ℕ)) × AreContents told dicts contents
    × ReportsConflicts dicts contents old new status

-- where an audit ends with status 0 or 1
abbrev pub Headline : Option CommandView → Option Held → Option (List ℕ) → Option (List ℕ)
    → Status → Type 0
Headline command told old new status =
    (workers : ℕ) (dicts : List (List ℕ)) → command ≡ Some (audit workers dicts)
    → (status ≡ Clean) ⊎ (status ≡ Conflicts) → ReportsFiles dicts told old new status
