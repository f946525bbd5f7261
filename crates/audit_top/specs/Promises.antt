-- What single commands promise where they end with status 0 or 1. Each is a clause of the top call and follows from what a run does.
--     Explains command told old new status     of an explanation whose output was `old` before and is `new` after
--     Verifies command told old new status     of the check of a certificate
--     Tells command told old new status        of an audit whose report is JSON
--     Lists command told old new status        of the rows of a report in JSON
--     Certifies command before after status    of an audit that leaves its certificate in a file
--     Keeps command told old new status        of the pairs that stay
--     Reads command told old new status        of two readings of the same strokes
--     Tries command told old new status        of briefs that are tried
--     Upgrades command before after status     of a certificate that is written anew
-- And what every command promises over files and an output that never fail.
--     Completes command told status            it ends as expected, or memory ran out
use Rattle.std.specs.Prelude.{ℕ, ◌≡◌, ◌⊎◌, List, length, Option, Some, IfSome, take}
use Rattle.std.specs.Io.KnownBytes.{append_known}
use Rattle.outside.specs.Files.{Both, FaultAt, FilesView, Held, Replaces}
use Rattle.outside.specs.declared.fault.Way.TheVariants.{Writing}
use Rattle.dict_json.specs.Reading.{reading}
use Rattle.dict_stack.specs.Stacks.{StackView}
use Rattle.dict_files.specs.Contents.{AreContents}
use Rattle.dict_files.specs.DictFiles.{bytes_of}
use Rattle.dict_files.specs.Refusals.{stack_from}
use Rattle.graph_rules.specs.Graphs.{AreSettled}
use Rattle.steno_rules.specs.ClosureGraphs.{kept_lists}
use Rattle.steno_rules.specs.Outlines.{flagged_entries}
use Rattle.longest_match.specs.Rows.{AreConflicts, Row}
use Rattle.certificate.specs.CertReading.{read_lines}
use Rattle.certificate_laws.specs.Checks.{accepted, certificate_rows}
use Rattle.certificate_laws.specs.Validity.{IsValid, check_outcome}
use Rattle.audit_certificate.specs.OwnCertificates.{reached_states}
use Rattle.audit_certificate.specs.Proving.{certificate_runs}
use Rattle.audit_certificate.specs.Runs.{AreLongestRuns}
use Rattle.cert_check.specs.Verdicts.{closure_at}
use Rattle.commands.specs.Commands.{CommandView, audit_json, brief_outlines, check, explain, parse, rows as rows_of, settled, try_briefs, upgrade, audit_to}
use Rattle.report.specs.Reports.{settled_text, report_text}
use Rattle.report.specs.declared.reports.Summary.{Summary}
use Rattle.report_json.specs.JsonLines.{json_text, listing_text}
use Rattle.report_json.specs.JsonReports.{JsonReportView, json_report}
use Rattle.report_json.specs.ReadOutcomes.{IsOfReport}
use Rattle.settled_pairs.specs.SettledRows.{AreSettledPairs, HasConflicts}
use Rattle.cert_upgrade.specs.Upgrades.{IsNeverValid, IsUpgraded, upgraded_text}
use Rattle.audit_top.specs.Checked.{accepted_line}
use Rattle.audit_top.specs.Parsed.{IsReadOneWay}
use Rattle.audit_top.specs.Outcomes.{Inputs}
use Rattle.audit_top.specs.Runs.{AreInputs, EndsAsExpected, World, FailsToRead}
use Rattle.audit_top.specs.Statuses.{audit_status}
use Rattle.audit_top.specs.Translated.{all_typed, typed_parts, typed_text}
use Rattle.audit_top.specs.Tried.{TellsTrials}
use Rattle.audit_top.specs.Upgraded.{upgraded_line}
use Rattle.audit_top.specs.declared.status.Status.{Status}
use Rattle.audit_top.specs.declared.status.Status.TheVariants.{Clean, Conflicts, Memory, Rejected, File}

-- the replay of all outlines' strokes, and then what becomes of each boundary between two outlines
abbrev pub Explains : Option CommandView → Option Held → Option (List ℕ) → Option (List ℕ) → Status
    → Type 0
Explains command told old new status =
    (outlines dicts : List (List ℕ)) → command ≡ Some (explain outlines dicts) → status ≡ Clean
    → (contents : List (List ℕ)) × AreContents told dicts contents
    × (new ≡ append_known old
    (typed_text (stack_from dicts contents) (all_typed outlines) (typed_parts outlines)))

-- the certificate is valid for the stack, its rows are exactly the conflicts, and the line says how many
pub record Accepts (stack : StackView) (bytes : List ℕ) (old new : Option (List ℕ)) : Type 0 where
  pub valid : IsValid (closure_at stack) bytes
  pub exact : AreConflicts stack.outlines (flagged_entries stack.outlines stack.words)
      (certificate_rows (read_lines bytes))
  pub text : new ≡ append_known old (accepted_line (length (certificate_rows (read_lines bytes))))

-- by the status it is accepted, or it isn't valid
pub record Verdict (stack : StackView) (bytes : List ℕ) (old new : Option (List ℕ)) (status : Status)
    : Type 0 where
  pub accepted : status ≡ Clean → Accepts stack bytes old new
  pub rejected : status ≡ Rejected → IsValid (closure_at stack) bytes → ⊥

-- where the files tell what they hold
abbrev pub Verifies : Option CommandView → Option Held → Option (List ℕ) → Option (List ℕ) → Status
    → Type 0
Verifies command told old new status =
    (certificate : List ℕ) (dicts : List (List ℕ)) → command ≡ Some (check certificate dicts)
    → IfSome told (λ held. Verdict (stack_from dicts (bytes_of held dicts)) (held certificate) old new
    status)

-- ---- searches

-- something of the stack of the dictionaries as their files hold them, where the status is 0 or 1
abbrev pub OfStack : (StackView → Type 0) → List (List ℕ) → Option Held → Status → Type 0
OfStack Is dicts told status = (status ≡ Clean) ⊎ (status ≡ Conflicts)
    → (contents : List (List ℕ)) × AreContents told dicts contents × Is (stack_from dicts contents)

-- what was added is the JSON of a report of some rows, and these are exactly the conflicts
pub record TellsConflicts (old new : Option (List ℕ)) (status : Status) (stack : StackView)
    : Type 0 where
  pub rows : List Row
  pub summary : Summary
  pub counts : summary.conflicts ≡ length rows
  pub text : new ≡ append_known old (json_text (json_report stack summary rows))
  pub exact : AreConflicts stack.outlines (flagged_entries stack.outlines stack.words) rows
  pub ends : status ≡ audit_status rows

abbrev pub Tells : Option CommandView → Option Held → Option (List ℕ) → Option (List ℕ) → Status
    → Type 0
Tells command told old new status =
    (workers : ℕ) (dicts : List (List ℕ)) → command ≡ Some (audit_json workers dicts)
    → OfStack (TellsConflicts old new status) dicts told status

-- the bytes are a valid certificate, which `check` accepts; its rows are exactly the conflicts, and no two of its runs could be
-- one: they list the states that a search reaches, with their distances
pub record IsCertificate (stack : StackView) (bytes : List ℕ) : Type 0 where
  pub valid : IsValid (closure_at stack) bytes
  pub outcome : check_outcome (closure_at stack) bytes
      ≡ accepted (length (certificate_rows (read_lines bytes)))
  pub exact : AreConflicts stack.outlines (flagged_entries stack.outlines stack.words)
      (certificate_rows (read_lines bytes))
  pub table : List ℕ
  pub settled : AreSettled 0
      (kept_lists stack.outlines (flagged_entries stack.outlines stack.words)) table
  pub longest : AreLongestRuns (reached_states table) (certificate_runs (read_lines bytes))

-- the file has such a certificate, every other file stays, and what was added is the report of the certificate's rows
pub record CertifiesConflicts (name : List ℕ) (before after : World) (status : Status)
    (stack : StackView) : Type 0 where
  pub bytes : List ℕ
  pub is : IsCertificate stack bytes
  pub file : Both (Replaces name bytes) before.files.held after.files.held
  pub summary : Summary
  pub counts : summary.conflicts ≡ length (certificate_rows (read_lines bytes))
  pub text : after.out.text ≡ append_known before.out.text
      (report_text stack summary (certificate_rows (read_lines bytes)))
  pub ends : status ≡ audit_status (certificate_rows (read_lines bytes))

abbrev pub Certifies : Option CommandView → World → World → Status → Type 0
Certifies command before after status =
    (certificate : List ℕ) (workers : ℕ) (dicts : List (List ℕ))
    → command ≡ Some (audit_to certificate workers dicts)
    → OfStack (CertifiesConflicts certificate before after status) dicts before.files.held status

-- what was added has a row for each pair that stays, exactly those, and each conflict is among them
pub record KeepsPairs (old new : Option (List ℕ)) (status : Status) (stack : StackView)
    : Type 0 where
  pub rows : List Row
  pub summary : Summary
  pub counts : summary.conflicts ≡ length rows
  pub text : new ≡ append_known old (settled_text stack summary rows)
  pub exact : AreSettledPairs stack.outlines (flagged_entries stack.outlines stack.words) rows
  pub conflicts : HasConflicts stack.outlines (flagged_entries stack.outlines stack.words) rows
  pub ends : status ≡ audit_status rows

abbrev pub Keeps : Option CommandView → Option Held → Option (List ℕ) → Option (List ℕ) → Status
    → Type 0
Keeps command told old new status =
    (workers : ℕ) (dicts : List (List ℕ)) → command ≡ Some (settled workers dicts)
    → OfStack (KeepsPairs old new status) dicts told status

-- the words can be read in one way only, or there are two readings
abbrev pub Reads : Option CommandView → Option Held → Option (List ℕ) → Option (List ℕ) → Status
    → Type 0
Reads command told old new status =
    (workers : ℕ) (dicts : List (List ℕ)) → command ≡ Some (parse workers dicts)
    → OfStack (λ stack. IsReadOneWay stack old new status) dicts told status

-- each brief's conflicts exactly, those that it would have as an entry and a word
abbrev pub Tries : Option CommandView → Option Held → Option (List ℕ) → Option (List ℕ) → Status
    → Type 0
Tries command told old new status =
    (workers : ℕ) (briefs : List ℕ) (dicts : List (List ℕ))
    → command ≡ Some (try_briefs workers briefs dicts)
    → OfStack (TellsTrials (brief_outlines briefs) old new status) dicts told status

-- ---- files that the program wrote

-- the file holds a report, and its rows were listed
pub record ListsReport (bytes : List ℕ) (old new : Option (List ℕ)) : Type 0 where
  pub report : JsonReportView
  pub read : IsOfReport (reading bytes) report
  pub text : new ≡ append_known old (listing_text report)

abbrev pub Lists : Option CommandView → Option Held → Option (List ℕ) → Option (List ℕ) → Status
    → Type 0
Lists command told old new status =
    (file : List ℕ) → command ≡ Some (rows_of file) → status ≡ Clean
    → IfSome told (λ held. ListsReport (held file) old new)

-- the target has the certificate in version 2 with the longest runs, valid exactly where the old one is
pub record WritesAnew (target bytes : List ℕ) (before after : World) : Type 0 where
  pub conflicts : ℕ
  pub upgraded : IsUpgraded bytes (upgraded_text bytes) conflicts
  pub file : Both (Replaces target (upgraded_text bytes)) before.files.held after.files.held
  pub text : after.out.text ≡ append_known before.out.text (upgraded_line conflicts)

-- no file has changed, or the target has a prefix of the text and every other file stays
abbrev pub LeavesPart : List ℕ → List ℕ → Option Held → Option Held → Type 0
LeavesPart target text old new =
    (new ≡ old) ⊎ ((n : ℕ) × Both (Replaces target (take n text)) old new)

-- reading the certificate failed, and no file has changed; or writing the target failed, which has a part of the new one then
abbrev pub IsUnfinished : List ℕ → List ℕ → List ℕ → FilesView → FilesView → Type 0
IsUnfinished certificate target bytes old new =
    FailsToRead (Some certificate) old new
    ⊎ (FaultAt target Writing old new × LeavesPart target (upgraded_text bytes) old.held new.held)

-- or a certificate that is rejected is valid for no stack, or a file failed
abbrev pub Upgrades : Option CommandView → World → World → Status → Type 0
Upgrades command before after status =
    (certificate target : List ℕ) → command ≡ Some (upgrade certificate target)
    → IfSome before.files.held (λ held.
    ((status ≡ Clean) → WritesAnew target (held certificate) before after)
    × ((status ≡ Rejected) → IsNeverValid (held certificate))
    × ((status ≡ File)
    → IsUnfinished certificate target (held certificate) before.files after.files))

-- ---- files that never fail

pub record Completes (command : Option CommandView) (told : Option Held) (status : Status)
    : Type 0 where
  pub inputs : Inputs
  pub read : AreInputs command told inputs
  pub ends : (status ≡ Memory) ⊎ EndsAsExpected inputs command status
