-- The commands, and the arguments that each is.
--     CommandView           a command, by the bytes of its arguments
--     IsCommand args c      the arguments are the command c
--     command_view c        the program's `Command` as this
--     brief_outlines text   the outlines of briefs with commas between them
use Rattle.std.specs.Prelude.{ℕ, ◌^◌, ◌≡◌, List, [], ◌∷◌, ◌++◌, Bool, true, not, ◌&&◌, nat_lt, nat_le, length, map, sum_by, is_some, unwrap_or, string_bytes, codes, decimal}
use Rattle.std.specs.Str.{bytes_eq}
use Rattle.std.specs.List.{list_all}
use Rattle.text_rules.specs.Lines.{parts_between}
use Rattle.steno_rules.specs.Outlines.{most_strokes}
use Rattle.steno_order.specs.Reading.{spelt_strokes}
use Rattle.steno_order.specs.Spelling.{parts_of}
use Rattle.dict_files.specs.DictFiles.{match_prefix}
use Rattle.dict_json.specs.Generated.{most_generated}
use Rattle.steal_rounds.specs.declared.searches.TheConstants.{MAX_WORKERS}
use Rattle.brief_trial.specs.declared.briefs.TheConstants.{MAX_BRIEFS, MAX_TRIERS}
use Rattle.commands.specs.declared.command.Command.{Command}
use Rattle.commands.specs.declared.command.Command.TheVariants as of

-- a command: outlines and names as they are written, numbers of workers, and the dictionaries
pub data CommandView : Type 0 where
  replay : List ℕ → List (List ℕ) → CommandView
  explain : List (List ℕ) → List (List ℕ) → CommandView
  audit : ℕ → List (List ℕ) → CommandView
  audit_json : ℕ → List (List ℕ) → CommandView
  rows : List ℕ → CommandView
  audit_to : List ℕ → ℕ → List (List ℕ) → CommandView
  check : List ℕ → List (List ℕ) → CommandView
  upgrade : List ℕ → List ℕ → CommandView
  settled : ℕ → List (List ℕ) → CommandView
  parse : ℕ → List (List ℕ) → CommandView
  try_briefs : ℕ → List ℕ → List (List ℕ) → CommandView
  generate : ℕ → ℕ → CommandView
  audit_generated : ℕ → ℕ → ℕ → CommandView

-- one dictionary or more, each with a file's name
abbrev pub are_files : List (List ℕ) → Bool
are_files args = nat_lt 0 (length args) && list_all (λ arg. not (bytes_eq arg match_prefix)) args

-- one readable stroke or more
abbrev pub is_spelt : List ℕ → Bool
is_spelt text = is_some (spelt_strokes text)

-- how many strokes readable outlines have
abbrev pub strokes_written : List (List ℕ) → ℕ
strokes_written outlines = sum_by (λ outline. length (parts_of outline)) outlines

-- one readable outline or more, which have fewer than 2^32 strokes
abbrev pub are_spelt : List (List ℕ) → Bool
are_spelt outlines =
    nat_lt 0 (length outlines) && list_all is_spelt outlines
    && nat_lt (strokes_written outlines) (2 ^ 32)

abbrev pub are_workers : ℕ → Bool
are_workers n = nat_le 1 n && nat_le n MAX_WORKERS

-- those of a trial are fewer
abbrev pub are_trial_workers : ℕ → Bool
are_trial_workers n = nat_le 1 n && nat_le n MAX_TRIERS

-- what stands between two briefs
abbrev pub comma : ℕ
comma = 44

-- the text of each brief
abbrev pub brief_texts : List ℕ → List (List ℕ)
brief_texts briefs = parts_between comma briefs

-- one readable stroke or more, and not more than an outline has
abbrev pub is_brief : List ℕ → Bool
is_brief text = is_spelt text && nat_le (length (parts_of text)) most_strokes

-- one brief or more, and not too many
abbrev pub are_briefs : List ℕ → Bool
are_briefs briefs =
    nat_le (length (brief_texts briefs)) MAX_BRIEFS && list_all is_brief (brief_texts briefs)

-- the outline of each brief
abbrev pub brief_outlines : List ℕ → List (List ℕ)
brief_outlines briefs = map (λ text. unwrap_or (spelt_strokes text) []) (brief_texts briefs)

-- a start and a count of a generated dictionary
abbrev pub are_numbers : ℕ → ℕ → Bool
are_numbers start count = nat_lt start (2 ^ 64) && nat_le count most_generated

-- what the parts of a command have to be
abbrev pub is_valid : CommandView → Bool
is_valid (replay outline dicts) = is_spelt outline && are_files dicts
is_valid (explain outlines dicts) = are_spelt outlines && are_files dicts
is_valid (audit workers dicts) = are_workers workers && are_files dicts
is_valid (audit_json workers dicts) = are_workers workers && are_files dicts
is_valid (rows file) = true
is_valid (audit_to certificate workers dicts) = are_workers workers && are_files dicts
is_valid (check certificate dicts) = are_files dicts
is_valid (upgrade certificate target) = true
is_valid (settled workers dicts) = are_workers workers && are_files dicts
is_valid (parse workers dicts) = are_workers workers && are_files dicts
is_valid (try_briefs workers briefs dicts) =
    are_trial_workers workers && (are_briefs briefs && are_files dicts)
is_valid (generate start count) = are_numbers start count
is_valid (audit_generated start count workers) = are_numbers start count && are_workers workers

-- what stands between the outlines and the dictionaries of `explain`
abbrev pub dashes : List ℕ
dashes = codes "--"

-- the arguments of a command
abbrev pub arguments_of : CommandView → List (List ℕ)
arguments_of (replay outline dicts) = codes "replay" ∷ outline ∷ dicts
arguments_of (explain outlines dicts) = codes "explain" ∷ (outlines ++ (dashes ∷ dicts))
arguments_of (audit workers dicts) = codes "audit" ∷ decimal workers ∷ dicts
arguments_of (audit_json workers dicts) = codes "audit-json" ∷ decimal workers ∷ dicts
arguments_of (rows file) = codes "rows" ∷ file ∷ []
arguments_of (audit_to certificate workers dicts) =
    codes "audit-to" ∷ certificate ∷ decimal workers ∷ dicts
arguments_of (check certificate dicts) = codes "check" ∷ certificate ∷ dicts
arguments_of (upgrade certificate target) = codes "upgrade" ∷ certificate ∷ target ∷ []
arguments_of (settled workers dicts) = codes "settled" ∷ decimal workers ∷ dicts
arguments_of (parse workers dicts) = codes "parse" ∷ decimal workers ∷ dicts
arguments_of (try_briefs workers briefs dicts) = codes "try" ∷ decimal workers ∷ briefs ∷ dicts
arguments_of (generate start count) = codes "generate" ∷ decimal start ∷ decimal count ∷ []
arguments_of (audit_generated start count workers) =
    codes "audit-generated" ∷ decimal start ∷ decimal count ∷ decimal workers ∷ []

abbrev pub IsCommand : List (List ℕ) → CommandView → Type 0
IsCommand args command = (args ≡ arguments_of command) × (is_valid command ≡ true)

abbrev pub command_view : Command → CommandView
command_view (of.Replay outline dicts) = replay outline.now (map string_bytes dicts.now)
command_view (of.Explain outlines dicts) =
    explain (map string_bytes outlines.now) (map string_bytes dicts.now)
command_view (of.Audit workers dicts) = audit workers (map string_bytes dicts.now)
command_view (of.AuditJson workers dicts) = audit_json workers (map string_bytes dicts.now)
command_view (of.Rows file) = rows file.now
command_view (of.AuditTo certificate workers dicts) =
    audit_to certificate.now workers (map string_bytes dicts.now)
command_view (of.Check certificate dicts) = check certificate.now (map string_bytes dicts.now)
command_view (of.Upgrade certificate target) = upgrade certificate.now target.now
command_view (of.Settled workers dicts) = settled workers (map string_bytes dicts.now)
command_view (of.Parse workers dicts) = parse workers (map string_bytes dicts.now)
command_view (of.Try workers briefs dicts) =
    try_briefs workers briefs.now (map string_bytes dicts.now)
command_view (of.Generate start count) = generate start count
command_view (of.AuditGenerated start count workers) = audit_generated start count workers
