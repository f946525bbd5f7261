-- What each command reads, searches, finds, checks and writes. A new command adds a line to each of the tables; the functions
-- after them say the same of arguments that may be no command.
--     dictionaries_in c     the dictionaries of a command, as its arguments name them
--     report_in c           the report that it reads
--     certificate_in c      the certificate that it reads
--     file_in c             either of these
--     target_of c           the file that it writes
use Rattle.std.specs.Prelude.{ℕ, List, [], Bool, true, false, ◌&&◌, nat_le, length, Option, Some, None, is_some}
use Rattle.dict_stack.specs.Stacks.{most_dictionaries}
use Rattle.commands.specs.Commands.{CommandView, replay, explain, audit, audit_json, rows, audit_to, check, upgrade, settled, parse, try_briefs, generate, audit_generated}

-- ---- tables

-- the dictionaries
abbrev pub dictionary_names : CommandView → List (List ℕ)
dictionary_names (replay outline dicts) = dicts
dictionary_names (explain outlines dicts) = dicts
dictionary_names (audit workers dicts) = dicts
dictionary_names (audit_json workers dicts) = dicts
dictionary_names (rows file) = []
dictionary_names (audit_to certificate workers dicts) = dicts
dictionary_names (check certificate dicts) = dicts
dictionary_names (upgrade certificate target) = []
dictionary_names (settled workers dicts) = dicts
dictionary_names (parse workers dicts) = dicts
dictionary_names (try_briefs workers briefs dicts) = dicts
dictionary_names (generate start count) = []
dictionary_names (audit_generated start count workers) = []

-- the name of the report that is read
abbrev pub report_of : CommandView → Option (List ℕ)
report_of (replay outline dicts) = None
report_of (explain outlines dicts) = None
report_of (audit workers dicts) = None
report_of (audit_json workers dicts) = None
report_of (rows file) = Some file
report_of (audit_to certificate workers dicts) = None
report_of (check certificate dicts) = None
report_of (upgrade certificate target) = None
report_of (settled workers dicts) = None
report_of (parse workers dicts) = None
report_of (try_briefs workers briefs dicts) = None
report_of (generate start count) = None
report_of (audit_generated start count workers) = None

-- the name of the certificate that is read
abbrev pub certificate_of : CommandView → Option (List ℕ)
certificate_of (replay outline dicts) = None
certificate_of (explain outlines dicts) = None
certificate_of (audit workers dicts) = None
certificate_of (audit_json workers dicts) = None
certificate_of (rows file) = None
certificate_of (audit_to certificate workers dicts) = None
certificate_of (check certificate dicts) = Some certificate
certificate_of (upgrade certificate target) = Some certificate
certificate_of (settled workers dicts) = None
certificate_of (parse workers dicts) = None
certificate_of (try_briefs workers briefs dicts) = None
certificate_of (generate start count) = None
certificate_of (audit_generated start count workers) = None

-- the name of the file that is written
abbrev pub written_by : CommandView → Option (List ℕ)
written_by (replay outline dicts) = None
written_by (explain outlines dicts) = None
written_by (audit workers dicts) = None
written_by (audit_json workers dicts) = None
written_by (rows file) = None
written_by (audit_to certificate workers dicts) = Some certificate
written_by (check certificate dicts) = None
written_by (upgrade certificate target) = Some target
written_by (settled workers dicts) = None
written_by (parse workers dicts) = None
written_by (try_briefs workers briefs dicts) = None
written_by (generate start count) = None
written_by (audit_generated start count workers) = None

-- it searches with workers, for which it may wait
abbrev pub has_workers : CommandView → Bool
has_workers (replay outline dicts) = false
has_workers (explain outlines dicts) = false
has_workers (audit workers dicts) = true
has_workers (audit_json workers dicts) = true
has_workers (rows file) = false
has_workers (audit_to certificate workers dicts) = true
has_workers (check certificate dicts) = false
has_workers (upgrade certificate target) = false
has_workers (settled workers dicts) = true
has_workers (parse workers dicts) = true
has_workers (try_briefs workers briefs dicts) = true
has_workers (generate start count) = false
has_workers (audit_generated start count workers) = true

-- it touches files, unless its dictionaries are too many
abbrev pub has_files : CommandView → Bool
has_files (replay outline dicts) = true
has_files (explain outlines dicts) = true
has_files (audit workers dicts) = true
has_files (audit_json workers dicts) = true
has_files (rows file) = true
has_files (audit_to certificate workers dicts) = true
has_files (check certificate dicts) = true
has_files (upgrade certificate target) = true
has_files (settled workers dicts) = true
has_files (parse workers dicts) = true
has_files (try_briefs workers briefs dicts) = true
has_files (generate start count) = false
has_files (audit_generated start count workers) = false

-- ---- of arguments that may be no command

abbrev pub dictionaries_in : Option CommandView → List (List ℕ)
dictionaries_in None = []
dictionaries_in (Some command) = dictionary_names command

abbrev pub report_in : Option CommandView → Option (List ℕ)
report_in None = None
report_in (Some command) = report_of command

abbrev pub certificate_in : Option CommandView → Option (List ℕ)
certificate_in None = None
certificate_in (Some command) = certificate_of command

-- the first of two names, if there is one
abbrev pub first_named : Option (List ℕ) → Option (List ℕ) → Option (List ℕ)
first_named (Some name) other = Some name
first_named None other = other

-- the one file that is read besides dictionaries
abbrev pub file_in : Option CommandView → Option (List ℕ)
file_in command = first_named (report_in command) (certificate_in command)

abbrev pub target_of : Option CommandView → Option (List ℕ)
target_of None = None
target_of (Some command) = written_by command

abbrev pub searches : Option CommandView → Bool
searches None = false
searches (Some command) = has_workers command

-- it touches files, which it doesn't where its dictionaries are too many
abbrev pub reads_files : Option CommandView → Bool
reads_files None = false
reads_files (Some command) = has_files command && nat_le (length (dictionary_names command)) most_dictionaries

-- it says by its status whether it found something
abbrev pub finds : Option CommandView → Bool
finds command = searches command

-- it checks a certificate
abbrev pub checks : Option CommandView → Bool
checks command = is_some (certificate_in command)

-- it may change a file
abbrev pub writes : Option CommandView → Bool
writes command = is_some (target_of command)
