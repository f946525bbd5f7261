-- What a run does.
--     IsRun command before after status     a run of the command from one moment to another that ends with this status
-- Nothing here speaks of one command: what each is expected to produce, reads and writes is said in `Expected` and in the crate `commands`.
use Rattle.std.specs.Prelude.{ℕ, ◌≡◌, ◌⊎◌, List, [], ◌++◌, false, true, take, Option, Some, None, IfSome, IsSome, ⊤}
use Rattle.std.specs.Io.KnownBytes.{append_known}
use Rattle.outside.specs.Faults.{Rose}
use Rattle.outside.specs.Files.{Held, FaultAt, FilesView, Both, LeavesFiles, Replaces}
use Rattle.outside.specs.declared.fault.Way.{Way}
use Rattle.outside.specs.declared.fault.Way.TheVariants.{Reading, Writing}
use Rattle.report.specs.Refusals.{RefusalView, certificate_failed, file_failed, refusal_text, no_memory}
use Rattle.dict_files.specs.Contents.{AreContents, NamesOpened, ReadingFailed}
use Rattle.dict_files.specs.Refusals.{dictionaries_refusal, first_of, stack_from}
use Rattle.commands.specs.Commands.{CommandView}
use Rattle.commands.specs.Inputs.{certificate_in, checks, dictionaries_in, file_in, finds, reads_files, report_in, target_of, writes}
use Rattle.audit_top.specs.Outcomes.{Expected, Inputs, Written, search_limit}
use Rattle.audit_top.specs.Expected.{IsExpected}
use Rattle.audit_top.specs.Statuses.{refusal_status}
use Rattle.audit_top.specs.declared.status.Status.{Status}
use Rattle.audit_top.specs.declared.status.Status.TheVariants.{Conflicts, Words, File, Output, Memory, Rejected}

-- the output: its text, where it's told, and the count of its faults
pub record OutputView : Type 0 where
  pub text : Option (List ℕ)
  pub faults : ℕ

-- all that a run may change
pub record World : Type 0 where
  pub files : FilesView
  pub out : OutputView

abbrev pub output : Option (List ℕ) → ℕ → OutputView
output text faults = record { text = text; faults = faults }

abbrev pub world : FilesView → Option (List ℕ) → ℕ → World
world files text faults = record { files = files; out = output text faults }

-- ---- what it may produce

-- the inputs are what the command's files hold, as far as they are told
pub record AreInputs (command : Option CommandView) (told : Option Held) (inputs : Inputs)
    : Type 0 where
  pub dictionaries : AreContents told (dictionaries_in command) inputs.dictionaries
  pub file : IfSome told (λ held. IfSome (file_in command) (λ name. inputs.file ≡ Some (held name)))

-- the file of this name, if there is one, failed in this call
abbrev pub FailedAt : Option (List ℕ) → Way → FilesView → FilesView → Type 0
FailedAt None way old new = ⊥
FailedAt (Some name) way old new = FaultAt name way old new

-- reading this file failed in this call, and no file has changed
abbrev pub FailsToRead : Option (List ℕ) → FilesView → FilesView → Type 0
FailsToRead name old new = FailedAt name Reading old new × LeavesFiles old new

-- the dictionaries are refused, or their stack is over a limit of searching
abbrev pub stack_refusal : List (List ℕ) → List (List ℕ) → Option RefusalView
stack_refusal args contents =
    first_of (dictionaries_refusal args contents) (search_limit (stack_from args contents))

-- the certificate failed, as it was read, and then no file has changed, or as it was written
pub record CertificateFailed (command : Option CommandView) (inputs : Inputs)
    (old new : FilesView) : Type 0 where
  pub accepted : stack_refusal (dictionaries_in command) inputs.dictionaries ≡ None
  pub failed : FailsToRead (certificate_in command) old new
      ⊎ FailedAt (target_of command) Writing old new

-- a file that the command names failed in this call, after everything before it was accepted, and this is its line; no file has
-- changed unless it was the one that is written
abbrev pub FileFailed : Option CommandView → Inputs → FilesView → FilesView → RefusalView → Type 0
FileFailed command inputs old new (file_failed file) =
    (ReadingFailed (dictionaries_in command) inputs.dictionaries old new file × LeavesFiles old new)
    ⊎ ((file ≡ 1) × FailsToRead (report_in command) old new)
FileFailed command inputs old new certificate_failed = CertificateFailed command inputs old new
FileFailed command inputs old new refusal = ⊥

-- such a file and its line
pub record SomeFileFailed (command : Option CommandView) (inputs : Inputs) (old new : FilesView)
    : Type 0 where
  pub refusal : RefusalView
  pub failed : FileFailed command inputs old new refusal

-- no file is written, or a prefix of what some expected result has for it
abbrev pub IsFilePart : (Expected → Type 0) → Option Written → Type 0
IsFilePart Is None = ⊤
IsFilePart Is (Some file) =
    (result : Expected) × (whole : Written) × Is result × (result.file ≡ Some whole)
    × (file.name ≡ whole.name) × ((n : ℕ) × (file.bytes ≡ take n whole.bytes))

pub record IsFailure (command : Option CommandView) (inputs : Inputs) (old new : FilesView)
    (result : Expected) : Type 0 where
  pub refusal : RefusalView
  pub failed : FileFailed command inputs old new refusal
  pub status_is : result.status ≡ refusal_status refusal
  pub text_is : result.text ≡ refusal_text refusal
  pub file : IsFilePart (IsExpected inputs command) result.file

-- what is expected, or the line of a file that failed
abbrev pub MayProduce : Option CommandView → Inputs → World → World → Expected → Type 0
MayProduce command inputs before after result =
    IsExpected inputs command result ⊎ IsFailure command inputs before.files after.files result

-- ---- how it ends

-- a file is written, or none
abbrev pub Writes : Option Written → FilesView → FilesView → Type 0
Writes None old new = new.held ≡ old.held
Writes (Some file) old new = Both (Replaces file.name file.bytes) old.held new.held

-- nothing, or a prefix of what may be produced
abbrev pub IsBegun : (Expected → Type 0) → List ℕ → Type 0
IsBegun May begun =
    (begun ≡ []) ⊎ ((result : Expected) × May result × ((n : ℕ) × (begun ≡ take n result.text)))

-- such a prefix and then one of the line that says that memory ran out were added
pub record AddsPart (May : Expected → Type 0) (old new : Option (List ℕ)) : Type 0 where
  pub begun : List ℕ
  pub is_begun : IsBegun May begun
  pub line : ℕ
  pub added : new ≡ append_known old (begun ++ take line (refusal_text no_memory))

-- the run ends as it may, and the output had no fault
pub record EndsWhole (May : Expected → Type 0) (before after : World) (status : Status)
    : Type 0 where
  pub result : Expected
  pub may : May result
  pub ends : status ≡ result.status
  pub text : after.out.text ≡ append_known before.out.text result.text
  pub files : Writes result.file before.files after.files
  pub steady : after.out.faults ≡ before.out.faults

-- the output failed; or memory ran out, and the output had no fault
pub record EndsCut (May : Expected → Type 0) (before after : World) (status : Status)
    : Type 0 where
  pub ends : (status ≡ Output) ⊎ (status ≡ Memory)
  pub output : status ≡ Output → Rose before.out.faults after.out.faults
  pub memory : status ≡ Memory → after.out.faults ≡ before.out.faults
  pub text : AddsPart May before.out.text after.out.text
  pub file : Option Written
  pub part : IsFilePart May file
  pub files : Writes file before.files after.files

abbrev pub Ends : (Expected → Type 0) → World → World → Status → Type 0
Ends May before after status = EndsWhole May before after status ⊎ EndsCut May before after status

-- no count of faults rose
abbrev pub NoFault : World → World → Type 0
NoFault before after =
    (Rose before.files.faults after.files.faults → ⊥)
    × (Rose before.out.faults after.out.faults → ⊥)

-- the status is the expected one
abbrev pub EndsAsExpected : Inputs → Option CommandView → Status → Type 0
EndsAsExpected inputs command status =
    (result : Expected) × IsExpected inputs command result × (status ≡ result.status)

-- a named file failed, and its line was added
pub record PutsFailure (command : Option CommandView) (inputs : Inputs) (before after : World)
    : Type 0 where
  pub refusal : RefusalView
  pub failed : FileFailed command inputs before.files after.files refusal
  pub line : after.out.text ≡ append_known before.out.text (refusal_text refusal)

-- the name last opened is as before, or that of a file that the arguments name
abbrev pub OpensNamed : Option CommandView → FilesView → FilesView → Type 0
OpensNamed command old new =
    (new.opened ≡ old.opened) ⊎ NamesOpened (dictionaries_in command) new.opened
    ⊎ (IsSome (file_in command) × (new.opened ≡ file_in command))

-- no file failed, or one that the arguments name
abbrev pub FailsNamed : Option CommandView → Inputs → FilesView → FilesView → Type 0
FailsNamed command inputs old new =
    (new.faults ≡ old.faults) ⊎ SomeFileFailed command inputs old new

pub record IsRun (command : Option CommandView) (before after : World) (status : Status)
    : Type 0 where
  pub inputs : Inputs
  pub read : AreInputs command before.files.held inputs
  -- the status, the text and the file
  pub ends : Ends (MayProduce command inputs before after) before after status
  -- when each status may come, whatever the files tell
  pub found : status ≡ Conflicts → finds command ≡ true
  pub arguments : status ≡ Words → command ≡ None
  pub failed : status ≡ File → PutsFailure command inputs before after
  pub output : status ≡ Output → Rose before.out.faults after.out.faults
  pub steady : (status ≡ Output → ⊥) → after.out.faults ≡ before.out.faults
  pub rejected : status ≡ Rejected → checks command ≡ true
  -- files
  pub unchanged : writes command ≡ false → LeavesFiles before.files after.files
  pub opened : OpensNamed command before.files after.files
  pub faults : FailsNamed command inputs before.files after.files
  pub unread : reads_files command ≡ false → after.files ≡ before.files
  -- without a fault only memory can run out
  pub complete : NoFault before after → (status ≡ Memory) ⊎ EndsAsExpected inputs command status
