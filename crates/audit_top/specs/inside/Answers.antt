-- What the parts of a run return before the line of a refusal is written.
--     Answers May old new answer             a part that only writes to the output
--     IsAnswer command before after answer   the function of a command
--     Goes line limit touched May before after answer   a part of it that reads or writes one more file
use Rattle.std.specs.Prelude.{ℕ, ◌≡◌, ◌⊎◌, List, false, true, Bool, nat_le, length, IfSome, IsSome, Option, Some, None, Result, Ok, Err}
use Rattle.std.specs.Io.KnownBytes.{append_known}
use Rattle.outside.specs.Faults.{Rose}
use Rattle.outside.specs.Files.{FilesView, LeavesFiles}
use Rattle.outside.specs.declared.fault.Way.TheVariants.{Writing}
use Rattle.dict_stack.specs.Stacks.{most_dictionaries}
use Rattle.report.specs.Refusals.{RefusalView, refusal_text}
use Rattle.commands.specs.Commands.{CommandView}
use Rattle.commands.specs.Inputs.{dictionary_names, reads_files, writes}
use Rattle.audit_top.specs.Statuses.{refusal_status}
use Rattle.audit_top.specs.Outcomes.{Expected, Inputs, Written, refused}
use Rattle.audit_top.specs.Runs.{AreInputs, EndsWhole, FailedAt, FailsNamed, FailsToRead, IsBegun, IsFilePart, MayProduce, OpensNamed, OutputView, World, Writes}
use Rattle.audit_top.specs.inside.Stops.{Stop, by_memory, by_output, by_refusal, stop_of}
use Rattle.audit_top.specs.declared.refusals.Refusal.{Refusal}
use Rattle.audit_top.specs.declared.refusals.Refusal.TheVariants as of
use Rattle.audit_top.specs.declared.status.Status.{Status}

-- ---- a part that only writes to the output

-- nothing, or a prefix of what may be produced, was added
pub record Begins (May : Expected → Type 0) (old new : Option (List ℕ)) : Type 0 where
  pub begun : List ℕ
  pub is_begun : IsBegun May begun
  pub added : new ≡ append_known old begun

-- it ended
pub record Prints (May : Expected → Type 0) (old new : OutputView) (status : Status)
    : Type 0 where
  pub result : Expected
  pub may : May result
  pub ends : status ≡ result.status
  pub text : new.text ≡ append_known old.text result.text
  pub no_file : result.file ≡ None
  pub steady : new.faults ≡ old.faults

-- it was stopped; the output's count of faults rose exactly where the output failed
abbrev pub Stops : (Expected → Type 0) → OutputView → OutputView → Stop → Type 0
Stops May old new by_output = Begins May old.text new.text × Rose old.faults new.faults
Stops May old new by_memory = Begins May old.text new.text × (new.faults ≡ old.faults)
Stops May old new (by_refusal refusal) = May (refused refusal) × (new ≡ old)

abbrev pub Answers : (Expected → Type 0) → OutputView → OutputView → Result Status Refusal → Type 0
Answers May old new (Ok status) = Prints May old new status
Answers May old new (Err refusal) = Stops May old new (stop_of refusal)

-- ---- the function of a command

-- a refusal whose line isn't written yet; a file may have been written in part
pub record Refuses (May : Expected → Type 0) (before after : World) (refusal : RefusalView)
    : Type 0 where
  pub result : Expected
  pub may : May result
  pub ends : result.status ≡ refusal_status refusal
  pub line : result.text ≡ refusal_text refusal
  pub out : after.out ≡ before.out
  pub files : Writes result.file before.files after.files

pub record Begun (May : Expected → Type 0) (before after : World) : Type 0 where
  pub text : Begins May before.out.text after.out.text
  pub file : Option Written
  pub part : IsFilePart May file
  pub files : Writes file before.files after.files

abbrev pub IsStopped : (Expected → Type 0) → World → World → Stop → Type 0
IsStopped May before after by_output =
    Begun May before after × Rose before.out.faults after.out.faults
IsStopped May before after by_memory =
    Begun May before after × (after.out.faults ≡ before.out.faults)
IsStopped May before after (by_refusal refusal) = Refuses May before after refusal

abbrev pub IsAnswered : (Expected → Type 0) → World → World → Result Status Refusal → Type 0
IsAnswered May before after (Ok status) = EndsWhole May before after status
IsAnswered May before after (Err refusal) = IsStopped May before after (stop_of refusal)

-- a command that isn't refused before it asks for memory
abbrev pub needs_memory : Option CommandView → Bool
needs_memory None = false
needs_memory (Some command) = nat_le (length (dictionary_names command)) most_dictionaries

-- memory ran out where it was needed, and no file failed
pub record RanOut (command : Option CommandView) (before after : World) : Type 0 where
  pub needed : needs_memory command ≡ true
  pub steady : after.files.faults ≡ before.files.faults

pub record IsAnswer (command : Option CommandView) (before after : World)
    (answer : Result Status Refusal) : Type 0 where
  pub inputs : Inputs
  pub read : AreInputs command before.files.held inputs
  pub is : IsAnswered (MayProduce command inputs before after) before after answer
  pub memory : answer ≡ Err of.Memory → RanOut command before after
  pub unchanged : writes command ≡ false → LeavesFiles before.files after.files
  pub opened : OpensNamed command before.files after.files
  pub faults : FailsNamed command inputs before.files after.files
  pub unread : reads_files command ≡ false → after.files ≡ before.files

-- ---- a part of a command that reads or writes one more file

-- the names of the file that it reads and of the one that it writes
pub record Touched : Type 0 where
  pub read : Option (List ℕ)
  pub written : Option (List ℕ)

abbrev pub reads_only : List ℕ → Touched
reads_only name = record { read = Some name; written = None }

abbrev pub writes_only : List ℕ → Touched
writes_only name = record { read = None; written = Some name }

-- one of them failed, and nothing had been refused before; where reading failed no file has changed
pub record FailsBehind (limit : Option RefusalView) (touched : Touched) (old new : FilesView)
    : Type 0 where
  pub accepted : limit ≡ None
  pub failed : FailsToRead touched.read old new ⊎ FailedAt touched.written Writing old new

-- then this line is written
pub record IsFileFailure (line : RefusalView) (limit : Option RefusalView) (touched : Touched)
    (May : Expected → Type 0) (old new : FilesView) (result : Expected) : Type 0 where
  pub behind : FailsBehind limit touched old new
  pub status_is : result.status ≡ refusal_status line
  pub text_is : result.text ≡ refusal_text line
  pub part : IsFilePart May result.file

-- what it may produce, by what the file that it reads holds
abbrev pub MayGo : RefusalView → Option RefusalView → Touched → (Expected → Type 0) → World → World
    → Expected → Type 0
MayGo line limit touched May before after result =
    May result ⊎ IsFileFailure line limit touched May before.files after.files result

pub record Goes (line : RefusalView) (limit : Option RefusalView) (touched : Touched)
    (May : Option (List ℕ) → Expected → Type 0) (before after : World)
    (answer : Result Status Refusal) : Type 0 where
  pub file : Option (List ℕ)
  pub told : IfSome before.files.held (λ held. IfSome touched.read (λ name. file ≡ Some (held name)))
  pub is : IsAnswered (MayGo line limit touched (May file) before after) before after answer
  pub memory : answer ≡ Err of.Memory → after.files.faults ≡ before.files.faults
  pub unchanged : touched.written ≡ None → LeavesFiles before.files after.files
  pub opened : (after.files.opened ≡ before.files.opened)
      ⊎ (IsSome touched.read × (after.files.opened ≡ touched.read))
  pub faults : (after.files.faults ≡ before.files.faults)
      ⊎ FailsBehind limit touched before.files after.files
