-- What reading the dictionaries of a command gives.
--     IsLoaded args told stack          the stack is that of the files
--     IsLoadCause args old new fault    what a `LoadFault` says of the files at the call's start `old` and its end `new`
--     load_refusal fault                the refusal whose line says so
use Rattle.std.specs.Prelude.{ℕ, ◌≡◌, ◌≤◌, List, length, Bool, true, false, Option, Some, None, Result, Ok, Err}
use Rattle.outside.specs.Files.{Held, FilesView}
use Rattle.dict_json.specs.declared.faults.DictFault.{DictFault}
use Rattle.dict_json.specs.declared.faults.DictFault.TheVariants as why
use Rattle.dict_stack.specs.Stacks.{StackView, most_dictionaries}
use Rattle.report.specs.Refusals.{RefusalView, file_failed, not_json, not_object, not_text, too_many_bytes, too_many_dictionaries, outline_too_long, too_many_entries, no_memory}
use Rattle.dict_files.specs.Refusals.{dictionaries_refusal, stack_from}
use Rattle.dict_files.specs.Contents.{AreContents, ReadingFailed}
use Rattle.dict_files.specs.declared.faults.LoadFault.{LoadFault}
use Rattle.dict_files.specs.declared.faults.LoadFault.TheVariants as of

-- of the file of this number
abbrev pub dict_refusal : ℕ → DictFault → RefusalView
dict_refusal file why.NotJson = not_json file
dict_refusal file why.NotObject = not_object file
dict_refusal file (why.NotText key) = not_text file key
dict_refusal file (why.TooLong key parts) = outline_too_long file key parts
dict_refusal file why.Memory = no_memory

abbrev pub load_refusal : LoadFault → RefusalView
load_refusal (of.TooMany count) = too_many_dictionaries count
load_refusal (of.Failed file) = file_failed file
load_refusal (of.TooLong file) = too_many_bytes file
load_refusal (of.Refused file fault) = dict_refusal file fault
load_refusal (of.Entries count) = too_many_entries count
load_refusal of.Memory = no_memory

-- the answer says that a file failed
abbrev pub is_load_failed : {T : Type 0} → Result T LoadFault → Bool
is_load_failed (Ok x) = false
is_load_failed (Err (of.TooMany count)) = false
is_load_failed (Err (of.Failed file)) = true
is_load_failed (Err (of.TooLong file)) = false
is_load_failed (Err (of.Refused file fault)) = false
is_load_failed (Err (of.Entries count)) = false
is_load_failed (Err of.Memory) = false

-- nothing is refused
pub record IsLoaded (args : List (List ℕ)) (told : Option Held) (stack : StackView) : Type 0 where
  pub contents : List (List ℕ)
  pub read : AreContents told args contents
  pub accepted : dictionaries_refusal args contents ≡ None
  pub is : stack ≡ stack_from args contents

-- a file's reading failed
pub record IsFailed (args : List (List ℕ)) (old new : FilesView) (file : ℕ) : Type 0 where
  pub contents : List (List ℕ)
  pub read : AreContents old.held args contents
  pub failed : ReadingFailed args contents old new file

-- this refusal is the first one
pub record IsRefused (args : List (List ℕ)) (told : Option Held) (refusal : RefusalView) : Type 0 where
  pub contents : List (List ℕ)
  pub read : AreContents told args contents
  pub first : dictionaries_refusal args contents ≡ Some refusal

-- by cases on the fault; memory isn't asked for where the dictionaries are too many
abbrev pub IsLoadCause : List (List ℕ) → FilesView → FilesView → LoadFault → Type 0
IsLoadCause args old new (of.Failed file) = IsFailed args old new file
IsLoadCause args old new of.Memory = length args ≤ most_dictionaries
IsLoadCause args old new (of.Refused file why.Memory) = ⊥
IsLoadCause args old new fault = IsRefused args old.held (load_refusal fault)
