-- What the dictionaries of a command hold, which file's reading failed, and which files were opened.
--     AreContents told args contents             the bytes of the files, as far as the files are told
--     ReadingFailed args contents old new file   the reading of the file of this number failed
--     ReadsOnly args old new                     all that reading them may change of an object of files
use Rattle.std.specs.Prelude.{ℕ, ◌≡◌, ◌≤◌, ◌<◌, ◌-◌, ◌⊎◌, List, [], length, take, Contains, slice_index_or, Option, Some, None, IfSome}
use Rattle.outside.specs.Files.{Held, FilesView, FaultAt, LeavesFiles}
use Rattle.outside.specs.declared.fault.Way.TheVariants.{Reading}
use Rattle.dict_stack.specs.Stacks.{most_dictionaries}
use Rattle.dict_files.specs.DictFiles.{bytes_of, file_of}
use Rattle.dict_files.specs.Refusals.{first_refusal}

-- one list of bytes for each argument: those that the files hold where they are told, and some where they aren't
pub record AreContents (told : Option Held) (args contents : List (List ℕ)) : Type 0 where
  pub count : length contents ≡ length args
  pub held : IfSome told (λ held. contents ≡ bytes_of held args)

-- the name of the file of this number, counted from 1
abbrev pub name_of_file : List (List ℕ) → ℕ → List ℕ
name_of_file args file = (file_of (slice_index_or args (file - 1) [])).name

-- all files before this one were accepted, and reading this one failed
pub record ReadingFailed (args contents : List (List ℕ)) (old new : FilesView) (file : ℕ)
    : Type 0 where
  pub few : length args ≤ most_dictionaries
  pub first : 1 ≤ file
  pub last : file ≤ length args
  pub fault : FaultAt (name_of_file args file) Reading old new
  pub before : first_refusal 1 (take (file - 1) contents) ≡ None

-- the name last opened is that of a file that one of the arguments names
pub record NamesOpened (args : List (List ℕ)) (opened : Option (List ℕ)) : Type 0 where
  pub arg : List ℕ
  pub given : Contains args arg
  pub is : opened ≡ Some (file_of arg).name

-- no file changes, none is opened but these, and where they are too many nothing is done at all
pub record ReadsOnly (args : List (List ℕ)) (old new : FilesView) : Type 0 where
  pub leaves : LeavesFiles old new
  pub opened : (new.opened ≡ old.opened) ⊎ NamesOpened args new.opened
  pub later : old.faults ≤ new.faults
  pub unread : most_dictionaries < length args → new ≡ old
