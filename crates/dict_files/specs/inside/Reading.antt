-- What reading one file gives, and what the loop over the files leaves.
use Rattle.std.specs.Prelude.{ℕ, ◌≡◌, List, Option, Some, None, IfSome, ⊤}
use Rattle.outside.specs.Files.{Held, FilesView, FaultAt}
use Rattle.outside.specs.declared.fault.Way.TheVariants.{Reading}
use Rattle.dict_json.specs.Dictionaries.{DictionaryView}
use Rattle.dict_json.specs.Outcomes.{dictionary, dictionary_outcome}
use Rattle.dict_json.specs.declared.faults.DictFault.TheVariants as why
use Rattle.report.specs.Refusals.{RefusalView}
use Rattle.dict_files.specs.Refusals.{dictionaries_of, file_refusal, first_refusal}
use Rattle.dict_files.specs.Contents.{AreContents}
use Rattle.dict_files.specs.Loading.{load_refusal}
use Rattle.dict_files.specs.declared.faults.LoadFault.{LoadFault}
use Rattle.dict_files.specs.declared.faults.LoadFault.TheVariants as of

-- the file's bytes are accepted as this dictionary
pub record IsRead (file : ℕ) (name : List ℕ) (told : Option Held) (d : DictionaryView)
    : Type 0 where
  pub bytes : List ℕ
  pub held : IfSome told (λ held. bytes ≡ held name)
  pub accepted : file_refusal file bytes ≡ None
  pub is : dictionary_outcome bytes ≡ dictionary d

-- they are refused
pub record IsFileRefused (file : ℕ) (name : List ℕ) (told : Option Held) (refusal : RefusalView)
    : Type 0 where
  pub bytes : List ℕ
  pub held : IfSome told (λ held. bytes ≡ held name)
  pub refused : file_refusal file bytes ≡ Some refusal

-- what a `LoadFault` says of one file
abbrev pub IsFileCause : ℕ → List ℕ → FilesView → FilesView → LoadFault → Type 0
IsFileCause file name old new (of.Failed at) = (at ≡ file) × FaultAt name Reading old new
IsFileCause file name old new of.Memory = ⊤
IsFileCause file name old new (of.TooMany count) = ⊥
IsFileCause file name old new (of.Entries count) = ⊥
IsFileCause file name old new (of.Refused at why.Memory) = ⊥
IsFileCause file name old new fault = IsFileRefused file name old.held (load_refusal fault)

-- all files were accepted, and these are their dictionaries
pub record AreRead (args : List (List ℕ)) (told : Option Held) (all : List DictionaryView)
    : Type 0 where
  pub contents : List (List ℕ)
  pub read : AreContents told args contents
  pub accepted : first_refusal 1 contents ≡ None
  pub are : all ≡ dictionaries_of contents
