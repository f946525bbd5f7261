-- The first refusal of some dictionaries, or the stack that they make. Both depend on the bytes of the files alone, which are
-- given in the order of the arguments.
--     dictionaries_refusal args contents   the first refusal, if there is one
--     stack_from args contents             the stack, where there is none
use Rattle.std.specs.Prelude.{ℕ, ◌+◌, List, [], ◌∷◌, nat_lt, if◌then◌else◌, length, map, Option, Some, None}
use Rattle.dict_json.specs.Dictionaries.{DictionaryView}
use Rattle.dict_json.specs.Outcomes.{Outcome, dictionary_outcome}
use Rattle.dict_json.specs.Outcomes as of
use Rattle.dict_stack.specs.Stacks.{StackView, stack_of, all_outlines, most_entries, most_dictionaries}
use Rattle.report.specs.Refusals.{RefusalView, not_json, not_object, not_text, outline_too_long, too_many_bytes, too_many_dictionaries, too_many_entries}
use Rattle.dict_files.specs.DictFiles.{kinds_of}
use Rattle.dict_files.specs.declared.loading.TheConstants.{MAX_BYTES}

-- the first of two refusals, if there is one
abbrev pub first_of : Option RefusalView → Option RefusalView → Option RefusalView
first_of (Some refusal) later = Some refusal
first_of None later = later

-- the refusal of a number that is over a limit
abbrev pub if_over : ℕ → (ℕ → RefusalView) → ℕ → Option RefusalView
if_over most refusal n = if nat_lt most n then Some (refusal n) else None

-- ---- files

-- the refusal of the file of this number, by what its bytes come to
abbrev pub outcome_refusal : ℕ → Outcome → Option RefusalView
outcome_refusal file of.not_json = Some (not_json file)
outcome_refusal file of.not_object = Some (not_object file)
outcome_refusal file (of.not_text key) = Some (not_text file key)
outcome_refusal file (of.too_long key parts) = Some (outline_too_long file key parts)
outcome_refusal file (of.dictionary d) = None

-- by its length, and then by what its bytes come to
abbrev pub file_refusal : ℕ → List ℕ → Option RefusalView
file_refusal file bytes =
    if nat_lt MAX_BYTES (length bytes) then Some (too_many_bytes file)
    else outcome_refusal file (dictionary_outcome bytes)

-- of files that are numbered from `file` on
abbrev pub first_refusal : ℕ → List (List ℕ) → Option RefusalView
first_refusal file [] = None
first_refusal file (bytes ∷ others) =
    first_of (file_refusal file bytes) (first_refusal (file + 1) others)

-- ---- the stack

abbrev pub no_entries : DictionaryView
no_entries = record { entries = []; skipped = []; folded = 0 }

-- the dictionary that bytes come to, or one without entries
abbrev pub dictionary_in : Outcome → DictionaryView
dictionary_in (of.dictionary d) = d
dictionary_in of.not_json = no_entries
dictionary_in of.not_object = no_entries
dictionary_in (of.not_text key) = no_entries
dictionary_in (of.too_long key parts) = no_entries

abbrev pub dictionaries_of : List (List ℕ) → List DictionaryView
dictionaries_of contents = map (λ bytes. dictionary_in (dictionary_outcome bytes)) contents

abbrev pub stack_from : List (List ℕ) → List (List ℕ) → StackView
stack_from args contents = stack_of (dictionaries_of contents) (kinds_of args)

-- how many different outlines the files have
abbrev pub outline_count : List (List ℕ) → ℕ
outline_count contents = length (all_outlines (dictionaries_of contents))

-- too many dictionaries; then the first file that is refused; then too many entries
abbrev pub dictionaries_refusal : List (List ℕ) → List (List ℕ) → Option RefusalView
dictionaries_refusal args contents =
    first_of (if_over most_dictionaries too_many_dictionaries (length args))
    (first_of (first_refusal 1 contents)
    (if_over most_entries too_many_entries (outline_count contents)))
