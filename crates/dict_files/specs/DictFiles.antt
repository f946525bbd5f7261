-- Dictionaries on the command line: a file's name, or `match:` and a name where its outlines supply no words.
--     file_of arg          the file that an argument names
--     bytes_of held args   the bytes of these files, where files are told
--     kinds_of args        which of them supply words
use Rattle.std.specs.Prelude.{ℕ, List, Bool, true, false, nat_eq, if◌then◌else◌, drop, length, map, codes}
use Rattle.std.specs.List.{starts_with}
use Rattle.outside.specs.Files.{Held}

-- what stands before the name of a match file
abbrev pub match_prefix : List ℕ
match_prefix = codes "match:"

-- a dictionary's file: its name, and whether its outlines supply words
pub record DictFile : Type 0 where
  pub name : List ℕ
  pub has_words : Bool

abbrev pub match_file : List ℕ → DictFile
match_file name = record { name = name; has_words = false }

abbrev pub word_file : List ℕ → DictFile
word_file name = record { name = name; has_words = true }

abbrev pub file_of : List ℕ → DictFile
file_of arg =
    if starts_with nat_eq arg match_prefix then match_file (drop (length match_prefix) arg)
    else word_file arg

abbrev pub bytes_of : Held → List (List ℕ) → List (List ℕ)
bytes_of held args = map (λ arg. held (file_of arg).name) args

abbrev pub kinds_of : List (List ℕ) → List Bool
kinds_of args = map (λ arg. (file_of arg).has_words) args
