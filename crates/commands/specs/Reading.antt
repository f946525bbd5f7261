-- The command that arguments are, as a function.
--     command_of args     the command, if they are one
-- The others are the steps to it.
use Rattle.std.specs.Prelude.{ℕ, ◌+◌, ◌^◌, ◌-◌, List, [], ◌∷◌, if◌then◌else◌, take, drop, position, Option, Some, None, option_and_then, option_map, ◌&&◌, codes, Bool}
use Rattle.std.specs.Str.{bytes_eq}
use Rattle.text_rules.specs.Decimals.{decimal_value}
use Rattle.dict_json.specs.Generated.{most_generated}
use Rattle.steal_rounds.specs.declared.searches.TheConstants.{MAX_WORKERS}
use Rattle.brief_trial.specs.declared.briefs.TheConstants.{MAX_TRIERS}
use Rattle.commands.specs.Commands.{CommandView, replay, explain, audit, audit_json, rows, audit_to, check, upgrade, settled, parse, try_briefs, generate, audit_generated, are_files, are_workers, dashes, is_valid}

-- the command, where its parts are what they have to be
abbrev pub if_valid : CommandView → Option CommandView
if_valid command = if is_valid command then Some command else None

-- of the arguments after `replay`
abbrev pub replay_of : List (List ℕ) → Option CommandView
replay_of (outline ∷ dicts) = if_valid (replay outline dicts)
replay_of [] = None

abbrev pub is_dashes : List ℕ → Bool
is_dashes arg = bytes_eq arg dashes

-- of those after `explain`: outlines before the first `--`, and dictionaries behind it
abbrev pub explain_of : List (List ℕ) → Option CommandView
explain_of args =
    option_and_then (λ place. if_valid (explain (take place args) (drop (place + 1) args)))
    (position is_dashes args)

-- the workers and the dictionaries that arguments are
abbrev pub searchers_of : List (List ℕ) → Option (ℕ × List (List ℕ))
searchers_of (workers ∷ dicts) =
    option_and_then (λ n. if are_workers n && are_files dicts then Some (n, dicts) else None)
    (decimal_value MAX_WORKERS workers)
searchers_of [] = None

-- of those after the name of this command
abbrev pub search_of : (ℕ → List (List ℕ) → CommandView) → List (List ℕ) → Option CommandView
search_of command args = option_map (λ found. command found.0 found.1) (searchers_of args)

-- of the one name after `rows`
abbrev pub rows_of : List (List ℕ) → Option CommandView
rows_of (file ∷ []) = if_valid (rows file)
rows_of args = None

-- of the certificate's name and what follows it
abbrev pub audit_to_of : List (List ℕ) → Option CommandView
audit_to_of (certificate ∷ args) = search_of (audit_to certificate) args
audit_to_of [] = None

abbrev pub check_of : List (List ℕ) → Option CommandView
check_of (certificate ∷ dicts) = if_valid (check certificate dicts)
check_of [] = None

-- of the two names after `upgrade`
abbrev pub upgrade_of : List (List ℕ) → Option CommandView
upgrade_of (certificate ∷ target ∷ []) = if_valid (upgrade certificate target)
upgrade_of args = None

-- of the workers, the briefs and the dictionaries after `try`
abbrev pub try_of : List (List ℕ) → Option CommandView
try_of (workers ∷ briefs ∷ dicts) =
    option_and_then (λ n. if_valid (try_briefs n briefs dicts)) (decimal_value MAX_TRIERS workers)
try_of args = None

-- of the two numbers after `generate`
abbrev pub generate_of : List (List ℕ) → Option CommandView
generate_of (start ∷ count ∷ []) =
    option_and_then (λ s. option_and_then (λ n. if_valid (generate s n)) (decimal_value most_generated count))
    (decimal_value (2 ^ 64 - 1) start)
generate_of args = None

-- of the two numbers and the workers after `audit-generated`
abbrev pub audit_generated_of : List (List ℕ) → Option CommandView
audit_generated_of (start ∷ count ∷ workers ∷ []) =
    option_and_then (λ s. option_and_then (λ n. option_and_then (λ w. if_valid (audit_generated s n w))
    (decimal_value MAX_WORKERS workers)) (decimal_value most_generated count))
    (decimal_value (2 ^ 64 - 1) start)
audit_generated_of args = None

-- a command's name, and what the arguments behind it are
pub record Reader : Type 0 where
  pub name : List ℕ
  pub read : List (List ℕ) → Option CommandView

abbrev pub reader : List ℕ → (List (List ℕ) → Option CommandView) → Reader
reader name read = record { name = name; read = read }

abbrev pub readers : List Reader
readers =
    reader (codes "replay") replay_of
    ∷ reader (codes "explain") explain_of
    ∷ reader (codes "audit") (search_of audit)
    ∷ reader (codes "audit-json") (search_of audit_json)
    ∷ reader (codes "rows") rows_of
    ∷ reader (codes "audit-to") audit_to_of
    ∷ reader (codes "check") check_of
    ∷ reader (codes "upgrade") upgrade_of
    ∷ reader (codes "settled") (search_of settled)
    ∷ reader (codes "parse") (search_of parse)
    ∷ reader (codes "try") try_of
    ∷ reader (codes "generate") generate_of
    ∷ reader (codes "audit-generated") audit_generated_of
    ∷ []

-- by the first of these that has the name
abbrev pub read_by : List Reader → List ℕ → List (List ℕ) → Option CommandView
read_by [] name args = None
read_by (r ∷ rs) name args = if bytes_eq name r.name then r.read args else read_by rs name args

abbrev pub command_of : List (List ℕ) → Option CommandView
command_of (name ∷ args) = read_by readers name args
command_of [] = None
