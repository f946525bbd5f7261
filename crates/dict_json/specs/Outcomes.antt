-- What the bytes of a file come to: a dictionary, or the first cause of a refusal.
--     dictionary_outcome bytes    the outcome
use Rattle.std.specs.Prelude.{ℕ, List, Bool, ◌&&◌, nat_lt, length, find, filter_map, is_some, is_none, Option, None, Some}
use Rattle.serde_json.specs.Data.{Data, Members}
use Rattle.serde_json.specs.Find.{as_object}
use Rattle.steno_rules.specs.Outlines.{most_strokes}
use Rattle.steno_order.specs.Spelling.{parts_of}
use Rattle.steno_order.specs.Reading.{spelt_strokes}
use Rattle.dict_json.specs.Reading.{reading, Member, members_of, Keyed, keyed}
use Rattle.dict_json.specs.Dictionaries.{DictionaryView, dictionary_of}

-- no JSON, no object, a key whose value is no text, a key that is too long with its parts, or a dictionary
pub data Outcome : Type 0 where
  not_json : Outcome
  not_object : Outcome
  not_text : List ℕ → Outcome
  too_long : List ℕ → ℕ → Outcome
  dictionary : DictionaryView → Outcome

-- the key has more parts than an outline has strokes, and each of them is readable
abbrev pub is_too_long : Keyed → Bool
is_too_long p = nat_lt most_strokes (length (parts_of p.key)) && is_some (spelt_strokes p.key)

-- of keys with their texts, by the first key that is too long
abbrev pub keys_outcome : List Keyed → Option Keyed → Outcome
keys_outcome pairs None = dictionary (dictionary_of pairs)
keys_outcome pairs (Some first) = too_long first.key (length (parts_of first.key))

-- of members, by the first one whose value is no text
abbrev pub members_outcome : List Member → Option Member → Outcome
members_outcome members None = keys_outcome (filter_map keyed members) (find is_too_long (filter_map keyed members))
members_outcome members (Some first) = not_text first.name

-- of an object's members
abbrev pub object_outcome : Option Members → Outcome
object_outcome None = not_object
object_outcome (Some members) = members_outcome (members_of members) (find (λ m. is_none (keyed m)) (members_of members))

-- of a value
abbrev pub value_outcome : Option Data → Outcome
value_outcome None = not_json
value_outcome (Some value) = object_outcome (as_object value)

-- of the bytes
abbrev pub dictionary_outcome : List ℕ → Outcome
dictionary_outcome bytes = value_outcome (reading bytes)
