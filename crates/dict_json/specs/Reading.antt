-- What the bytes of a file are read as by `serde_json`.
--     reading bytes         the value that they are, or none
--     members_of members    the members of an object, in order of their names' bytes
--     names_of members      their names
--     keyed member          the key with its text, where the member's value is a text
--     AreInOrder texts      the texts are in order of their bytes
use Rattle.std.specs.Prelude.{ℕ, ◌≡◌, List, AllPairs, map, [], ◌∷◌, Option, None, option_map, if◌then◌else◌}
use Rattle.std.specs.Str.{is_utf8}
use Rattle.std.specs.Cmp.Lexicographic.{slice_cmp}
use Rattle.std.specs.Ordering.{nat_cmp}
use Rattle.std.specs.declared.cmp.Ordering.TheVariants.{Less}
use Rattle.serde_json.specs.Data.{Data, Members, no_members, member}
use Rattle.serde_json.specs.Find.{as_str}
use Rattle.serde_json.specs.Read.{read}

-- the value of the text, where the bytes are one
unfoldable pub reading : List ℕ → Option Data
reading bytes = if is_utf8 bytes then read bytes else None

-- a member of an object: a name and its value
pub record Member : Type 0 where
  pub name : List ℕ
  pub value : Data

-- the members as a list; each name comes once, the least by bytes first
abbrev pub members_of : Members → List Member
members_of no_members = []
members_of (member name value rest) = record { name = name; value = value } ∷ members_of rest

-- the names of the members
abbrev pub names_of : Members → List (List ℕ)
names_of members = map (λ m. m.name) (members_of members)

-- a key and its text
pub record Keyed : Type 0 where
  pub key : List ℕ
  pub text : List ℕ

-- the name as a key, where the value is a text
abbrev pub keyed : Member → Option Keyed
keyed m = option_map (λ text. record { key = m.name; text = text }) (as_str m.value)

-- the texts are in strictly rising order of their bytes, and so differ from each other
abbrev pub AreInOrder : List (List ℕ) → Type 0
AreInOrder texts = AllPairs (λ a b. slice_cmp nat_cmp a b ≡ Less) texts
