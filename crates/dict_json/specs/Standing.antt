-- Which key's text stands for an outline.
--     keys_with_texts members        the keys of an object, with their texts
--     IsStandingKey pairs entry p    of the keys that spell the entry's outline this is the greatest by bytes, and has its text
--     KeepsGreatest pairs d          each entry of the dictionary has such a key, and each outline that is spelt an entry
--     IsOfObject bytes d             so it is with the dictionary of these bytes, which are an object
use Rattle.std.specs.Prelude.{ℕ, ◌≡◌, List, Contains, Some, filter_map}
use Rattle.std.specs.Cmp.Lexicographic.{slice_cmp}
use Rattle.std.specs.Ordering.{nat_cmp}
use Rattle.std.specs.declared.cmp.Ordering.TheVariants.{Less}
use Rattle.serde_json.specs.Data.{Members, object}
use Rattle.steno_order.specs.Reading.{spelt_strokes}
use Rattle.dict_json.specs.Reading.{Keyed, keyed, members_of, reading}
use Rattle.dict_json.specs.Dictionaries.{DictionaryView, Entry, entry_outlines}
use Rattle.dict_json.specs.Outcomes.{dictionary, dictionary_outcome}

-- the keys with their texts, of the members whose values are texts
abbrev pub keys_with_texts : Members → List Keyed
keys_with_texts members = filter_map keyed (members_of members)

-- the key spells the outline of the entry, whose text is the key's, and no greater key spells it
pub record IsStandingKey (pairs : List Keyed) (entry : Entry) (p : Keyed) : Type 0 where
  pub there : Contains pairs p
  pub spells : spelt_strokes p.key ≡ Some entry.outline
  pub text : p.text ≡ entry.text
  pub none_greater : (q : Keyed) → Contains pairs q → spelt_strokes q.key ≡ Some entry.outline → slice_cmp nat_cmp p.key q.key ≡ Less → ⊥

-- the entries are what the greatest keys say
pub record KeepsGreatest (pairs : List Keyed) (d : DictionaryView) : Type 0 where
  pub stands : (entry : Entry) → Contains d.entries entry → (p : Keyed) × IsStandingKey pairs entry p
  pub each : (p : Keyed) (outline : List ℕ) → Contains pairs p → spelt_strokes p.key ≡ Some outline → Contains (entry_outlines d.entries) outline

-- the dictionary of these bytes
abbrev pub IsReadAs : List ℕ → DictionaryView → Type 0
IsReadAs bytes d = dictionary_outcome bytes ≡ dictionary d

-- the bytes are an object, and the entries are what its greatest keys say
abbrev pub IsOfObject : List ℕ → DictionaryView → Type 0
IsOfObject bytes d = (members : Members) × (reading bytes ≡ Some (object members)) × KeepsGreatest (keys_with_texts members) d
