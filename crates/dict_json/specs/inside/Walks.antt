-- What a walk over keys with their texts has collected.
--     walked pairs                     what it has collected after these
--     AddsKey old key text new         what one more key with its text makes of what was collected
--     AreKeysOf bytes keys             the bytes are an object of texts, and these are its keys
use Rattle.std.specs.Prelude.{ℕ, ◌≡◌, List, [], ◌∷◌, ◌++◌, not, filter, filter_map, find, is_none, length, Option, None, Some, option_map}
use Rattle.std.specs.Option.{option_or}
use Rattle.steno_order.specs.Spelling.{parts_of}
use Rattle.serde_json.specs.Data.{Members, object}
use Rattle.dict_json.specs.Reading.{Keyed, keyed, members_of, reading}
use Rattle.dict_json.specs.Dictionaries.{Entry, spelt, skipped_of}
use Rattle.dict_json.specs.Outcomes.{is_too_long}

-- the entries of keys that aren't too long, the skipped keys, and the first key that is too long with its parts
pub record KeysView : Type 0 where
  pub entries : List Entry
  pub skipped : List (List ℕ)
  pub too_long : Option (List ℕ × ℕ)

-- with one more entry
abbrev pub with_entry : KeysView → List ℕ → List ℕ → KeysView
with_entry k outline text = record { entries = k.entries ++ record { outline = outline; text = text } ∷ []; skipped = k.skipped; too_long = k.too_long }

-- with one more skipped key
abbrev pub with_skipped : KeysView → List ℕ → KeysView
with_skipped k key = record { entries = k.entries; skipped = k.skipped ++ key ∷ []; too_long = k.too_long }

-- with a key of so many parts, which is too long; the first such key stays
abbrev pub with_too_long : KeysView → List ℕ → ℕ → KeysView
with_too_long k key parts = record { entries = k.entries; skipped = k.skipped; too_long = option_or k.too_long (Some (key, parts)) }

-- what is collected of these keys
abbrev pub walked : List Keyed → KeysView
walked pairs = record {
  entries = spelt (filter (λ p. not (is_too_long p)) pairs);
  skipped = skipped_of pairs;
  too_long = option_map (λ p. (p.key, length (parts_of p.key))) (find is_too_long pairs);
}

-- whatever keys were walked over, this is one more
abbrev pub AddsKey : KeysView → List ℕ → List ℕ → KeysView → Type 0
AddsKey old key text new = (pairs : List Keyed) → old ≡ walked pairs → new ≡ walked (pairs ++ record { key = key; text = text } ∷ [])

-- the bytes are an object whose values are all texts, and its keys were collected
pub record AreKeysOf (bytes : List ℕ) (keys : KeysView) : Type 0 where
  pub members : Members
  pub read : reading bytes ≡ Some (object members)
  pub texts : find (λ m. is_none (keyed m)) (members_of members) ≡ None
  pub collected : keys ≡ walked (filter_map keyed (members_of members))
