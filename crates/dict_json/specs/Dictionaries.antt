-- The dictionary of a file, by its keys with their texts in order of bytes.
--     dictionary_of pairs     its entries in outline order, the skipped keys, and how many keys are folded
--     IsDictionary d          what every dictionary is
--     IsWhole d               each key made an entry of its own
use Rattle.std.specs.Prelude.{ℕ, ◌+◌, ◌-◌, ◌<◌, ◌≡◌, ◌^◌, List, [], Bool, All, map, filter, filter_map, find, length, reverse, nat_eq, is_none, option_map}
use Rattle.std.specs.Option.{option_map_or}
use Rattle.std.specs.Cmp.Lexicographic.{pointwise}
use Rattle.steno_rules.specs.Nodes.{in_order}
use Rattle.steno_rules.specs.Outlines.{AreEntries, IsOutline}
use Rattle.steno_order.specs.Reading.{spelt_strokes}
use Rattle.dict_json.specs.Reading.{Keyed, AreInOrder}

-- an outline and its text
pub record Entry : Type 0 where
  pub outline : List ℕ
  pub text : List ℕ

-- the entries in outline order, the skipped keys in order of bytes, and the number of folded keys
pub record DictionaryView : Type 0 where
  pub entries : List Entry
  pub skipped : List (List ℕ)
  pub folded : ℕ

-- the outlines of entries
abbrev pub entry_outlines : List Entry → List (List ℕ)
entry_outlines entries = map (λ e. e.outline) entries

-- what each readable key spells, with its text
abbrev pub spelt : List Keyed → List Entry
spelt pairs = filter_map (λ p. option_map (λ strokes. record { outline = strokes; text = p.text }) (spelt_strokes p.key)) pairs

-- the entry has this outline
abbrev pub has_outline : List ℕ → Entry → Bool
has_outline outline e = pointwise nat_eq e.outline outline

-- the text of the last entry that has the outline
abbrev pub standing : List Entry → List ℕ → List ℕ
standing entries outline = option_map_or (λ e. e.text) (find (has_outline outline) (reverse entries)) []

-- each outline of the entries once, in outline order, with the text that stands for it
abbrev pub last_of_each : List Entry → List Entry
last_of_each entries = map (λ outline. record { outline = outline; text = standing entries outline }) (in_order (entry_outlines entries))

-- the keys that have a part which spells no stroke
abbrev pub skipped_of : List Keyed → List (List ℕ)
skipped_of pairs = map (λ p. p.key) (filter (λ p. is_none (spelt_strokes p.key)) pairs)

-- of the keys that spell one outline the last stands, which is the greatest, and the others are folded
abbrev pub dictionary_of : List Keyed → DictionaryView
dictionary_of pairs = record { entries = last_of_each (spelt pairs); skipped = skipped_of pairs; folded = length (spelt pairs) - length (last_of_each (spelt pairs)) }

-- the entries are outlines in strictly rising order; the skipped keys are in order of their bytes; and all numbers are below
-- 2 ^ 32
pub record IsDictionary (d : DictionaryView) : Type 0 where
  pub are_entries : AreEntries (entry_outlines d.entries)
  pub are_outlines : All IsOutline (entry_outlines d.entries)
  pub skipped_rise : AreInOrder d.skipped
  pub few_entries : length d.entries < 2 ^ 32
  pub few_keys : d.folded + length d.skipped < 2 ^ 32

-- no key was skipped, and none folded
pub record IsWhole (d : DictionaryView) : Type 0 where
  pub none_skipped : d.skipped ≡ []
  pub none_folded : d.folded ≡ 0
