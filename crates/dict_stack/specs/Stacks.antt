-- The stack of dictionaries, the first of which has the highest priority.
--     stack_of dictionaries word_files    its entries in outline order, with their texts, and which of them are words
--     IsStack s                       what every stack is
use Rattle.std.specs.Prelude.{ℕ, ◌≡◌, ◌+◌, ◌*◌, ◌<◌, ◌≤◌, ◌^◌, List, [], Contains, Bool, ◌&&◌, All, map, flat_map, find, zip, length, sum_by, unwrap_or, option_map, option_and_then, position}
use Rattle.std.specs.List.{list_any}
use Rattle.steno_rules.specs.Outlines.{AreEntries, IsOutline}
use Rattle.steno_rules.specs.Nodes.{in_order}
use Rattle.dict_json.specs.Dictionaries.{DictionaryView, entry_outlines, has_outline}

-- the entries by number, with their translations, the places of the dictionaries that these are from, and which entries are words;
-- and of each dictionary the skipped keys, and of all the number of folded keys
pub record StackView : Type 0 where
  pub outlines : List (List ℕ)
  pub texts : List (List ℕ)
  pub from : List ℕ
  pub words : List Bool
  pub skipped : List (List (List ℕ))
  pub folded : ℕ

-- some entry of the dictionary has the outline
abbrev pub dictionary_has : List ℕ → DictionaryView → Bool
dictionary_has outline dictionary = list_any (has_outline outline) dictionary.entries

-- all outlines that some dictionary has, in their order, each once
abbrev pub all_outlines : List DictionaryView → List (List ℕ)
all_outlines dictionaries = in_order (flat_map (λ d. entry_outlines d.entries) dictionaries)

-- the outline is one of these
abbrev pub IsLive : List DictionaryView → List ℕ → Type 0
IsLive dictionaries outline = Contains (all_outlines dictionaries) outline

-- some dictionary has an entry with the outline
abbrev pub IsHeldBySome : List DictionaryView → List ℕ → Type 0
IsHeldBySome dictionaries outline = (d : DictionaryView) × Contains dictionaries d × Contains (entry_outlines d.entries) outline

-- the text of an outline in the first dictionary that has it
abbrev pub first_text : List DictionaryView → List ℕ → List ℕ
first_text dictionaries outline = unwrap_or (option_and_then (λ d. option_map (λ e. e.text) (find (has_outline outline) d.entries)) (find (dictionary_has outline) dictionaries)) []

-- the place of that dictionary
abbrev pub first_place : List DictionaryView → List ℕ → ℕ
first_place dictionaries outline = unwrap_or (position (dictionary_has outline) dictionaries) 0

-- some dictionary that supplies words has the outline
abbrev pub is_supplied : List DictionaryView → List Bool → List ℕ → Bool
is_supplied dictionaries word_files outline = list_any (λ d. d.1 && dictionary_has outline d.0) (zip dictionaries word_files)

-- the stack of these dictionaries, each of which supplies words where its truth value says so
abbrev pub stack_of : List DictionaryView → List Bool → StackView
stack_of dictionaries word_files = record {
  outlines = all_outlines dictionaries;
  texts = map (first_text dictionaries) (all_outlines dictionaries);
  from = map (first_place dictionaries) (all_outlines dictionaries);
  words = map (is_supplied dictionaries word_files) (all_outlines dictionaries);
  skipped = map (λ d. d.skipped) dictionaries;
  folded = sum_by (λ d. d.folded) dictionaries;
}

-- the most entries of a stack
abbrev pub most_entries : ℕ
most_entries = 1048576

-- the most dictionaries of a stack
abbrev pub most_dictionaries : ℕ
most_dictionaries = 16

-- the entries are outlines in strictly rising order, each has a text, a place and a flag, and all numbers are small
pub record IsStack (s : StackView) : Type 0 where
  pub are_entries : AreEntries s.outlines
  pub are_outlines : All IsOutline s.outlines
  pub few_entries : length s.outlines ≤ most_entries
  pub each_text : length s.texts ≡ length s.outlines
  pub each_place : length s.from ≡ length s.outlines
  pub each_flag : length s.words ≡ length s.outlines
  pub are_places : All (λ place. place < length s.skipped) s.from
  pub few_dictionaries : length s.skipped ≤ most_dictionaries
  pub few_keys : s.folded + sum_by length s.skipped ≤ most_dictionaries * 2 ^ 32
