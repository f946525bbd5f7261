-- What is collected and merged is the stack.
use Rattle.std.proofs.Common.{◌≡◌, ℕ, ◌<◌, ◌≤◌, List, [], ◌∷◌, length, map, flat_map, refl, sym, ap, ap₂, subst, ◌∙◌, arith, Bool, Option, Some, None, All, Contains, position, sum_by, unwrap_or}
use Rattle.std.proofs.lemmas.List.{length-map}
use Rattle.std.proofs.lemmas.List.Elements.{All-contains, All-map}
use Rattle.std.proofs.lemmas.List.Quantifiers.{position-Some}
use Rattle.steno_rules.specs.Outlines.{AreRising, IsOutline}
use Rattle.steno_rules.proofs.Lists.{none_in_nil, all_of}
use Rattle.steno_rules.specs.Nodes.{in_order}
use Rattle.dict_json.specs.Dictionaries.{DictionaryView, entry_outlines}
use Rattle.dict_stack.specs.Stacks.{StackView, IsStack, stack_of, all_outlines, first_text, first_place, is_supplied, dictionary_has, most_entries, most_dictionaries}
use Rattle.dict_stack.specs.inside.Candidates.{candidates_from, candidate_outline, said_first, some_word, IsCollected, IsMerged}
use Rattle.dict_stack.specs.declared.candidates.Collected.{Collected}
use Rattle.dict_stack.specs.declared.columns.Columns.{Columns}
use Rattle.steno_rules.proofs.InOrder.{in_order-rising, in_order-Contains}
use Rattle.dict_stack.proofs.ColumnLemmas.{map_same}
use Rattle.dict_stack.proofs.StackLemmas.{candidates_outlines, said_text, said_place, some_words}

-- The outlines that stand are those of the dictionaries.
pub outlines_stand : (ds : List DictionaryView) (word_files : List Bool) (c : Collected) → IsCollected ds word_files c → in_order (map candidate_outline c.candidates.items) ≡ all_outlines ds
outlines_stand ds word_files c is = ap in_order (ap (map candidate_outline) is.candidates_are ∙ candidates_outlines 0 ds word_files)

-- the stack of these parts
abbrev pub view_of : Collected → Columns → StackView
view_of c columns = record {
  outlines = columns.outlines.items;
  texts = columns.texts.items;
  from = columns.from.items;
  words = columns.words.items;
  skipped = map (λ keys. keys.items) c.skipped.items;
  folded = c.folded_total;
}

module _ (ds : List DictionaryView) (word_files : List Bool) (c : Collected) (columns : Columns) (long : length word_files ≡ length ds) (collected : IsCollected ds word_files c) (merged : IsMerged c.candidates.items columns) where
  -- each column is that of the stack
  outlines : columns.outlines.items ≡ all_outlines ds
  outlines = merged.outlines_are ∙ outlines_stand ds word_files c collected

  texts : columns.texts.items ≡ map (first_text ds) (all_outlines ds)
  texts =
      merged.texts_are
      ∙ ap₂ (λ l o. map (said_first (λ e. e.entry.text) [] l) o) collected.candidates_are outlines
      ∙ map_same (said_first (λ e. e.entry.text) [] (candidates_from 0 ds word_files)) (first_text ds) (all_outlines ds) (λ x has. said_text ds word_files x)

  from : columns.from.items ≡ map (first_place ds) (all_outlines ds)
  from =
      merged.from_are
      ∙ ap₂ (λ l o. map (said_first (λ e. e.place) 0 l) o) collected.candidates_are outlines
      ∙ map_same (said_first (λ e. e.place) 0 (candidates_from 0 ds word_files)) (first_place ds) (all_outlines ds) (λ x has. said_place ds word_files x)

  words : columns.words.items ≡ map (is_supplied ds word_files) (all_outlines ds)
  words =
      merged.words_are
      ∙ ap₂ (λ l o. map (some_word l) o) collected.candidates_are outlines
      ∙ map_same (some_word (candidates_from 0 ds word_files)) (is_supplied ds word_files) (all_outlines ds) (λ x has. some_words ds word_files x long)

  -- The parts make the stack.
  pub view_is : view_of c columns ≡ stack_of ds word_files
  view_is = rw (outlines, texts, from, words, collected.skipped_are, collected.folded_total_is) refl

  -- each is an outline
  outline_is : (x : List ℕ) → Contains columns.outlines.items x → IsOutline x
  outline_is x has =
      All-contains IsOutline (map candidate_outline c.candidates.items) x collected.are_outlines
      ((in_order-Contains (map candidate_outline c.candidates.items) x).0 (subst (λ l. Contains l x) merged.outlines_are has))

  -- there is an outline only where there is a dictionary
  some : (x : List ℕ) (dictionaries : List DictionaryView) → Contains (flat_map (λ d. entry_outlines d.entries) dictionaries) x → 0 < length dictionaries
  some x [] has = absurd (none_in_nil x has)
  some x (d ∷ dictionaries) has = omega arith

  -- the place is one of a dictionary
  place_within : (x : List ℕ) → Contains (all_outlines ds) x → first_place ds x < length ds
  place_within x has = by (position (dictionary_has x) ds) refl
    where
      by : (o : Option ℕ) → position (dictionary_has x) ds ≡ o → unwrap_or o 0 < length ds
      by None is = some x ds ((in_order-Contains (flat_map (λ d. entry_outlines d.entries) ds) x).0 has)
      by (Some i) is = (position-Some (dictionary_has x) ds i (record { entries = []; skipped = []; folded = 0 }) is).0

  -- The number of all skipped keys.
  pub total_is : c.skipped_total ≡ sum_by length (map (λ keys. keys.items) c.skipped.items)
  total_is = collected.skipped_total_is ∙ ap (sum_by length) (sym collected.skipped_are)

  -- The parts are what every stack is.
  pub view_stands : length ds ≤ most_dictionaries → length columns.outlines.items ≤ most_entries → IsStack (view_of c columns)
  view_stands few few_entries =
      let count : length (map (λ keys. keys.items) c.skipped.items) ≡ length ds = ap length collected.skipped_are ∙ length-map ds (λ d. d.skipped) in
      record {
        are_entries = record {
          rising = subst AreRising (sym merged.outlines_are) (in_order-rising (map candidate_outline c.candidates.items));
          not_empty = all_of (λ e. 0 < length e) columns.outlines.items (λ x has. (outline_is x has).at_least);
        };
        are_outlines = all_of IsOutline columns.outlines.items outline_is;
        few_entries = few_entries;
        each_text = ap length merged.texts_are ∙ length-map columns.outlines.items (said_first (λ e. e.entry.text) [] c.candidates.items);
        each_place = ap length merged.from_are ∙ length-map columns.outlines.items (said_first (λ e. e.place) 0 c.candidates.items);
        each_flag = ap length merged.words_are ∙ length-map columns.outlines.items (some_word c.candidates.items);
        are_places = subst (All (λ p. p < length (map (λ keys. keys.items) c.skipped.items))) (sym from)
            (All-map (λ p. p < length (map (λ keys. keys.items) c.skipped.items)) (first_place ds) (all_outlines ds)
            (all_of (λ x. first_place ds x < length (map (λ keys. keys.items) c.skipped.items)) (all_outlines ds) (λ x has. subst (λ n. first_place ds x < n) (sym count) (place_within x has))));
        few_dictionaries = omega (arith, count, few);
        few_keys = omega (arith, total_is, collected.few_keys, few);
      }
