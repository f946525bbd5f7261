-- The candidates of dictionaries, by their outlines.
use Rattle.std.proofs.Common.{◌≡◌, ℕ, suc, ◌+◌, ◌≤◌, List, [], ◌∷◌, ◌++◌, length, get_or, drop, map, flat_map, refl, sym, ap, ap₂, ◌∙◌, arith, Bool, true, false, ◌&&◌, ◌||◌, cond, find, Option, Some, None, is_some, unwrap_or, option_map, option_and_then, add-one}
use Rattle.std.specs.List.{list_any, position_from}
use Rattle.std.specs.Option.{option_or}
use Rattle.std.proofs.Math.Seq.{drop-cons}
use Rattle.std.proofs.lemmas.List.{map-append}
use Rattle.std.proofs.lemmas.List.Folds.{list_any-append, find-append}
use Rattle.std.proofs.lemmas.Iterator.Adapters.{position_from-zero}
use Rattle.dict_json.specs.Dictionaries.{Entry, DictionaryView, entry_outlines, has_outline}
use Rattle.dict_stack.specs.Stacks.{dictionary_has, first_text, first_place, is_supplied}
use Rattle.dict_stack.specs.inside.Candidates.{candidate, candidates_from, candidate_outline, spells, said_first, some_word}

-- candidates of one dictionary have its entries' outlines
pub entries_outlines : (place : ℕ) (w : Bool) (entries : List Entry) → map candidate_outline (map (candidate place w) entries) ≡ entry_outlines entries
entries_outlines place w [] = refl
entries_outlines place w (e ∷ entries) = ap (λ l. e.outline ∷ l) (entries_outlines place w entries)

-- The outlines of the candidates are those of the dictionaries.
pub candidates_outlines : (place : ℕ) (ds : List DictionaryView) (word_files : List Bool) → map candidate_outline (candidates_from place ds word_files) ≡ flat_map (λ d. entry_outlines d.entries) ds
candidates_outlines place [] word_files = refl
candidates_outlines place (d ∷ ds) word_files =
    map-append candidate_outline (map (candidate place (get_or word_files place false)) d.entries) (candidates_from (suc place) ds word_files)
    ∙ ap₂ (λ a b. a ++ b) (entries_outlines place (get_or word_files place false) d.entries) (candidates_outlines (suc place) ds word_files)

-- the first of them with an outline is made of the first entry with it
find_candidate : (place : ℕ) (w : Bool) (x : List ℕ) (entries : List Entry) → find (spells x) (map (candidate place w) entries) ≡ option_map (candidate place w) (find (has_outline x) entries)
find_candidate place w x [] = refl
find_candidate place w x (e ∷ entries) = by (has_outline x e) (find_candidate place w x entries)
  where
    by : (b : Bool) → find (spells x) (map (candidate place w) entries) ≡ option_map (candidate place w) (find (has_outline x) entries) →
        cond b (Some (candidate place w e)) (find (spells x) (map (candidate place w) entries)) ≡ option_map (candidate place w) (cond b (Some e) (find (has_outline x) entries))
    by true rest = refl
    by false rest = rest

-- some element passes a test where one is found
find_any : {X : Type 0} (p : X → Bool) (xs : List X) → list_any p xs ≡ is_some (find p xs)
find_any p [] = refl
find_any p (x ∷ xs) = by (p x) (find_any p xs)
  where
    by : (b : Bool) → list_any p xs ≡ is_some (find p xs) → (b || list_any p xs) ≡ is_some (cond b (Some x) (find p xs))
    by true rest = refl
    by false rest = rest

-- the first candidate is one of the first dictionary's, or of the others'
find_in_all : (place : ℕ) (d : DictionaryView) (ds : List DictionaryView) (word_files : List Bool) (x : List ℕ) →
    find (spells x) (candidates_from place (d ∷ ds) word_files) ≡ option_or (option_map (candidate place (get_or word_files place false)) (find (has_outline x) d.entries)) (find (spells x) (candidates_from (suc place) ds word_files))
find_in_all place d ds word_files x =
    find-append (spells x) (map (candidate place (get_or word_files place false)) d.entries) (candidates_from (suc place) ds word_files)
    ∙ ap (λ o. option_or o (find (spells x) (candidates_from (suc place) ds word_files))) (find_candidate place (get_or word_files place false) x d.entries)

-- its text is that of the first dictionary that has the outline
text_found : (place : ℕ) (ds : List DictionaryView) (word_files : List Bool) (x : List ℕ) →
    option_map (λ c. c.entry.text) (find (spells x) (candidates_from place ds word_files))
    ≡ option_and_then (λ d. option_map (λ e. e.text) (find (has_outline x) d.entries)) (find (dictionary_has x) ds)
text_found place [] word_files x = refl
text_found place (d ∷ ds) word_files x =
    ap (option_map (λ c. c.entry.text)) (find_in_all place d ds word_files x)
    ∙ by (find (has_outline x) d.entries) refl (text_found (suc place) ds word_files x)
    ∙ ap (λ b. option_and_then (λ e. option_map (λ f. f.text) (find (has_outline x) e.entries)) (cond b (Some d) (find (dictionary_has x) ds))) (sym (find_any (has_outline x) d.entries))
  where
    by : (o : Option Entry) → find (has_outline x) d.entries ≡ o →
        option_map (λ c. c.entry.text) (find (spells x) (candidates_from (suc place) ds word_files)) ≡ option_and_then (λ e. option_map (λ f. f.text) (find (has_outline x) e.entries)) (find (dictionary_has x) ds) →
        option_map (λ c. c.entry.text) (option_or (option_map (candidate place (get_or word_files place false)) (find (has_outline x) d.entries)) (find (spells x) (candidates_from (suc place) ds word_files)))
        ≡ option_and_then (λ e. option_map (λ f. f.text) (find (has_outline x) e.entries)) (cond (is_some (find (has_outline x) d.entries)) (Some d) (find (dictionary_has x) ds))
    by None is rest = rw is rest
    by (Some e) is rest = rw is (sym (ap (option_map {T = Entry} {U = List ℕ} (λ f. f.text)) is))

-- The first candidate with an outline has the text that stands.
pub said_text : (ds : List DictionaryView) (word_files : List Bool) (x : List ℕ) → said_first (λ c. c.entry.text) [] (candidates_from 0 ds word_files) x ≡ first_text ds x
said_text ds word_files x = ap (λ o. unwrap_or o []) (text_found 0 ds word_files x)

-- its place is that of this dictionary
place_found : (place : ℕ) (ds : List DictionaryView) (word_files : List Bool) (x : List ℕ) →
    option_map (λ c. c.place) (find (spells x) (candidates_from place ds word_files)) ≡ position_from (dictionary_has x) place ds
place_found place [] word_files x = refl
place_found place (d ∷ ds) word_files x =
    ap (option_map (λ c. c.place)) (find_in_all place d ds word_files x)
    ∙ by (find (has_outline x) d.entries) (place_found (suc place) ds word_files x)
    ∙ ap₂ (λ b n. cond b (Some place) (position_from (dictionary_has x) n ds)) (sym (find_any (has_outline x) d.entries)) (sym (add-one place))
  where
    by : (o : Option Entry) → option_map (λ c. c.place) (find (spells x) (candidates_from (suc place) ds word_files)) ≡ position_from (dictionary_has x) (suc place) ds →
        option_map (λ c. c.place) (option_or (option_map (candidate place (get_or word_files place false)) o) (find (spells x) (candidates_from (suc place) ds word_files)))
        ≡ cond (is_some o) (Some place) (position_from (dictionary_has x) (suc place) ds)
    by None rest = rest
    by (Some e) rest = refl

-- The first candidate with an outline has the place that stands.
pub said_place : (ds : List DictionaryView) (word_files : List Bool) (x : List ℕ) → said_first (λ c. c.place) 0 (candidates_from 0 ds word_files) x ≡ first_place ds x
said_place ds word_files x = ap (λ o. unwrap_or o 0) (place_found 0 ds word_files x ∙ sym (position_from-zero (dictionary_has x) ds))

-- candidates of one dictionary are words if its outlines are
any_flag : (place : ℕ) (w : Bool) (x : List ℕ) (entries : List Entry) → some_word (map (candidate place w) entries) x ≡ (w && list_any (has_outline x) entries)
any_flag place true x [] = refl
any_flag place false x [] = refl
any_flag place true x (e ∷ entries) = ap (λ b. has_outline x e || b) (any_flag place true x entries)
any_flag place false x (e ∷ entries) = any_flag place false x entries

-- from any place on, some candidate is a word where some dictionary makes it one
words_found : (place : ℕ) (ds : List DictionaryView) (word_files : List Bool) (x : List ℕ) → place + length ds ≤ length word_files →
    some_word (candidates_from place ds word_files) x ≡ is_supplied ds (drop place word_files) x
words_found place [] word_files x within = refl
words_found place (d ∷ ds) word_files x within =
    list_any-append (λ c. c.is_word && spells x c) (map (candidate place (get_or word_files place false)) d.entries) (candidates_from (suc place) ds word_files)
    ∙ ap₂ (λ a b. a || b) (any_flag place (get_or word_files place false) x d.entries) (words_found (suc place) ds word_files x (omega (arith, within)))
    ∙ ap (λ l. is_supplied (d ∷ ds) l x) (sym (drop-cons word_files place false (omega (arith, within))))

-- Some candidate with an outline is a word where the outline is one.
pub some_words : (ds : List DictionaryView) (word_files : List Bool) (x : List ℕ) → length word_files ≡ length ds → some_word (candidates_from 0 ds word_files) x ≡ is_supplied ds word_files x
some_words ds word_files x long = words_found 0 ds word_files x (omega (arith, long))
