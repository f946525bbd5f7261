-- The entries of all dictionaries in one list, of which the first with an outline stands.
--     candidates_from place dictionaries word_files     those of these dictionaries, the first of which has this place
--     IsCollected dictionaries word_files collected     what is moved out of these dictionaries
--     IsMerged candidates columns                  what stands of the candidates, column by column
use Rattle.std.specs.Prelude.{ℕ, ◌≡◌, ◌+◌, ◌*◌, ◌≤◌, ◌^◌, suc, List, [], ◌∷◌, ◌++◌, Bool, ◌&&◌, false, All, map, find, length, nat_eq, sum_by, unwrap_or, option_map, slice_index_or}
use Rattle.std.specs.List.{list_any}
use Rattle.std.specs.List.Sorted.{IsSortedByKey}
use Rattle.std.specs.Cmp.Lexicographic.{pointwise}
use Rattle.steno_rules.specs.Outlines.{IsOutline, outline_cmp}
use Rattle.steno_rules.specs.Nodes.{in_order}
use Rattle.dict_json.specs.Dictionaries.{Entry, DictionaryView}
use Rattle.dict_stack.specs.declared.candidates.Candidate.{Candidate}
use Rattle.dict_stack.specs.declared.candidates.Collected.{Collected}
use Rattle.dict_stack.specs.declared.columns.Columns.{Columns}

-- an entry of the dictionary at a place
abbrev pub candidate : ℕ → Bool → Entry → Candidate
candidate place is_word entry = record { entry = entry; place = place; is_word = is_word }

-- the entries of these dictionaries, one dictionary after another
abbrev pub candidates_from : ℕ → List DictionaryView → List Bool → List Candidate
candidates_from place [] word_files = []
candidates_from place (d ∷ dictionaries) word_files = map (candidate place (slice_index_or word_files place false)) d.entries ++ candidates_from (suc place) dictionaries word_files

-- the outline of a candidate
abbrev pub candidate_outline : Candidate → List ℕ
candidate_outline c = c.entry.outline

-- the candidate has this outline
abbrev pub spells : List ℕ → Candidate → Bool
spells outline c = pointwise nat_eq (candidate_outline c) outline

-- what the first candidate with an outline says
abbrev pub said_first : {A : Type 0} → (Candidate → A) → A → List Candidate → List ℕ → A
said_first f otherwise candidates outline = unwrap_or (option_map f (find (spells outline) candidates)) otherwise

-- some candidate with the outline is a word
abbrev pub some_word : List Candidate → List ℕ → Bool
some_word candidates outline = list_any (λ c. c.is_word && spells outline c) candidates

-- there are below 2 ^ 32 skipped and folded keys for each of the dictionaries so far
abbrev pub AreFew : Collected → Type 0
AreFew c = c.folded_total + c.skipped_total ≤ length c.skipped.items * 2 ^ 32

-- what these dictionaries hold, in their order
pub record IsCollected (dictionaries : List DictionaryView) (word_files : List Bool) (c : Collected) : Type 0 where
  pub candidates_are : c.candidates.items ≡ candidates_from 0 dictionaries word_files
  pub are_outlines : All IsOutline (map candidate_outline c.candidates.items)
  pub skipped_are : map (λ keys. keys.items) c.skipped.items ≡ map (λ d. d.skipped) dictionaries
  pub skipped_total_is : c.skipped_total ≡ sum_by length (map (λ d. d.skipped) dictionaries)
  pub folded_total_is : c.folded_total ≡ sum_by (λ d. d.folded) dictionaries
  pub few_keys : c.folded_total + c.skipped_total ≤ length dictionaries * 2 ^ 32

-- the outlines in order, each with what its first candidate says
pub record IsMerged (candidates : List Candidate) (c : Columns) : Type 0 where
  pub outlines_are : c.outlines.items ≡ in_order (map candidate_outline candidates)
  pub texts_are : c.texts.items ≡ map (said_first (λ e. e.entry.text) [] candidates) c.outlines.items
  pub from_are : c.from.items ≡ map (said_first (λ e. e.place) 0 candidates) c.outlines.items
  pub words_are : c.words.items ≡ map (some_word candidates) c.outlines.items

-- the outlines don't fall
abbrev pub AreSorted : List Candidate → Type 0
AreSorted candidates = IsSortedByKey candidate_outline outline_cmp candidates

-- what one more candidate does, whose outline isn't below the others
abbrev pub Adds : Columns → Candidate → Columns → Type 0
Adds old c new = (before : List Candidate) → IsMerged before old → AreSorted (before ++ c ∷ []) → IsMerged (before ++ c ∷ []) new

-- the outline is the last of these
abbrev pub is_end : List (List ℕ) → List ℕ → Bool
is_end [] outline = false
is_end (o ∷ []) outline = pointwise nat_eq o outline
is_end (o ∷ p ∷ outlines) outline = is_end (p ∷ outlines) outline
