-- One more dictionary.
use Rattle.std.proofs.Common.{◌≡◌, ℕ, suc, ◌+◌, ◌<◌, ◌^◌, List, [], ◌∷◌, ◌++◌, length, get_or, map, sym, ap, subst, ◌∙◌, arith, Bool, false, All, sum_by, append_assoc}
use Rattle.std.proofs.lemmas.List.{length-map, length_push, map-append, append-nil}
use Rattle.std.proofs.lemmas.List.Elements.{All-append}
use Rattle.std.proofs.lemmas.List.Sums.{sum_by_push}
use Rattle.steno_rules.specs.Outlines.{IsOutline}
use Rattle.dict_json.specs.Dictionaries.{DictionaryView, entry_outlines}
use Rattle.dict_stack.specs.inside.Candidates.{candidate, candidates_from, candidate_outline, IsCollected}
use Rattle.dict_stack.specs.declared.candidates.Candidate.{Candidate}
use Rattle.dict_stack.specs.declared.candidates.Collected.{Collected}
use Rattle.dict_stack.proofs.StackLemmas.{entries_outlines}

-- the candidates of one more dictionary follow the others
pub candidates_push : (place : ℕ) (ds : List DictionaryView) (d : DictionaryView) (word_files : List Bool) →
    candidates_from place (ds ++ d ∷ []) word_files ≡ candidates_from place ds word_files ++ map (candidate (place + length ds) (get_or word_files (place + length ds) false)) d.entries
candidates_push place [] d word_files =
    append-nil (map (candidate place (get_or word_files place false)) d.entries)
    ∙ ap (λ n. map (candidate n (get_or word_files n false)) d.entries) (sym (omega arith))
candidates_push place (e ∷ ds) d word_files =
    let here : List Candidate = map (candidate place (get_or word_files place false)) e.entries in
    let moved : suc place + length ds ≡ place + suc (length ds) = omega arith in
    ap (λ l. here ++ l) (candidates_push (suc place) ds d word_files)
    ∙ sym (append_assoc here (candidates_from (suc place) ds word_files) (map (candidate (suc place + length ds) (get_or word_files (suc place + length ds) false)) d.entries))
    ∙ ap (λ n. (here ++ candidates_from (suc place) ds word_files) ++ map (candidate n (get_or word_files n false)) d.entries) moved

-- what the addition of a dictionary does, as the contract says it
pub record AddsDictionary (old : Collected) (d : DictionaryView) (is_word : Bool) (new : Collected) : Type 0 where
  pub candidates : new.candidates.items ≡ old.candidates.items ++ map (candidate (length old.skipped.items) is_word) d.entries
  pub skipped : map (λ keys. keys.items) new.skipped.items ≡ map (λ keys. keys.items) old.skipped.items ++ d.skipped ∷ []
  pub skipped_total : new.skipped_total ≡ old.skipped_total + length d.skipped
  pub folded_total : new.folded_total ≡ old.folded_total + d.folded
  pub are_outlines : All IsOutline (entry_outlines d.entries)
  pub few_more : d.folded + length d.skipped < 2 ^ 32

-- as many lists of skipped keys as dictionaries
pub places : (ds : List DictionaryView) (word_files : List Bool) (c : Collected) → IsCollected ds word_files c → length c.skipped.items ≡ length ds
places ds word_files c is = sym (length-map c.skipped.items (λ keys. keys.items)) ∙ ap length is.skipped_are ∙ length-map ds (λ d. d.skipped)

-- What is collected with one more dictionary.
pub collected_push : (ds : List DictionaryView) (d : DictionaryView) (word_files : List Bool) (old new : Collected) → IsCollected ds word_files old → AddsDictionary old d (get_or word_files (length ds) false) new →
    IsCollected (ds ++ d ∷ []) word_files new
collected_push ds d word_files old new is adds = record {
  candidates_are = candidates ∙ sym (candidates_push 0 ds d word_files ∙ ap (λ n. candidates_from 0 ds word_files ++ map (candidate n (get_or word_files n false)) d.entries) (sym (omega arith)));
  are_outlines = subst (All IsOutline) (sym (ap (map candidate_outline) adds.candidates ∙ map-append candidate_outline old.candidates.items more))
      (All-append IsOutline (map candidate_outline old.candidates.items) (map candidate_outline more) is.are_outlines
      (subst (All IsOutline) (sym (entries_outlines (length old.skipped.items) (get_or word_files (length ds) false) d.entries)) adds.are_outlines));
  skipped_are = skipped;
  skipped_total_is = adds.skipped_total ∙ ap (λ n. n + length d.skipped) is.skipped_total_is ∙ sym (sum_by_push length (map (λ e. e.skipped) ds) d.skipped) ∙ ap (sum_by length) (sym (map-append (λ e. e.skipped) ds (d ∷ [])));
  folded_total_is = adds.folded_total ∙ ap (λ n. n + d.folded) is.folded_total_is ∙ sym (sum_by_push (λ e. e.folded) ds d);
  few_keys = omega (arith, is.few_keys, adds.skipped_total, adds.folded_total, adds.few_more, length_push ds d);
}
  where
    more : List Candidate
    more = map (candidate (length old.skipped.items) (get_or word_files (length ds) false)) d.entries

    candidates : new.candidates.items ≡ candidates_from 0 ds word_files ++ map (candidate (length ds) (get_or word_files (length ds) false)) d.entries
    candidates =
        adds.candidates
        ∙ ap (λ l. l ++ map (candidate (length old.skipped.items) (get_or word_files (length ds) false)) d.entries) is.candidates_are
        ∙ ap (λ n. candidates_from 0 ds word_files ++ map (candidate n (get_or word_files (length ds) false)) d.entries) (places ds word_files old is)

    skipped : map (λ keys. keys.items) new.skipped.items ≡ map (λ e. e.skipped) (ds ++ d ∷ [])
    skipped = adds.skipped ∙ ap (λ l. l ++ d.skipped ∷ []) is.skipped_are ∙ sym (map-append (λ e. e.skipped) ds (d ∷ []))
