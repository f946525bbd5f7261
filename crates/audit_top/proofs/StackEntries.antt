-- The entries of dictionaries' bytes are outlines, in order and each once.
use Rattle.std.proofs.Common.{ℕ, ◌≡◌, List, [], ◌∷◌, All, length, filter_map, flat_map, find, cond, nat_lt, subst, sym, refl, arith, Bool, true, false, Option, Some, None, option_map, is_none, is_some}
use Rattle.std.specs.Prelude.{◌&&◌}
use Rattle.std.specs.List.{AllByRecursion, cons_option}
use Rattle.std.proofs.lemmas.Bool.{ltb-false}
use Rattle.std.proofs.lemmas.List.Concat.{flat_map-cons}
use Rattle.std.proofs.lemmas.List.Elements.{All-append, All-contains, All-from_recursion, Contains-get_or}
use Rattle.steno_rules.specs.Nodes.{in_order}
use Rattle.steno_rules.specs.Outlines.{AreEntries, IsOutline, most_strokes}
use Rattle.steno_rules.proofs.InOrder.{in_order-Contains, in_order-rising}
use Rattle.steno_order.specs.Reading.{spelt_strokes}
use Rattle.steno_order.specs.Spelling.{parts_of}
use Rattle.steno_order.proofs.ListLaws.{spelt_strokes-IsOutline}
use Rattle.serde_json.specs.Data.{Data, Members}
use Rattle.serde_json.specs.Find.{as_object}
use Rattle.dict_json.specs.Reading.{Keyed, Member, keyed, members_of, reading}
use Rattle.dict_json.specs.Dictionaries.{DictionaryView, dictionary_of, entry_outlines, spelt}
use Rattle.dict_json.specs.Outcomes.{is_too_long, keys_outcome, members_outcome, object_outcome, value_outcome}
use Rattle.dict_json.proofs.DictionaryLemmas.{last_of_each-outlines}
use Rattle.dict_json.proofs.Parts.{spelt_strokes-length}
use Rattle.dict_files.specs.Refusals.{dictionaries_of, dictionary_in, stack_from}

-- the entries of a dictionary have outlines
abbrev pub HasOutlines : DictionaryView → Type 0
HasOutlines d = All IsOutline (entry_outlines d.entries)

-- each key that isn't too long spells an outline, if it spells strokes
spelt_outlines : (pairs : List Keyed) → find is_too_long pairs ≡ None → AllByRecursion IsOutline (entry_outlines (spelt pairs))
spelt_outlines [] none = tt
spelt_outlines (p ∷ ps) none = by (spelt_strokes p.key) refl (nat_lt most_strokes (length (parts_of p.key))) refl none (spelt_outlines ps)
  where
    by : (o : Option (List ℕ)) → spelt_strokes p.key ≡ o → (long : Bool) → nat_lt most_strokes (length (parts_of p.key)) ≡ long → cond (long && is_some o) (Some p) (find is_too_long ps) ≡ None
        → (find is_too_long ps ≡ None → AllByRecursion IsOutline (entry_outlines (spelt ps)))
        → AllByRecursion IsOutline (entry_outlines (cons_option (option_map (λ strokes. record { outline = strokes; text = p.text }) o) (spelt ps)))
    by None spells true is none rest = rest none
    by None spells false is none rest = rest none
    by (Some strokes) spells true is none rest = absurd cc
    by (Some strokes) spells false is none rest =
        let count = spelt_strokes-length p.key strokes spells in
        let few = ltb-false most_strokes (length (parts_of p.key)) is in
        (spelt_strokes-IsOutline p.key strokes spells (omega (arith, count, few)), rest none)

in_order_outlines : (outlines : List (List ℕ)) → All IsOutline outlines → All IsOutline (in_order outlines)
in_order_outlines outlines all k d below =
    All-contains IsOutline outlines _ all ((in_order-Contains outlines _).0 (Contains-get_or (in_order outlines) k d below))

none_outlines : All IsOutline []
none_outlines = λ k d below. absurd (omega (arith, below))

dictionary_outlines : (pairs : List Keyed) → find is_too_long pairs ≡ None → HasOutlines (dictionary_of pairs)
dictionary_outlines pairs none =
    let es = spelt pairs in
    subst (All IsOutline) (sym (last_of_each-outlines es)) (in_order_outlines (entry_outlines es) (All-from_recursion IsOutline (entry_outlines es) (spelt_outlines pairs none)))

keys_outlines : (pairs : List Keyed) (o : Option Keyed) → find is_too_long pairs ≡ o → HasOutlines (dictionary_in (keys_outcome pairs o))
keys_outlines pairs None none = dictionary_outlines pairs none
keys_outlines pairs (Some first) is = none_outlines

members_outlines : (members : List Member) (o : Option Member) → HasOutlines (dictionary_in (members_outcome members o))
members_outlines members None = keys_outlines (filter_map keyed members) (find is_too_long (filter_map keyed members)) refl
members_outlines members (Some first) = none_outlines

object_outlines : (o : Option Members) → HasOutlines (dictionary_in (object_outcome o))
object_outlines None = none_outlines
object_outlines (Some members) = members_outlines (members_of members) (find (λ m. is_none (keyed m)) (members_of members))

value_outlines : (o : Option Data) → HasOutlines (dictionary_in (value_outcome o))
value_outlines None = none_outlines
value_outlines (Some value) = object_outlines (as_object value)

files_outlines : (contents : List (List ℕ)) → All IsOutline (flat_map (λ d. entry_outlines d.entries) (dictionaries_of contents))
files_outlines [] = none_outlines
files_outlines (bytes ∷ contents) =
    subst (All IsOutline) (sym (flat_map-cons (λ (d : DictionaryView). entry_outlines d.entries) (dictionary_in (value_outcome (reading bytes))) (dictionaries_of contents)))
    (All-append IsOutline (entry_outlines (DictionaryView.entries (dictionary_in (value_outcome (reading bytes))))) _ (value_outlines (reading bytes)) (files_outlines contents))

pub stack-outlines : (args contents : List (List ℕ)) → All IsOutline (stack_from args contents).outlines
stack-outlines args contents = in_order_outlines (flat_map (λ (d : DictionaryView). entry_outlines d.entries) (dictionaries_of contents)) (files_outlines contents)

pub stack-entries : (args contents : List (List ℕ)) → AreEntries (stack_from args contents).outlines
stack-entries args contents = record {
  rising = in_order-rising (flat_map (λ (d : DictionaryView). entry_outlines d.entries) (dictionaries_of contents));
  not_empty = λ k d below. (stack-outlines args contents k d below).at_least;
}
