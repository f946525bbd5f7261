-- The dictionary of keys none of which is too long.
use Rattle.std.proofs.Common.{ℕ, suc, ◌≡◌, ◌<◌, ◌≤◌, ◌+◌, ◌-◌, ◌^◌, List, [], ◌∷◌, length, map, filter, filter_map, find, fold, refl, sym, ap, subst, ◌∙◌, arith, None, Some, Option, Bool, true, false, is_none, is_some, option_map, Ordering, Less, Equal, Greater, not, cond, nat_lt, ◌&&◌, All}
use Rattle.std.specs.List.{AllByRecursion, cons_option}
use Rattle.std.proofs.lemmas.List.{length-map}
use Rattle.std.proofs.lemmas.List.Elements.{Contains-get_or, All-from_recursion, All-contains}
use Rattle.std.proofs.lemmas.Bool.{ltb-false}
use Rattle.steno_rules.specs.Nodes.{insert_new, by_order, in_order}
use Rattle.steno_rules.specs.Outlines.{AreRising, IsOutline, most_strokes, outline_cmp}
use Rattle.steno_order.specs.Reading.{spelt_strokes}
use Rattle.steno_order.specs.Spelling.{parts_of}
use Rattle.dict_json.specs.Reading.{Member, Keyed, keyed, AreInOrder}
use Rattle.dict_json.specs.Dictionaries.{Entry, IsDictionary, entry_outlines, spelt, standing, last_of_each, skipped_of, dictionary_of}
use Rattle.dict_json.specs.Outcomes.{is_too_long, keys_outcome, members_outcome, dictionary}
use Rattle.dict_json.specs.inside.Walks.{KeysView, walked}
use Rattle.steno_rules.proofs.InOrder.{in_order-rising, in_order-Contains}
use Rattle.serde_json.specs.Find.{as_str}
use Rattle.steno_rules.proofs.Rising.{Rises, rises_of_pairs}
use Rattle.dict_json.proofs.KeyOrder.{Before, some_in_order}
use Rattle.steno_order.proofs.ListLaws.{spelt_strokes-IsOutline}
use Rattle.dict_json.proofs.Parts.{spelt_strokes-length}

-- where none passes, all fail
fails : {X : Type 0} (p : X → Bool) (x : X) (xs : List X) → find p (x ∷ xs) ≡ None → (p x ≡ false) × (find p xs ≡ None)
fails p x xs e = by (p x) e
  where
    by : (b : Bool) → cond b (Some x) (find p xs) ≡ None → (b ≡ false) × (find p xs ≡ None)
    by true is = absurd (cc)
    by false is = (refl, is)

unmapped : {X Y : Type 0} (f : X → Y) (o : Option X) → option_map f o ≡ None → o ≡ None
unmapped f None e = refl
unmapped f (Some x) e = absurd (cc)

all_kept : {X : Type 0} (p : X → Bool) (xs : List X) → find p xs ≡ None → filter (λ x. not (p x)) xs ≡ xs
all_kept p [] e = refl
all_kept p (x ∷ xs) e = let f = fails p x xs e in ap (λ b. cond (not b) (x ∷ filter (λ y. not (p y)) xs) (filter (λ y. not (p y)) xs)) f.0 ∙ ap (λ l. x ∷ l) (all_kept p xs f.1)

-- each readable key makes an entry, and each other key is skipped
counted : (pairs : List Keyed) → length (spelt pairs) + length (skipped_of pairs) ≡ length pairs
counted [] = refl
counted (p ∷ ps) = by (spelt_strokes p.key) (counted ps)
  where
    others : List Keyed
    others = filter (λ q. is_none (spelt_strokes q.key)) ps

    by : (o : Option (List ℕ)) → length (spelt ps) + length (skipped_of ps) ≡ length ps →
        length (cons_option (option_map (λ strokes. record { outline = strokes; text = p.text }) o) (spelt ps)) + length (map (λ (q : Keyed). q.key) (cond (is_none o) (p ∷ others) others)) ≡ suc (length ps)
    by None rest = omega (arith, rest)
    by (Some strokes) rest = omega (arith, rest)

-- no more entries than there are with their repetitions
fold_length : (xs acc : List (List ℕ)) → length (fold insert_new acc xs) ≤ length acc + length xs
fold_length [] acc = omega arith
fold_length (x ∷ xs) acc = omega (arith, fold_length xs (insert_new acc x), insert_length acc x)
  where
    insert_length : (ys : List (List ℕ)) (y : List ℕ) → length (insert_new ys y) ≤ length ys + 1
    insert_length [] y = omega arith
    insert_length (z ∷ zs) y = by (outline_cmp y z) (insert_length zs y)
      where
        by : (o : Ordering) → length (insert_new zs y) ≤ length zs + 1 → length (by_order o (y ∷ z ∷ zs) (z ∷ zs) (z ∷ insert_new zs y)) ≤ length (z ∷ zs) + 1
        by Less rest = omega arith
        by Equal rest = omega arith
        by Greater rest = omega (arith, rest)

outlines_back : (f : List ℕ → List ℕ) (os : List (List ℕ)) → entry_outlines (map (λ outline. record { outline = outline; text = f outline }) os) ≡ os
outlines_back f [] = refl
outlines_back f (o ∷ os) = ap (λ l. o ∷ l) (outlines_back f os)

pub last_of_each-outlines : (entries : List Entry) → entry_outlines (last_of_each entries) ≡ in_order (entry_outlines entries)
last_of_each-outlines entries = outlines_back (standing entries) (in_order (entry_outlines entries))

pub last_of_each-length : (entries : List Entry) → length (last_of_each entries) ≤ length entries
last_of_each-length entries =
    let made : length (last_of_each entries) ≡ length (in_order (entry_outlines entries)) = length-map (in_order (entry_outlines entries)) _ in
    let outlines : length (entry_outlines entries) ≡ length entries = length-map entries _ in
    omega (arith, fold_length (entry_outlines entries) [], made, outlines)

and_true : (b : Bool) → b && true ≡ false → b ≡ false
and_true true e = e
and_true false e = refl

-- each key that isn't too long spells an outline, if it spells strokes
spelt_outlines : (pairs : List Keyed) → find is_too_long pairs ≡ None → AllByRecursion IsOutline (entry_outlines (spelt pairs))
spelt_outlines [] e = tt
spelt_outlines (p ∷ ps) e = let f = fails is_too_long p ps e in by (spelt_strokes p.key) refl f.0 (spelt_outlines ps f.1)
  where
    by : (o : Option (List ℕ)) → spelt_strokes p.key ≡ o → nat_lt most_strokes (length (parts_of p.key)) && is_some (spelt_strokes p.key) ≡ false → AllByRecursion IsOutline (entry_outlines (spelt ps)) →
        AllByRecursion IsOutline (entry_outlines (cons_option (option_map (λ strokes. record { outline = strokes; text = p.text }) o) (spelt ps)))
    by None spells short rest = rest
    by (Some strokes) spells short rest =
        let count = spelt_strokes-length p.key strokes spells in
        let few = ltb-false most_strokes (length (parts_of p.key)) (and_true _ (ap (λ o. nat_lt most_strokes (length (parts_of p.key)) && is_some o) (sym spells) ∙ short)) in
        (spelt_strokes-IsOutline p.key strokes spells (omega (arith, count, few)), rest)

in_order_outlines : (entries : List Entry) → AllByRecursion IsOutline (entry_outlines entries) → All IsOutline (in_order (entry_outlines entries))
in_order_outlines entries all k d below =
    All-contains IsOutline (entry_outlines entries) _ (All-from_recursion IsOutline (entry_outlines entries) all) ((in_order-Contains (entry_outlines entries) _).0 (Contains-get_or (in_order (entry_outlines entries)) k d below))

dictionary-IsDictionary : (pairs : List Keyed) → find is_too_long pairs ≡ None → Rises Before (map (λ p. p.key) pairs) → length pairs < 2 ^ 32 → IsDictionary (dictionary_of pairs)
dictionary-IsDictionary pairs short rises few =
    let es = spelt pairs in
    let all = subst (All IsOutline) (sym (last_of_each-outlines es)) (in_order_outlines es (spelt_outlines pairs short)) in
    record {
      are_entries = record { rising = subst AreRising (sym (last_of_each-outlines es)) (in_order-rising (entry_outlines es)); not_empty = λ k d below. (all k d below).at_least };
      are_outlines = all;
      skipped_rise = some_in_order (λ p. is_none (spelt_strokes p.key)) pairs rises;
      few_entries = omega (arith, last_of_each-length es, counted pairs);
      few_keys = omega (arith, counted pairs);
    }

-- members whose values are texts have their names as keys
pub keys_of_texts : (members : List Member) → find (λ m. is_none (keyed m)) members ≡ None → map (λ (p : Keyed). p.key) (filter_map keyed members) ≡ map (λ (m : Member). m.name) members
keys_of_texts [] e = refl
keys_of_texts (m ∷ ms) e = let f = fails (λ q. is_none (keyed q)) m ms e in by (as_str m.value) f.0 (keys_of_texts ms f.1)
  where
    by : (o : Option (List ℕ)) → is_none {T = Keyed} (option_map (λ text. record { key = m.name; text = text }) o) ≡ false → map (λ (p : Keyed). p.key) (filter_map keyed ms) ≡ map (λ (q : Member). q.name) ms →
        map (λ (p : Keyed). p.key) (cons_option (option_map (λ text. record { key = m.name; text = text }) o) (filter_map keyed ms)) ≡ m.name ∷ map (λ (q : Member). q.name) ms
    by None is rest = absurd (cc)
    by (Some text) is rest = ap (λ ns. m.name ∷ ns) rest

length_texts : (members : List Member) → length (filter_map keyed members) ≤ length members
length_texts [] = omega arith
length_texts (m ∷ ms) = by (keyed m) (length_texts ms)
  where
    by : (o : Option Keyed) → length (filter_map keyed ms) ≤ length ms → length (cons_option o (filter_map keyed ms)) ≤ length (m ∷ ms)
    by None rest = omega (arith, rest)
    by (Some p) rest = omega (arith, rest)

-- the keys that were collected, where all members are texts and none of the keys is too long
module _ (members : List Member) (k : KeysView) (texts : find (λ m. is_none (keyed m)) members ≡ None) (collected : k ≡ walked (filter_map keyed members)) (short : k.too_long ≡ None) where
  none_long : find is_too_long (filter_map keyed members) ≡ None
  none_long = unmapped _ (find is_too_long (filter_map keyed members)) (sym (ap (λ (v : KeysView). v.too_long) collected) ∙ short)

  entries : k.entries ≡ spelt (filter_map keyed members)
  entries = ap (λ (v : KeysView). v.entries) collected ∙ ap spelt (all_kept is_too_long (filter_map keyed members) none_long)

  pub made_dictionary : record { entries = last_of_each k.entries; skipped = k.skipped; folded = length k.entries - length (last_of_each k.entries) } ≡ dictionary_of (filter_map keyed members)
  made_dictionary = λ i. record { entries = last_of_each (entries i); skipped = (collected i).skipped; folded = length (entries i) - length (last_of_each (entries i)) }

  pub made_IsDictionary : length members < 2 ^ 32 → AreInOrder (map (λ m. m.name) members) → IsDictionary (record { entries = last_of_each k.entries; skipped = k.skipped; folded = length k.entries - length (last_of_each k.entries) })
  made_IsDictionary few ordered =
      let rises = subst (Rises Before) (sym (keys_of_texts members texts)) (rises_of_pairs Before (map (λ m. m.name) members) ordered) in
      subst IsDictionary (sym made_dictionary) (dictionary-IsDictionary (filter_map keyed members) none_long rises (omega (arith, few, length_texts members)))

  pub made_outcome : members_outcome members (find (λ m. is_none (keyed m)) members) ≡ dictionary (record { entries = last_of_each k.entries; skipped = k.skipped; folded = length k.entries - length (last_of_each k.entries) })
  made_outcome = ap (members_outcome members) texts ∙ ap (keys_outcome (filter_map keyed members)) none_long ∙ ap dictionary (sym made_dictionary)
