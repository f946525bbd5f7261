-- The key that stands for an outline is the greatest of those that spell it.
use Rattle.std.proofs.Common.{ℕ, ◌≡◌, ◌∙◌, ap, refl, sym, subst, List, [], ◌∷◌, Bool, true, false, cond, Contains, map, find, reverse, Option, Some, None, is_none, option_map, inl, inr, nat_eq, true≢false}
use Rattle.std.specs.List.{AllByRecursion, cons_option}
use Rattle.std.specs.Option.{option_map_or, option_or}
use Rattle.std.specs.Cmp.Lexicographic.{bytes_decides, pointwise}
use Rattle.std.proofs.lemmas.List.{reverse-append}
use Rattle.std.proofs.lemmas.List.Elements.{All-contains, All-from_recursion}
use Rattle.std.proofs.lemmas.List.Folds.{find-append}
use Rattle.serde_json.specs.Data.{Data, Members, null, boolean, number, string, array, object}
use Rattle.steno_rules.proofs.InOrder.{in_order-Contains}
use Rattle.steno_rules.proofs.Lists.{none_in_nil, in_cons, in_first, in_later, in_map, in_map_of}
use Rattle.steno_rules.proofs.Numbers.{below_trans, not_below_self}
use Rattle.steno_rules.proofs.Rising.{Rises, rises_of_pairs}
use Rattle.steno_order.specs.Reading.{spelt_strokes}
use Rattle.dict_json.specs.Reading.{Keyed, Member, keyed, members_of, names_of, reading}
use Rattle.dict_json.specs.Dictionaries.{DictionaryView, Entry, entry_outlines, has_outline, spelt, standing, dictionary_of}
use Rattle.dict_json.specs.Outcomes.{dictionary, dictionary_outcome, is_too_long, keys_outcome, members_outcome, value_outcome}
use Rattle.dict_json.specs.Standing.{IsStandingKey, KeepsGreatest, IsOfObject, keys_with_texts}
use Rattle.dict_json.proofs.DictionaryLemmas.{last_of_each-outlines, keys_of_texts}
use Rattle.dict_json.proofs.KeyOrder.{Before}
use Rattle.dict_json.proofs.ReadingLemmas.{names_in_order}
use Rattle.steno_rules.specs.Nodes.{in_order}

-- ---- what is spelt

-- an outline that a key spells is among those that are spelt
spelt_has : (pairs : List Keyed) (p : Keyed) (outline : List ℕ) → Contains pairs p → spelt_strokes p.key ≡ Some outline → Contains (entry_outlines (spelt pairs)) outline
spelt_has [] p outline has spells = absurd (none_in_nil p has)
spelt_has (q ∷ ps) p outline has spells = elim (in_cons q ps p has) [
  | inl is ↦ first (spelt_strokes q.key) (subst (λ (r : Keyed). spelt_strokes r.key ≡ Some outline) (sym is) spells)
  | inr later ↦ by (spelt_strokes q.key) (spelt_has ps p outline later spells)
]
  where
    first : (o : Option (List ℕ)) → o ≡ Some outline → Contains (entry_outlines (cons_option (option_map (λ s. record { outline = s; text = q.text }) o) (spelt ps))) outline
    first None e = absurd (true≢false cc)
    first (Some strokes) e = let same : strokes ≡ outline = cc in subst (λ s. Contains (s ∷ entry_outlines (spelt ps)) outline) (sym same) (in_first outline (entry_outlines (spelt ps)))

    by : (o : Option (List ℕ)) → Contains (entry_outlines (spelt ps)) outline → Contains (entry_outlines (cons_option (option_map (λ s. record { outline = s; text = q.text }) o) (spelt ps))) outline
    by None rest = rest
    by (Some strokes) rest = in_later strokes (entry_outlines (spelt ps)) outline rest

-- and each of those is spelt by a key
spelt_by : (pairs : List Keyed) (outline : List ℕ) → Contains (entry_outlines (spelt pairs)) outline → (p : Keyed) × Contains pairs p × (spelt_strokes p.key ≡ Some outline)
spelt_by [] outline has = absurd (none_in_nil outline has)
spelt_by (q ∷ ps) outline has = by (spelt_strokes q.key) refl has (spelt_by ps outline)
  where
    later : (p : Keyed) × Contains ps p × (spelt_strokes p.key ≡ Some outline) → (p : Keyed) × Contains (q ∷ ps) p × (spelt_strokes p.key ≡ Some outline)
    later found = (found.0, in_later q ps found.0 found.1, found.2)

    by : (o : Option (List ℕ)) → spelt_strokes q.key ≡ o → Contains (entry_outlines (cons_option (option_map (λ s. record { outline = s; text = q.text }) o) (spelt ps))) outline →
        (Contains (entry_outlines (spelt ps)) outline → (p : Keyed) × Contains ps p × (spelt_strokes p.key ≡ Some outline)) → (p : Keyed) × Contains (q ∷ ps) p × (spelt_strokes p.key ≡ Some outline)
    by None spells has rest = later (rest has)
    by (Some strokes) spells has rest = elim (in_cons strokes (entry_outlines (spelt ps)) outline has) [
      | inl is ↦ (q, in_first q ps, spells ∙ ap Some is)
      | inr there ↦ later (rest there)
    ]

-- ---- the last entry with an outline

-- the last of these entries that has it
abbrev last_with : List Entry → List ℕ → Option Entry
last_with es outline = find (has_outline outline) (reverse es)

last_with-cons : (e : Entry) (es : List Entry) (outline : List ℕ) → last_with (e ∷ es) outline ≡ option_or (last_with es outline) (cond (pointwise nat_eq e.outline outline) (Some e) None)
last_with-cons e es outline = ap (find (has_outline outline)) (reverse-append (e ∷ []) es) ∙ find-append (has_outline outline) (reverse es) (e ∷ [])

-- what it says of the keys: none spells the outline, or the entry's is the greatest that does
abbrev Stands : List Keyed → List ℕ → Option Entry → Type 0
Stands pairs outline None = (q : Keyed) → Contains pairs q → spelt_strokes q.key ≡ Some outline → ⊥
Stands pairs outline (Some e) = (p : Keyed) × IsStandingKey pairs (record { outline = outline; text = e.text }) p

module _ (p : Keyed) (ps : List Keyed) (outline : List ℕ) (above : AllByRecursion (Before p.key) (map (λ q. q.key) ps)) where
  -- a key that doesn't spell it changes nothing
  none_more : (spelt_strokes p.key ≡ Some outline → ⊥) → Stands ps outline None → Stands (p ∷ ps) outline None
  none_more apart none q has spells = elim (in_cons p ps q has) [
    | inl is ↦ apart (subst (λ (r : Keyed). spelt_strokes r.key ≡ Some outline) (sym is) spells)
    | inr later ↦ none q later spells
  ]

  -- and a lesser key neither
  some_more : (e : Entry) → Stands ps outline (Some e) → Stands (p ∷ ps) outline (Some e)
  some_more e found = (
    found.0,
    record {
      there = in_later p ps found.0 found.1.there;
      spells = found.1.spells;
      text = found.1.text;
      none_greater = λ q has spells greater. elim (in_cons p ps q has) [
        | inl is ↦ not_below_self p.key (below_trans p.key found.0.key p.key
            (All-contains (Before p.key) (map (λ (r : Keyed). r.key) ps) found.0.key (All-from_recursion (Before p.key) (map (λ (r : Keyed). r.key) ps) above) (in_map_of (λ (r : Keyed). r.key) ps found.0 found.1.there))
            (subst (λ (r : Keyed). Before found.0.key r.key) (sym is) greater))
        | inr later ↦ found.1.none_greater q later spells greater
      ];
    },
  )

  -- the only key that spells it
  only_one : spelt_strokes p.key ≡ Some outline → Stands ps outline None → (strokes : List ℕ) → Stands (p ∷ ps) outline (Some (record { outline = strokes; text = p.text }))
  only_one spells none strokes = (
    p,
    record {
      there = in_first p ps;
      spells = spells;
      text = refl;
      none_greater = λ q has also greater. elim (in_cons p ps q has) [
        | inl is ↦ not_below_self p.key (subst (λ (r : Keyed). Before p.key r.key) (sym is) greater)
        | inr later ↦ none q later also
      ];
    },
  )

  unreadable : spelt_strokes p.key ≡ None → (o : Option Entry) → Stands ps outline o → Stands (p ∷ ps) outline o
  unreadable spells None none = none_more (λ is. absurd (true≢false cc)) none
  unreadable spells (Some e) found = some_more e found

  readable : (strokes : List ℕ) → spelt_strokes p.key ≡ Some strokes → (o : Option Entry) → Stands ps outline o → (b : Bool) → pointwise nat_eq strokes outline ≡ b →
      Stands (p ∷ ps) outline (option_or o (cond b (Some (record { outline = strokes; text = p.text })) None))
  readable strokes spells (Some e) found b test = some_more e found
  readable strokes spells None none true test = only_one (spells ∙ ap Some ((bytes_decides strokes outline).0 test)) none strokes
  readable strokes spells None none false test = none_more (λ is. (let same : strokes ≡ outline = cc in true≢false (sym ((bytes_decides strokes outline).1 same) ∙ test))) none

stands_last : (pairs : List Keyed) (outline : List ℕ) → Rises Before (map (λ p. p.key) pairs) → Stands pairs outline (last_with (spelt pairs) outline)
unfolding Rises
stands_last [] outline h = λ q has spells. none_in_nil q has
stands_last (p ∷ ps) outline h = by (spelt_strokes p.key) refl (stands_last ps outline h.1)
  where
    by : (o : Option (List ℕ)) → spelt_strokes p.key ≡ o → Stands ps outline (last_with (spelt ps) outline) →
        Stands (p ∷ ps) outline (last_with (cons_option (option_map (λ s. record { outline = s; text = p.text }) o) (spelt ps)) outline)
    by None spells rest = unreadable p ps outline h.0 spells (last_with (spelt ps) outline) rest
    by (Some strokes) spells rest = subst (Stands (p ∷ ps) outline) (sym (last_with-cons (record { outline = strokes; text = p.text }) (spelt ps) outline))
        (readable p ps outline h.0 strokes spells (last_with (spelt ps) outline) rest (pointwise nat_eq strokes outline) refl)

-- ---- the dictionary

-- of rising keys the greatest stand
greatest_kept : (pairs : List Keyed) → Rises Before (map (λ p. p.key) pairs) → KeepsGreatest pairs (dictionary_of pairs)
greatest_kept pairs rises = record {
  stands = λ entry has. (let found = in_map (λ outline. record { outline = outline; text = standing (spelt pairs) outline }) (in_order (entry_outlines (spelt pairs))) entry has in
      subst (λ e. (p : Keyed) × IsStandingKey pairs e p) found.2
      (by found.0 ((in_order-Contains (entry_outlines (spelt pairs)) found.0).0 found.1) (last_with (spelt pairs) found.0) (stands_last pairs found.0 rises)));
  each = λ p outline has spells. subst (λ l. Contains l outline) (sym (last_of_each-outlines (spelt pairs)))
      ((in_order-Contains (entry_outlines (spelt pairs)) outline).1 (spelt_has pairs p outline has spells));
}
  where
    by : (outline : List ℕ) → Contains (entry_outlines (spelt pairs)) outline → (o : Option Entry) → Stands pairs outline o →
        (p : Keyed) × IsStandingKey pairs (record { outline = outline; text = option_map_or (λ (e : Entry). e.text) o [] }) p
    by outline has None none = let found = spelt_by pairs outline has in absurd (none found.0 found.1 found.2)
    by outline has (Some e) found = found

module _ (bytes : List ℕ) (d : DictionaryView) where
  of_keys : (ms : Members) → reading bytes ≡ Some (object ms) → find (λ m. is_none (keyed m)) (members_of ms) ≡ None → (o : Option Keyed) → keys_outcome (keys_with_texts ms) o ≡ dictionary d → IsOfObject bytes d
  of_keys ms is texts (Some first) e = absurd (cc)
  of_keys ms is texts None e =
      let same : dictionary_of (keys_with_texts ms) ≡ d = cc in
      let rises = subst (Rises Before) (sym (keys_of_texts (members_of ms) texts)) (rises_of_pairs Before (names_of ms) (names_in_order bytes ms is)) in
      (ms, is, subst (KeepsGreatest (keys_with_texts ms)) same (greatest_kept (keys_with_texts ms) rises))

  of_object : (ms : Members) → reading bytes ≡ Some (object ms) → members_outcome (members_of ms) (find (λ m. is_none (keyed m)) (members_of ms)) ≡ dictionary d → IsOfObject bytes d
  of_object ms is e = by (find (λ m. is_none (keyed m)) (members_of ms)) refl e
    where
      by : (o : Option Member) → find (λ m. is_none (keyed m)) (members_of ms) ≡ o → members_outcome (members_of ms) o ≡ dictionary d → IsOfObject bytes d
      by (Some first) texts out = absurd (cc)
      by None texts out = of_keys ms is texts (find is_too_long (keys_with_texts ms)) out

  of_value : (v : Option Data) → reading bytes ≡ v → value_outcome v ≡ dictionary d → IsOfObject bytes d
  of_value None is e = absurd (cc)
  of_value (Some null) is e = absurd (cc)
  of_value (Some (boolean b)) is e = absurd (cc)
  of_value (Some (number n)) is e = absurd (cc)
  of_value (Some (string s)) is e = absurd (cc)
  of_value (Some (array ds)) is e = absurd (cc)
  of_value (Some (object ms)) is e = of_object ms is e

  pub outcome-IsOfObject : dictionary_outcome bytes ≡ dictionary d → IsOfObject bytes d
  outcome-IsOfObject e = of_value (reading bytes) refl e
