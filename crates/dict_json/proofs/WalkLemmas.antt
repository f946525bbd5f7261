-- What one more key adds to what a walk has collected.
use Rattle.std.proofs.Common.{ℕ, ◌≡◌, ◌<◌, ◌≤◌, List, [], ◌∷◌, ◌++◌, length, map, filter, filter_map, find, refl, sym, ap, ◌∙◌, arith, None, Some, Option, Bool, true, false, is_none, is_some, option_map, Result, Ok, Err, OnOk, not, cond, nat_lt, ◌&&◌}
use Rattle.std.specs.Option.{option_or}
use Rattle.std.proofs.lemmas.List.{append-nil}
use Rattle.std.proofs.lemmas.List.Elements.{filter-append, filter_map-append}
use Rattle.std.proofs.lemmas.List.Folds.{find-append}
use Rattle.std.proofs.lemmas.Bool.{lt-ltb, le-ltb}
use Rattle.steno_rules.specs.Outlines.{most_strokes}
use Rattle.steno_order.specs.Reading.{spelt_strokes}
use Rattle.steno_order.specs.Spelling.{parts_of}
use Rattle.dict_json.specs.Reading.{Keyed}
use Rattle.dict_json.specs.Dictionaries.{spelt, skipped_of}
use Rattle.dict_json.specs.Outcomes.{is_too_long}
use Rattle.dict_json.specs.inside.Walks.{KeysView, walked}
use Rattle.dict_json.proofs.Parts.{spelt_strokes-length}

-- what follows from a fact of Ok
pub on_ok : {T E : Type 0} (r : Result T E) (P Q : Type 0) → OnOk r P → (P → Q) → OnOk r Q
on_ok (Ok x) P Q h f = f h
on_ok (Err e) P Q h f = h

or_none : {X : Type 0} (o : Option X) → option_or o None ≡ o
or_none None = refl
or_none (Some x) = refl

-- what is collected of some keys, and then of others
abbrev joined : KeysView → KeysView → KeysView
joined a b = record { entries = a.entries ++ b.entries; skipped = a.skipped ++ b.skipped; too_long = option_or a.too_long b.too_long }

map_append : {X Y : Type 0} (f : X → Y) (xs ys : List X) → map f (xs ++ ys) ≡ map f xs ++ map f ys
map_append f [] ys = refl
map_append f (x ∷ xs) ys = ap (λ l. f x ∷ l) (map_append f xs ys)

map_or : {X Y : Type 0} (f : X → Y) (a b : Option X) → option_map f (option_or a b) ≡ option_or (option_map f a) (option_map f b)
map_or f None b = refl
map_or f (Some x) b = refl

entries-push : (pairs : List Keyed) (p : Keyed) → (walked (pairs ++ p ∷ [])).entries ≡ (walked pairs).entries ++ (walked (p ∷ [])).entries
entries-push pairs p = ap spelt (filter-append (λ q. not (is_too_long q)) pairs (p ∷ [])) ∙ filter_map-append _ (filter (λ q. not (is_too_long q)) pairs) (filter (λ q. not (is_too_long q)) (p ∷ []))

skipped-push : (pairs : List Keyed) (p : Keyed) → skipped_of (pairs ++ p ∷ []) ≡ skipped_of pairs ++ skipped_of (p ∷ [])
skipped-push pairs p = ap (map (λ q. q.key)) (filter-append (λ q. is_none (spelt_strokes q.key)) pairs (p ∷ [])) ∙ map_append _ (filter (λ q. is_none (spelt_strokes q.key)) pairs) (filter (λ q. is_none (spelt_strokes q.key)) (p ∷ []))

too_long-push : (pairs : List Keyed) (p : Keyed) → (walked (pairs ++ p ∷ [])).too_long ≡ option_or (walked pairs).too_long (walked (p ∷ [])).too_long
too_long-push pairs p = ap (option_map (λ (q : Keyed). (q.key, length (parts_of q.key)))) (find-append is_too_long pairs (p ∷ [])) ∙ map_or _ (find is_too_long pairs) (find is_too_long (p ∷ []))

walked-push : (pairs : List Keyed) (p : Keyed) → walked (pairs ++ p ∷ []) ≡ joined (walked pairs) (walked (p ∷ []))
walked-push pairs p = λ i. record { entries = entries-push pairs p i; skipped = skipped-push pairs p i; too_long = too_long-push pairs p i }

-- by whether the key has too many parts, and what it spells
abbrev one : Bool → Option (List ℕ) → Keyed → KeysView
one many None p = record { entries = []; skipped = p.key ∷ []; too_long = None }
one true (Some strokes) p = record { entries = []; skipped = []; too_long = Some (p.key, length (parts_of p.key)) }
one false (Some strokes) p = record { entries = record { outline = strokes; text = p.text } ∷ []; skipped = []; too_long = None }

-- the same with the tests where the lists stand
abbrev tested : Bool → Option (List ℕ) → Keyed → KeysView
tested many o p = record {
  entries = cond (not (many && is_some o)) (filter_map (option_map (λ strokes. record { outline = strokes; text = p.text })) (o ∷ [])) [];
  skipped = cond (is_none o) (p.key ∷ []) [];
  too_long = cond (many && is_some o) (Some (p.key, length (parts_of p.key))) None;
}

tested-one : (many : Bool) (o : Option (List ℕ)) (p : Keyed) → tested many o p ≡ one many o p
tested-one true None p = refl
tested-one false None p = refl
tested-one true (Some strokes) p = refl
tested-one false (Some strokes) p = refl

over : {X Y : Type 0} (f : X → Y) (b : Bool) (x y : X) → f (cond b x y) ≡ cond b (f x) (f y)
over f true x y = refl
over f false x y = refl

walked_one : (p : Keyed) → walked (p ∷ []) ≡ one (nat_lt most_strokes (length (parts_of p.key))) (spelt_strokes p.key) p
walked_one p =
    (λ i. record {
      entries = over spelt (not (is_too_long p)) (p ∷ []) [] i;
      skipped = over (map (λ (q : Keyed). q.key)) (is_none (spelt_strokes p.key)) (p ∷ []) [] i;
      too_long = over (option_map (λ (q : Keyed). (q.key, length (parts_of q.key)))) (is_too_long p) (Some p) None i;
    }) ∙ tested-one (nat_lt most_strokes (length (parts_of p.key))) (spelt_strokes p.key) p

module _ (pairs : List Keyed) (k : KeysView) (key text : List ℕ) (is : k ≡ walked pairs) where
  added : (many : Bool) (o : Option (List ℕ)) → nat_lt most_strokes (length (parts_of key)) ≡ many → spelt_strokes key ≡ o → walked (pairs ++ record { key = key; text = text } ∷ []) ≡ joined k (one many o (record { key = key; text = text }))
  added many o long spells = walked-push pairs (record { key = key; text = text }) ∙ (λ i. joined (sym is i) ((walked_one (record { key = key; text = text }) ∙ (λ j. one (long j) (spells j) (record { key = key; text = text }))) i))

  -- a readable key
  pub adds_entry : (strokes : List ℕ) → spelt_strokes key ≡ Some strokes → length strokes ≤ most_strokes →
      record { entries = k.entries ++ record { outline = strokes; text = text } ∷ []; skipped = k.skipped; too_long = k.too_long } ≡ walked (pairs ++ record { key = key; text = text } ∷ [])
  adds_entry strokes spells short =
      sym (added false (Some strokes) (le-ltb most_strokes (length (parts_of key)) (omega (arith, spelt_strokes-length key strokes spells))) spells
      ∙ (λ i. record { entries = k.entries ++ record { outline = strokes; text = text } ∷ []; skipped = append-nil k.skipped i; too_long = or_none k.too_long i }))

  -- a key with an unreadable part
  pub adds_skipped : spelt_strokes key ≡ None → record { entries = k.entries; skipped = k.skipped ++ key ∷ []; too_long = k.too_long } ≡ walked (pairs ++ record { key = key; text = text } ∷ [])
  adds_skipped spells =
      sym (added (nat_lt most_strokes (length (parts_of key))) None refl spells
      ∙ (λ i. record { entries = append-nil k.entries i; skipped = k.skipped ++ key ∷ []; too_long = or_none k.too_long i }))

  -- a key that is too long
  pub adds_too_long : (strokes : List ℕ) (parts : ℕ) → spelt_strokes key ≡ Some strokes → length strokes ≡ parts → most_strokes < parts →
      record { entries = k.entries; skipped = k.skipped; too_long = option_or k.too_long (Some (key, parts)) } ≡ walked (pairs ++ record { key = key; text = text } ∷ [])
  adds_too_long strokes parts spells count long =
      let all = sym (spelt_strokes-length key strokes spells) ∙ count in
      sym (added true (Some strokes) (lt-ltb most_strokes (length (parts_of key)) (omega (arith, all))) spells
      ∙ (λ i. record { entries = append-nil k.entries i; skipped = append-nil k.skipped i; too_long = option_or k.too_long (Some (key, all i)) }))
