-- Members that stand in a text in any order: in order of their keys, the last one of each key, they are those of the object.
use Rattle.std.proofs.Common.{◌≡◌, ℕ, List, [], ◌∷◌, ◌++◌, map, reverse, filter_map, refl, sym, ap, subst, ◌∙◌, Bool, true, false, true≢false, cond, nat_eq, Option, Some, None, option_map, find, is_none, Ordering, Less, Equal, Greater, is_eq, All, ◌<◌, length}
use Rattle.std.specs.Option.{option_or}
use Rattle.std.specs.Ordering.{nat_cmp, match_ordering}
use Rattle.std.specs.Cmp.Lexicographic.{pointwise, slice_cmp, bytes_decides, texts_ties}
use Rattle.std.specs.List.{dedup}
use Rattle.std.specs.List.Sorted.{IsSortedBy, IsStableBy}
use Rattle.std.proofs.lemmas.Grind.{reverse_onto}
use Rattle.std.proofs.lemmas.List.Elements.{All-cons, All-head, All-nil, All-tail}
use Rattle.std.proofs.lemmas.List.Folds.{find-append}
use Rattle.serde_json.specs.Data as serde
use Rattle.serde_json.specs.Data.{Data, Members, no_members, put}
use Rattle.steno_rules.proofs.NodeLemmas.{same_of_equal}
use Rattle.steno_rules.proofs.Rising.{Rises}
use Rattle.dict_json.specs.Reading.{Keyed, Member, keyed, members_of, names_of}
use Rattle.dict_json.specs.inside.Texts.{as_member, put_texts}
use Rattle.dict_json.proofs.KeyOrder.{put_rises}
use Rattle.dict_json.proofs.FirstOfEach.{Before, find-kept, has_text, is_before, is_same, rises-kept, rising_found}

-- the key of a member, by which members are ordered
abbrev pub key_of : Keyed → List ℕ
key_of p = p.key

-- the member has this name
abbrev named : List ℕ → Member → Bool
named = has_text (λ (m : Member). m.name)

skip : (b c : Bool) (x y : Member) (o : Option Member) → c ≡ b → cond b (Some x) o ≡ cond b (Some x) (cond c (Some y) o)
skip true c x y o e = refl
skip false c x y o e = ap (λ t. cond t (Some y) o) (sym e)

swap : (b c : Bool) (x y : Member) (o : Option Member) → (b ≡ true → c ≡ true → ⊥) → cond c (Some y) (cond b (Some x) o) ≡ cond b (Some x) (cond c (Some y) o)
swap true true x y o apart = absurd (apart refl refl)
swap true false x y o apart = refl
swap false c x y o apart = refl

not_both : (k l m : List ℕ) → slice_cmp nat_cmp l m ≡ Greater → pointwise nat_eq l k ≡ true → pointwise nat_eq m k ≡ true → ⊥
not_both k l m is a b =
    true≢false (sym ((bytes_decides l m).1 ((bytes_decides l k).0 a ∙ sym ((bytes_decides m k).0 b))) ∙ texts_ties l m ∙ ap is_eq is)

-- of a name that was put, the member that was put is found
find-put : (k l : List ℕ) (d : Data) (ms : Members) → find (named k) (members_of (put l d ms)) ≡ cond (pointwise nat_eq l k) (Some (record { name = l; value = d })) (find (named k) (members_of ms))
find-put k l d no_members = refl
find-put k l d (serde.member m e ms) = by (slice_cmp nat_cmp l m) refl (find-put k l d ms)
  where
    by : (o : Ordering) → slice_cmp nat_cmp l m ≡ o → find (named k) (members_of (put l d ms)) ≡ cond (pointwise nat_eq l k) (Some (record { name = l; value = d })) (find (named k) (members_of ms)) →
        find (named k) (members_of (match_ordering o (serde.member l d (serde.member m e ms)) (serde.member m d ms) (serde.member m e (put l d ms))))
        ≡ cond (pointwise nat_eq l k) (Some (record { name = l; value = d })) (cond (pointwise nat_eq m k) (Some (record { name = m; value = e })) (find (named k) (members_of ms)))
    by Less is rest = refl
    by Equal is rest =
        ap (λ n. cond (pointwise nat_eq n k) (Some (record { name = n; value = d })) (find (named k) (members_of ms))) (sym (same_of_equal l m is))
        ∙ skip (pointwise nat_eq l k) (pointwise nat_eq m k) (record { name = l; value = d }) (record { name = m; value = e }) (find (named k) (members_of ms)) (ap (λ t. pointwise nat_eq t k) (sym (same_of_equal l m is)))
    by Greater is rest =
        ap (λ o. cond (pointwise nat_eq m k) (Some (record { name = m; value = e })) o) rest
        ∙ swap (pointwise nat_eq l k) (pointwise nat_eq m k) (record { name = l; value = d }) (record { name = m; value = e }) (find (named k) (members_of ms)) (not_both k l m is)

or_cond : (o : Option Member) (b : Bool) (x : Member) (q : Option Member) → option_or o (cond b (Some x) q) ≡ option_or (option_or o (cond b (Some x) None)) q
or_cond None true x q = refl
or_cond None false x q = refl
or_cond (Some y) b x q = refl

map_append : (xs ys : List Keyed) → map as_member (xs ++ ys) ≡ map as_member xs ++ map as_member ys
map_append [] ys = refl
map_append (x ∷ xs) ys = ap (λ l. as_member x ∷ l) (map_append xs ys)

-- the last one of a name is found, and where there is none, what was found before
find-put_texts : (k : List ℕ) (ps : List Keyed) (found : Members) → find (named k) (members_of (put_texts ps found)) ≡ option_or (find (named k) (map as_member (reverse ps))) (find (named k) (members_of found))
find-put_texts k [] found = refl
find-put_texts k (p ∷ ps) found =
    find-put_texts k ps (put p.key (serde.string p.text) found)
    ∙ ap (option_or (find (named k) (map as_member (reverse ps)))) (find-put k p.key (serde.string p.text) found)
    ∙ or_cond (find (named k) (map as_member (reverse ps))) (pointwise nat_eq p.key k) (as_member p) (find (named k) (members_of found))
    ∙ ap (λ o. option_or o (find (named k) (members_of found))) (
    sym (find-append (named k) (map as_member (reverse ps)) (as_member p ∷ []))
    ∙ ap (find (named k)) (sym (map_append (reverse ps) (p ∷ [])) ∙ ap (map as_member) (sym (reverse_onto ps p [])))
    )

put_texts_rise : (ps : List Keyed) (found : Members) → Rises Before (names_of found) → Rises Before (names_of (put_texts ps found))
put_texts_rise [] found h = h
put_texts_rise (p ∷ ps) found h = put_texts_rise ps (put p.key (serde.string p.text) found) (put_rises p.key (serde.string p.text) found h)

none_rise : Rises Before (names_of no_members)
unfolding Rises
none_rise = tt

-- ---- in order

mapped : (k : List ℕ) (zs : List Keyed) → find (named k) (map as_member zs) ≡ option_map as_member (find (has_text key_of k) zs)
mapped k [] = refl
mapped k (z ∷ zs) = by (pointwise nat_eq z.key k) (mapped k zs)
  where
    by : (b : Bool) → find (named k) (map as_member zs) ≡ option_map as_member (find (has_text key_of k) zs)
        → cond b (Some (as_member z)) (find (named k) (map as_member zs)) ≡ option_map as_member (cond b (Some z) (find (has_text key_of k) zs))
    by true rest = refl
    by false rest = rest

find_as : (k : List ℕ) (xs ys : List Keyed) → find (has_text key_of k) xs ≡ find (has_text key_of k) ys → find (named k) (map as_member xs) ≡ find (named k) (map as_member ys)
find_as k xs ys e = mapped k xs ∙ ap (option_map as_member) e ∙ sym (mapped k ys)

names_as : (xs : List Keyed) → map (λ (m : Member). m.name) (map as_member xs) ≡ map key_of xs
names_as [] = refl
names_as (x ∷ xs) = ap (λ l. x.key ∷ l) (names_as xs)

or_none : (o : Option Member) → option_or o None ≡ o
or_none None = refl
or_none (Some x) = refl

pub kept-put_texts : (ps turned sorted : List Keyed) → turned ≡ reverse ps → IsSortedBy (is_before key_of) sorted → IsStableBy (is_before key_of) turned sorted
    → map as_member (dedup (is_same key_of) sorted) ≡ members_of (put_texts ps no_members)
kept-put_texts ps turned sorted is up stable =
    rising_found (λ (m : Member). m.name) _ _ (subst (Rises Before) (sym (names_as _)) (rises-kept key_of sorted up)) (put_texts_rise ps no_members none_rise) (λ k.
    find_as k _ turned (find-kept key_of (record { key = k; text = [] }) turned sorted stable) ∙ ap (λ l. find (named k) (map as_member l)) is
    ∙ sym (or_none (find (named k) (map as_member (reverse ps)))) ∙ sym (find-put_texts k ps no_members)
    )

-- ---- what members of texts are

no_other : (xs : List Keyed) → find (λ m. is_none (keyed m)) (map as_member xs) ≡ None
no_other [] = refl
no_other (x ∷ xs) = no_other xs

same_keyed : (xs : List Keyed) → filter_map keyed (map as_member xs) ≡ xs
same_keyed [] = refl
same_keyed (x ∷ xs) = ap (λ l. x ∷ l) (same_keyed xs)

short : (n : ℕ) (xs : List Keyed) → All (λ m. length m.name < n) (map as_member xs) → All (λ p. length p.key < n) xs
short n [] h = All-nil (λ (p : Keyed). length p.key < n)
short n (x ∷ xs) h = All-cons (λ (p : Keyed). length p.key < n) x xs (All-head (λ (m : Member). length m.name < n) (as_member x) (map as_member xs) h) (short n xs (All-tail (λ (m : Member). length m.name < n) (as_member x) (map as_member xs) h))

module _ (xs : List Keyed) (ms : List Member) (are : map as_member xs ≡ ms) where
  pub texts_alone : find (λ m. is_none (keyed m)) ms ≡ None
  texts_alone = ap (find (λ m. is_none (keyed m))) (sym are) ∙ no_other xs

  pub keyed_back : filter_map keyed ms ≡ xs
  keyed_back = ap (filter_map keyed) (sym are) ∙ same_keyed xs

  pub short_keys : (n : ℕ) → All (λ m. length m.name < n) ms → All (λ p. length p.key < n) xs
  short_keys n h = short n xs (subst (All (λ m. length m.name < n)) (sym are) h)
