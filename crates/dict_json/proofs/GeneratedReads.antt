-- A generated dictionary reads as one without skipped or folded keys.
use Rattle.std.proofs.Common.{ℕ, zero, suc, ◌≡◌, ◌<◌, ◌≤◌, ◌+◌, ◌^◌, List, [], ◌∷◌, Bool, true, false, cond, length, map, filter, filter_map, find, fold, refl, sym, ap, subst, ◌∙◌, arith, Some, None, Option, is_none, is_some, option_map, ◌&&◌, Contains, Ordering, Less, Equal, Greater, inl, inr}
use Rattle.std.specs.List.{AllByRecursion, cons_option, range_with_len}
use Rattle.std.specs.Ordering.{nat_cmp, match_ordering}
use Rattle.std.specs.Cmp.Lexicographic.{slice_cmp, nat_list_cmp_total}
use Rattle.std.proofs.lemmas.Bool.{le-ltb}
use Rattle.std.proofs.lemmas.List.{length-map}
use Rattle.serde_json.specs.Data.{string, object, Members, no_members, member, put}
use Rattle.serde_json.specs.Find.{as_str}
use Rattle.steno_rules.specs.Outlines.{most_strokes, outline_cmp}
use Rattle.steno_rules.specs.Nodes.{insert_new, in_order}
use Rattle.steno_rules.proofs.Lists.{in_cons, in_first, in_later, in_map, none_in_nil}
use Rattle.steno_rules.proofs.Rising.{Rises, rises_of_pairs, below_itself}
use Rattle.steno_order.specs.Reading.{spelt_strokes}
use Rattle.steno_order.specs.Spelling.{parts_of}
use Rattle.steno_order.specs.Canonical.{canonical_text}
use Rattle.dict_json.specs.Reading.{Member, Keyed, keyed, members_of, names_of, reading}
use Rattle.dict_json.specs.Dictionaries.{DictionaryView, IsWhole, entry_outlines, spelt, last_of_each, skipped_of, dictionary_of}
use Rattle.dict_json.specs.Outcomes.{is_too_long, keys_outcome, members_outcome, object_outcome, value_outcome, dictionary_outcome, dictionary}
use Rattle.dict_json.specs.Generated.{most_generated, first_draw, key_of, is_new, generated_text}
use Rattle.dict_json.proofs.Distinct.{AreDistinct, in_order-length}
use Rattle.steno_rules.proofs.InOrder.{in_order-rising, in_order-Contains}
use Rattle.dict_json.proofs.GeneratedKeys.{IsCanonicalKey, key_canonical}
use Rattle.dict_json.proofs.GeneratedTokens.{value_of, with_members, read_object}
use Rattle.dict_json.proofs.KeyOrder.{put_names}
use Rattle.dict_json.proofs.Parts.{spelt_strokes-length}
use Rattle.dict_json.proofs.ReadingLemmas.{reading-of_text}
use Rattle.serde_json.proofs.OnLiterals.{serde_json_on_literals}
use Rattle.std.specs.Str.{IsUtf8, is_utf8, chars}

-- ---- names and values

-- each value is a text
abbrev AreTexts : List Member → Type 0
AreTexts ms = AllByRecursion (λ m. is_none (as_str m.value) ≡ false) ms

put_texts : (k text : List ℕ) (ms : Members) → AreTexts (members_of ms) → AreTexts (members_of (put k (string text) ms))
put_texts k text no_members h = (refl, tt)
put_texts k text (member l e ms) h = by (slice_cmp nat_cmp k l) (put_texts k text ms h.1)
  where
    by : (o : Ordering) → AreTexts (members_of (put k (string text) ms)) → AreTexts (members_of (match_ordering o (member k (string text) (member l e ms)) (member l (string text) ms) (member l e (put k (string text) ms))))
    by Less rest = (refl, h)
    by Equal rest = (refl, h.1)
    by Greater rest = (h.0, rest)

with_names : (start : ℕ) (is : List ℕ) (found : Members) → names_of (with_members start is found) ≡ fold insert_new (names_of found) (map (key_of start) is)
with_names start [] found = refl
with_names start (i ∷ is) found = with_names start is (put (key_of start i) (string (value_of i)) found) ∙ ap (λ ns. fold insert_new ns (map (key_of start) is)) (put_names (key_of start i) (string (value_of i)) found)

with_texts : (start : ℕ) (is : List ℕ) (found : Members) → AreTexts (members_of found) → AreTexts (members_of (with_members start is found))
with_texts start [] found h = h
with_texts start (i ∷ is) found h = with_texts start is (put (key_of start i) (string (value_of i)) found) (put_texts (key_of start i) (value_of i) found h)

all_members : (P : List ℕ → Type 0) (xs : List (List ℕ)) → ((x : List ℕ) → Contains xs x → P x) → AllByRecursion P xs
all_members P [] h = tt
all_members P (x ∷ xs) h = (h x (in_first x xs), all_members P xs (λ y has. h y (in_later x xs y has)))

-- ---- keys

-- rising names, each the canonical text of an outline, with texts
record AreKeys (pairs : List Keyed) : Type 0 where
  rising : Rises (λ a b. outline_cmp a b ≡ Less) (map (λ p. p.key) pairs)
  canonical : AllByRecursion IsCanonicalKey (map (λ p. p.key) pairs)

none_skipped : (pairs : List Keyed) → AllByRecursion IsCanonicalKey (map (λ p. p.key) pairs) → skipped_of pairs ≡ []
none_skipped [] h = refl
none_skipped (p ∷ ps) h = ap (λ o. map (λ (q : Keyed). q.key) (cond (is_none o) (p ∷ filter (λ q. is_none (spelt_strokes q.key)) ps) (filter (λ q. is_none (spelt_strokes q.key)) ps))) h.0.spells ∙ none_skipped ps h.1

none_long : (pairs : List Keyed) → AllByRecursion IsCanonicalKey (map (λ p. p.key) pairs) → find is_too_long pairs ≡ None
none_long [] h = refl
none_long (p ∷ ps) h =
    let short = le-ltb most_strokes (length (parts_of p.key)) (omega (arith, h.0.few, spelt_strokes-length p.key h.0.strokes h.0.spells)) in
    ap (λ b. cond (b && is_some (spelt_strokes p.key)) (Some p) (find is_too_long ps)) short ∙ none_long ps h.1

spelt_first : (p : Keyed) (ps : List Keyed) (strokes : List ℕ) → spelt_strokes p.key ≡ Some strokes → spelt (p ∷ ps) ≡ record { outline = strokes; text = p.text } ∷ spelt ps
spelt_first p ps strokes spells = ap (λ o. cons_option (option_map (λ s. record { outline = s; text = p.text }) o) (spelt ps)) spells

-- an outline that is there has its canonical text among the keys
spelt_from : (pairs : List Keyed) (outline : List ℕ) → AllByRecursion IsCanonicalKey (map (λ p. p.key) pairs) → Contains (entry_outlines (spelt pairs)) outline → Contains (map (λ p. p.key) pairs) (canonical_text outline)
spelt_from [] outline h has = absurd (none_in_nil outline has)
spelt_from (p ∷ ps) outline h has =
    elim (in_cons h.0.strokes (entry_outlines (spelt ps)) outline (subst (λ es. Contains (entry_outlines es) outline) (spelt_first p ps h.0.strokes h.0.spells) has)) [
      | inl is ↦ subst (Contains (p.key ∷ map (λ q. q.key) ps)) (sym h.0.written ∙ ap canonical_text is) (in_first p.key (map (λ q. q.key) ps))
      | inr later ↦ in_later p.key (map (λ q. q.key) ps) (canonical_text outline) (spelt_from ps outline h.1 later)
    ]

not_later : (x : List ℕ) (xs : List (List ℕ)) → AllByRecursion (λ y. outline_cmp x y ≡ Less) xs → Contains xs x → ⊥
not_later x [] all has = none_in_nil x has
not_later x (y ∷ ys) all has = elim (in_cons y ys x has) [
  | inl is ↦ below_itself outline_cmp nat_list_cmp_total x (subst (λ l. outline_cmp x l ≡ Less) is all.0)
  | inr later ↦ not_later x ys all.1 later
]

spelt_distinct : (pairs : List Keyed) → AreKeys pairs → AreDistinct (entry_outlines (spelt pairs))
unfolding Rises
spelt_distinct [] h = tt
spelt_distinct (p ∷ ps) h =
    let first = h.canonical.0 in
    subst (λ es. AreDistinct (entry_outlines es)) (sym (spelt_first p ps first.strokes first.spells)) (
      λ has. not_later p.key (map (λ q. q.key) ps) h.rising.0 (subst (Contains (map (λ q. q.key) ps)) first.written (spelt_from ps first.strokes h.canonical.1 has)),
      spelt_distinct ps (record { rising = h.rising.1; canonical = h.canonical.1 }),
    )

keys_whole : (pairs : List Keyed) → AreKeys pairs → IsWhole (dictionary_of pairs)
keys_whole pairs h =
    let es = spelt pairs in
    let made : length (last_of_each es) ≡ length (in_order (entry_outlines es)) = length-map (in_order (entry_outlines es)) _ in
    let outlines : length (entry_outlines es) ≡ length es = length-map es _ in
    record { none_skipped = none_skipped pairs h.canonical; none_folded = omega (arith, made, outlines, in_order-length (entry_outlines es) (spelt_distinct pairs h)) }

-- ---- members

-- members whose values are texts are pairs of their names and these
texts_found : (ms : List Member) → AreTexts ms → (find (λ m. is_none (keyed m)) ms ≡ None) × (map (λ (p : Keyed). p.key) (filter_map keyed ms) ≡ map (λ (m : Member). m.name) ms)
texts_found [] h = (refl, refl)
texts_found (m ∷ ms) h = by (as_str m.value) h.0 (texts_found ms h.1)
  where
    by : (o : Option (List ℕ)) → is_none o ≡ false → (find (λ m. is_none (keyed m)) ms ≡ None) × (map (λ (p : Keyed). p.key) (filter_map keyed ms) ≡ map (λ (m : Member). m.name) ms) →
        (cond (is_none {T = Keyed} (option_map (λ text. record { key = m.name; text = text }) o)) (Some m) (find (λ m. is_none (keyed m)) ms) ≡ None)
        × (map (λ (p : Keyed). p.key) (cons_option (option_map (λ text. record { key = m.name; text = text }) o) (filter_map keyed ms)) ≡ m.name ∷ map (λ (m : Member). m.name) ms)
    by None e rest = absurd (cc)
    by (Some text) e rest = (rest.0, ap (λ ns. m.name ∷ ns) rest.1)

members_whole : (ms : Members) → AreTexts (members_of ms) → Rises (λ a b. outline_cmp a b ≡ Less) (names_of ms) → AllByRecursion IsCanonicalKey (names_of ms) → (d : DictionaryView) × (object_outcome (Some ms) ≡ dictionary d) × IsWhole d
members_whole ms texts rising canonical =
    let found = texts_found (members_of ms) texts in
    let pairs = filter_map keyed (members_of ms) in
    let keys : AreKeys pairs = record { rising = subst (Rises (λ a b. outline_cmp a b ≡ Less)) (sym found.1) rising; canonical = subst (AllByRecursion IsCanonicalKey) (sym found.1) canonical } in
    (dictionary_of pairs, ap (members_outcome (members_of ms)) found.0 ∙ ap (keys_outcome pairs) (none_long pairs keys.canonical), keys_whole pairs keys)

members_made : (start : ℕ) (is : List ℕ) → (d : DictionaryView) × (object_outcome (Some (with_members start is no_members)) ≡ dictionary d) × IsWhole d
members_made start is =
    let ms = with_members start is no_members in
    let keys = map (key_of start) is in
    let same : names_of ms ≡ in_order keys = with_names start is no_members in
    let is_key = λ (name : List ℕ) (has : Contains (in_order keys) name). (let found = in_map (key_of start) is name ((in_order-Contains keys name).0 has) in subst IsCanonicalKey found.2 (key_canonical (first_draw start found.0))) in
    members_whole ms (with_texts start is no_members tt) (subst (Rises (λ a b. outline_cmp a b ≡ Less)) (sym same) (rises_of_pairs (λ a b. outline_cmp a b ≡ Less) (in_order keys) (in_order-rising keys)))
    (subst (AllByRecursion IsCanonicalKey) (sym same) (all_members IsCanonicalKey (in_order keys) is_key))

-- ---- the text

numbers_small : (start a n most : ℕ) → a + n ≤ most → AllByRecursion (λ j. j < most) (filter (is_new start) (range_with_len a n))
numbers_small start a zero most le = tt
numbers_small start a (suc n) most le = by (is_new start a) (numbers_small start (a + 1) n most (omega (arith, le)))
  where
    by : (b : Bool) → AllByRecursion (λ j. j < most) (filter (is_new start) (range_with_len (a + 1) n)) → AllByRecursion (λ j. j < most) (cond b (a ∷ filter (is_new start) (range_with_len (a + 1) n)) (filter (is_new start) (range_with_len (a + 1) n)))
    by true rest = (omega (arith, le), rest)
    by false rest = rest

pub generated_whole : (start count : ℕ) → count ≤ most_generated → IsUtf8 (generated_text start count) → (d : DictionaryView) × (dictionary_outcome (generated_text start count) ≡ dictionary d) × IsWhole d
unfolding reading serde_json_on_literals is_utf8 chars
generated_whole start zero le utf8 = (record { entries = []; skipped = []; folded = 0 }, refl, record { none_skipped = refl; none_folded = refl })
generated_whole start (suc n) le utf8 =
    let is = 0 ∷ filter (is_new start) (range_with_len 1 n) in
    let made = members_made start is in
    let all = reading-of_text (generated_text start (suc n)) (object (with_members start is no_members)) utf8 (read_object start 0 (filter (is_new start) (range_with_len 1 n)) (numbers_small start 0 (suc n) (2 ^ 64) (omega (arith, le)))) in
    (made.0, ap value_outcome all ∙ made.1, made.2)
