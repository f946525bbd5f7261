-- Each value is that of a report or of none.
use Rattle.std.proofs.Common.{ℕ, ◌≡◌, ◌≤◌, ◌⊎◌, ◌∙◌, List, [], ◌∷◌, All, Bool, true, false, Option, Some, None, ap, ap₂, arith, codes, inl, inr, length, map, refl, sym, true≢false, bytes_eq}
use Rattle.std.specs.Prelude.{⊤}
use Rattle.std.proofs.lemmas.Bool.{cases_lt}
use Rattle.std.proofs.lemmas.List.{length-map}
use Rattle.std.proofs.lemmas.List.Elements.{All-cons, All-head, All-nil, All-tail}
use Rattle.std.proofs.lemmas.Slice.Eq.{bytes_eq-Decides}
use Rattle.serde_json.specs.Data.{Data, Items, Members, array, boolean, float, item, member, negative, no_items, no_members, null, number, object, string, unsigned}
use Rattle.serde_json.specs.View.{items_of}
use Rattle.steno_rules.specs.Outlines.{IsOutline}
use Rattle.steno_order.specs.Canonical.{canonical_text}
use Rattle.steno_order.specs.Reading.{spelt_strokes}
use Rattle.steno_order.proofs.ListLaws.{spelt_strokes-IsOutline}
use Rattle.report_json.specs.JsonFaults.{IsOtherValue}
use Rattle.report_json.specs.JsonReports.{IsJsonReport, IsJsonRow, JsonReportView, JsonRowView, number_value, outline_value, report_value, row_value}
use Rattle.report_json.specs.ReadOutcomes.{IsOfReport, IsReadOutcome, ReadOutcome, a_report, another_value, no_value}
use Rattle.report_json.specs.inside.Readings.{AreRowWords, IsWithin, report_object, row_object, rows_value, words_value}
use Rattle.report_json.proofs.CanonicalTexts.{same_strokes, spelt}
use Rattle.report_json.proofs.PartsOf.{report_has_entries, report_has_folded, report_has_rounds, report_has_rows, report_has_skipped, report_has_states, report_has_strokes, row_has_outline, row_has_place, row_has_strokes, row_has_words}
use Rattle.report_json.proofs.Refusals.{array_same}
use Rattle.report_json.proofs.SameReports.{same_numbers, same_reports}

abbrev Decision : Type 0 → Type 0
Decision P = P ⊎ (P → ⊥)

decided : {P Q : Type 0} → (P → Q) → (Q → P) → Decision P → Decision Q
decided to from (inl p) = inl (to p)
decided to from (inr never) = inr (λ q. never (from q))

both : {P Q : Type 0} → Decision P → Decision Q → Decision (P × Q)
both (inl p) (inl q) = inl (p, q)
both (inl p) (inr never) = inr (λ h. never h.1)
both (inr never) other = inr (λ h. never h.0)

-- the value is made of one of these
abbrev IsMade : {A V : Type 0} → (A → Type 0) → (A → V) → V → Type 0
IsMade {A} Is made value = (a : A) × (Is a × (value ≡ made a))

-- ---- numbers

number_made : (least most : ℕ) (value : Data) → Decision (IsMade (IsWithin least most) number_value value)
number_made least most null = inr (λ h. let e = h.1.1 in cc)
number_made least most (boolean b) = inr (λ h. let e = h.1.1 in cc)
number_made least most (number (negative z)) = inr (λ h. let e = h.1.1 in cc)
number_made least most (number (float x)) = inr (λ h. let e = h.1.1 in cc)
number_made least most (string s) = inr (λ h. let e = h.1.1 in cc)
number_made least most (array ds) = inr (λ h. let e = h.1.1 in cc)
number_made least most (object ms) = inr (λ h. let e = h.1.1 in cc)
number_made least most (number (unsigned n)) = elim (cases_lt n least) [
  | inl below ↦ inr (λ h. let e = same_numbers n h.0 h.1.1 in let enough = h.1.0.at_least in absurd (omega (arith, e, enough, below)))
  | inr enough ↦ elim (cases_lt most n) [
    | inl above ↦ inr (λ h. let e = same_numbers n h.0 h.1.1 in let fits = h.1.0.at_most in absurd (omega (arith, e, fits, above)))
    | inr fits ↦ inl (n, (record { at_least = enough; at_most = fits }, refl))
  ]
]

-- ---- outlines

texts_same : (s t : List ℕ) → string s ≡ string t → s ≡ t
texts_same s t e = cc

not_spelt : (s a : List ℕ) → spelt_strokes s ≡ None → IsOutline a → s ≡ canonical_text a → ⊥
not_spelt s a none is e =
    let other = spelt s a is e in
    cc

spelt_made : (s strokes : List ℕ) → spelt_strokes s ≡ Some strokes → length strokes ≤ 64 → Decision (canonical_text strokes ≡ s) → Decision (IsMade IsOutline outline_value (string s))
spelt_made s strokes e short (inl same) = inl (strokes, (spelt_strokes-IsOutline s strokes e short, ap string (sym same)))
spelt_made s strokes e short (inr other) = inr (λ h.
    let text = texts_same s (canonical_text h.0) h.1.1 in
    other (ap canonical_text (same_strokes s h.0 strokes e h.1.0 text) ∙ sym text))

texts_equal : (a b : List ℕ) → Decision (a ≡ b)
texts_equal a b = by (bytes_eq a b) refl
  where
    by : (t : Bool) → bytes_eq a b ≡ t → Decision (a ≡ b)
    by true e = inl ((bytes_eq-Decides a b).0 e)
    by false e = inr (λ same. true≢false (sym ((bytes_eq-Decides a b).1 same) ∙ e))

outline_of_text : (s : List ℕ) (o : Option (List ℕ)) → spelt_strokes s ≡ o → Decision (IsMade IsOutline outline_value (string s))
outline_of_text s None e = inr (λ h. not_spelt s h.0 e h.1.0 (texts_same s (canonical_text h.0) h.1.1))
outline_of_text s (Some strokes) e = elim (cases_lt 64 (length strokes)) [
  | inl long ↦ inr (λ h.
      let same = same_strokes s h.0 strokes e h.1.0 (texts_same s (canonical_text h.0) h.1.1) in
      let fits = h.1.0.at_most in
      absurd (omega (arith, ap length same, fits, long)))
  | inr short ↦ spelt_made s strokes e short (texts_equal (canonical_text strokes) s)
]

outline_made : (value : Data) → Decision (IsMade IsOutline outline_value value)
outline_made null = inr (λ h. let e = h.1.1 in cc)
outline_made (boolean b) = inr (λ h. let e = h.1.1 in cc)
outline_made (number n) = inr (λ h. let e = h.1.1 in cc)
outline_made (array ds) = inr (λ h. let e = h.1.1 in cc)
outline_made (object ms) = inr (λ h. let e = h.1.1 in cc)
outline_made (string s) = outline_of_text s (spelt_strokes s) refl

-- ---- lists

first_made : {A : Type 0} (Is : A → Type 0) (made : A → Data) (value : Data) (values : List Data) (xs : List A) → All Is xs → value ∷ values ≡ map made xs → IsMade Is made value
first_made Is made value values [] are e = absurd cc
first_made Is made value values (x ∷ xs) are e =
    let same : value ≡ made x = cc in
    (x, (All-head Is x xs are, same))

rest_made : {A : Type 0} (Is : A → Type 0) (made : A → Data) (value : Data) (values : List Data) (xs : List A) → All Is xs → value ∷ values ≡ map made xs → IsMade (All Is) (map made) values
rest_made Is made value values [] are e = absurd cc
rest_made Is made value values (x ∷ xs) are e =
    let same : values ≡ map made xs = cc in
    (xs, (All-tail Is x xs are, same))

list_made : {A : Type 0} (Is : A → Type 0) (made : A → Data) → ((value : Data) → Decision (IsMade Is made value)) → (values : List Data) → Decision (IsMade (All Is) (map made) values)
list_made Is made each [] = inl ([], (All-nil Is, refl))
list_made Is made each (value ∷ values) =
    decided (λ h. (h.0.0 ∷ h.1.0, (All-cons Is h.0.0 h.1.0 h.0.1.0 h.1.1.0, ap₂ (λ (v : Data) (vs : List Data). v ∷ vs) h.0.1.1 h.1.1.1)))
    (λ h. (first_made Is made value values h.0 h.1.0 h.1.1, rest_made Is made value values h.0 h.1.0 h.1.1)) (both (each value) (list_made Is made each values))

list_of : Items → List Data
list_of no_items = []
list_of (item d ds) = d ∷ list_of ds

items_back : (ds : Items) → items_of (list_of ds) ≡ ds
unfolding list_of
items_back no_items = refl
items_back (item d ds) = ap (item d) (items_back ds)

array_made : {A : Type 0} (Is : A → Type 0) (made : A → Data) → ((value : Data) → Decision (IsMade Is made value)) → (value : Data) → Decision (IsMade (All Is) (λ (xs : List A). array (items_of (map made xs))) value)
array_made Is made each null = inr (λ h. let e = h.1.1 in cc)
array_made Is made each (boolean b) = inr (λ h. let e = h.1.1 in cc)
array_made Is made each (number n) = inr (λ h. let e = h.1.1 in cc)
array_made Is made each (string s) = inr (λ h. let e = h.1.1 in cc)
array_made Is made each (object ms) = inr (λ h. let e = h.1.1 in cc)
array_made Is made each (array ds) =
    decided (λ h. (h.0, (h.1.0, ap array (sym (items_back ds) ∙ ap items_of h.1.1))))
    (λ h. (h.0, (h.1.0, array_same (list_of ds) (map made h.0) (ap array (items_back ds) ∙ h.1.1)))) (list_made Is made each (list_of ds))

same_count : (xs ys : List (List ℕ)) → words_value xs ≡ words_value ys → length xs ≡ length ys
same_count xs ys e = omega (arith, ap length (array_same (map outline_value xs) (map outline_value ys) e), length-map xs outline_value, length-map ys outline_value)

words_made : (value : Data) → Decision (IsMade AreRowWords words_value value)
words_made value = elim (array_made IsOutline outline_value outline_made value) [
  | inr never ↦ inr (λ h. never (h.0, (h.1.0.are, h.1.1)))
  | inl found ↦ elim (cases_lt 0 (length found.0)) [
    | inl some ↦ inl (found.0, (record { some = some; are = found.1.0 }, found.1.1))
    | inr none ↦ inr (λ h. let some = h.1.0.some in absurd (omega (arith, some, none, same_count h.0 found.0 (sym h.1.1 ∙ found.1.1))))
  ]
]

-- ---- members

-- values for these names, and the members that they make
abbrev Values : List (List ℕ) → Type 0
Values [] = ⊤
Values (name ∷ names) = Data × Values names

abbrev members_from : (names : List (List ℕ)) → Values names → Members
members_from [] values = no_members
members_from (name ∷ names) values = member name values.0 (members_from names values.1)

names_same : (m n : List ℕ) (a b : Data) (r s : Members) → member m a r ≡ member n b s → m ≡ n
names_same m n a b r s e = cc

rests_same : (m n : List ℕ) (a b : Data) (r s : Members) → member m a r ≡ member n b s → r ≡ s
rests_same m n a b r s e = cc

abbrev HasNames : List (List ℕ) → Members → Type 0
HasNames names ms = (values : Values names) × (ms ≡ members_from names values)

named : (names : List (List ℕ)) (ms : Members) → Decision (HasNames names ms)
named [] no_members = inl (tt, refl)
named [] (member other value rest) = inr (λ h. let e = h.1 in cc)
named (name ∷ names) no_members = inr (λ h. let e = h.1 in cc)
named (name ∷ names) (member other value rest) =
    decided (λ h. ((value, h.1.0), ap₂ (λ (n : List ℕ) (r : Members). member n value r) h.0 h.1.1))
    (λ h. (names_same other name value h.0.0 rest (members_from names h.0.1) h.1, (h.0.1, rests_same other name value h.0.0 rest (members_from names h.0.1) h.1)))
    (both (texts_equal other name) (named names rest))

members_same : (a b : Members) → object a ≡ object b → a ≡ b
members_same a b e = cc

-- ---- rows

abbrev row_names : List (List ℕ)
row_names = codes "outline" ∷ codes "place" ∷ codes "strokes" ∷ codes "words" ∷ []

abbrev ArePartsOfRow : Data → Data → Data → Data → Type 0
ArePartsOfRow outline place strokes words =
    IsMade IsOutline outline_value outline × (IsMade (IsWithin 1 63) number_value place × (IsMade (IsWithin 0 4294967295) number_value strokes × IsMade AreRowWords words_value words))

row_of_parts : (outline place strokes words : Data) → ArePartsOfRow outline place strokes words → IsMade IsJsonRow row_value (row_object outline place strokes words)
row_of_parts outline place strokes words h =
    let place_least = h.1.0.1.0.at_least in
    let place_most = h.1.0.1.0.at_most in
    let strokes_most = h.1.1.0.1.0.at_most in
    let row : JsonRowView = record { outline = h.0.0; place = h.1.0.0; strokes = h.1.1.0.0; words = h.1.1.1.0 } in
    let is : IsJsonRow row = record {
      outline = h.0.1.0;
      inner = omega (arith, place_least);
      place = omega (arith, place_most);
      strokes = omega (arith, strokes_most);
      some_word = h.1.1.1.1.0.some;
      words = h.1.1.1.1.0.are;
    } in
    (row, (is, λ i. row_object (h.0.1.1 i) (h.1.0.1.1 i) (h.1.1.0.1.1 i) (h.1.1.1.1.1 i)))

row_object_made : (outline place strokes words : Data) → Decision (IsMade IsJsonRow row_value (row_object outline place strokes words))
row_object_made outline place strokes words =
    decided (row_of_parts outline place strokes words)
    (λ h. (
      row_has_outline outline place strokes words h.0 h.1.0 h.1.1,
      (row_has_place outline place strokes words h.0 h.1.0 h.1.1, (row_has_strokes outline place strokes words h.0 h.1.0 h.1.1, row_has_words outline place strokes words h.0 h.1.0 h.1.1)),
    ))
    (both (outline_made outline) (both (number_made 1 63 place) (both (number_made 0 4294967295 strokes) (words_made words))))

row_of_members : (ms : Members) → Decision (HasNames row_names ms) → Decision (IsMade IsJsonRow row_value (object ms))
row_of_members ms (inr never) = inr (λ h. never (
  (outline_value h.0.outline, (number_value h.0.place, (number_value h.0.strokes, (words_value h.0.words, tt)))),
  members_same ms _ h.1.1,
))
row_of_members ms (inl found) =
    decided (λ h. (h.0, (h.1.0, ap object found.1 ∙ h.1.1))) (λ h. (h.0, (h.1.0, sym (ap object found.1) ∙ h.1.1)))
    (row_object_made found.0.0 found.0.1.0 found.0.1.1.0 found.0.1.1.1.0)

row_made : (value : Data) → Decision (IsMade IsJsonRow row_value value)
row_made null = inr (λ h. let e = h.1.1 in cc)
row_made (boolean b) = inr (λ h. let e = h.1.1 in cc)
row_made (number n) = inr (λ h. let e = h.1.1 in cc)
row_made (string s) = inr (λ h. let e = h.1.1 in cc)
row_made (array ds) = inr (λ h. let e = h.1.1 in cc)
row_made (object ms) = row_of_members ms (named row_names ms)

-- ---- reports

abbrev report_names : List (List ℕ)
report_names = codes "conflicts" ∷ codes "entries" ∷ codes "folded" ∷ codes "rounds" ∷ codes "skipped" ∷ codes "states" ∷ codes "strokes" ∷ []

abbrev IsU32 : Data → Type 0
IsU32 value = IsMade (IsWithin 0 4294967295) number_value value

abbrev IsU64 : Data → Type 0
IsU64 value = IsMade (IsWithin 0 18446744073709551615) number_value value

abbrev ArePartsOfReport : Data → Data → Data → Data → Data → Data → Data → Type 0
ArePartsOfReport conflicts entries folded rounds skipped states strokes =
    IsMade (All IsJsonRow) rows_value conflicts × (IsU32 entries × (IsU64 folded × (IsU32 rounds × (IsU64 skipped × (IsU32 states × IsU32 strokes)))))

report_of_parts : (conflicts entries folded rounds skipped states strokes : Data) → ArePartsOfReport conflicts entries folded rounds skipped states strokes
    → IsMade IsJsonReport report_value (report_object conflicts entries folded rounds skipped states strokes)
report_of_parts conflicts entries folded rounds skipped states strokes h =
    let a = h.0 in
    let b = h.1.0 in
    let c = h.1.1.0 in
    let d = h.1.1.1.0 in
    let e = h.1.1.1.1.0 in
    let f = h.1.1.1.1.1.0 in
    let g = h.1.1.1.1.1.1 in
    let entries_most = b.1.0.at_most in
    let folded_most = c.1.0.at_most in
    let rounds_most = d.1.0.at_most in
    let skipped_most = e.1.0.at_most in
    let states_most = f.1.0.at_most in
    let strokes_most = g.1.0.at_most in
    let report : JsonReportView = record { entries = b.0; folded = c.0; rounds = d.0; skipped = e.0; states = f.0; strokes = g.0; rows = a.0 } in
    let is : IsJsonReport report = record {
      entries = omega (arith, entries_most);
      folded = omega (arith, folded_most);
      rounds = omega (arith, rounds_most);
      skipped = omega (arith, skipped_most);
      states = omega (arith, states_most);
      strokes = omega (arith, strokes_most);
      rows = a.1.0;
    } in
    (report, (is, λ i. report_object (a.1.1 i) (b.1.1 i) (c.1.1 i) (d.1.1 i) (e.1.1 i) (f.1.1 i) (g.1.1 i)))

parts_of_report : (conflicts entries folded rounds skipped states strokes : Data) → IsMade IsJsonReport report_value (report_object conflicts entries folded rounds skipped states strokes)
    → ArePartsOfReport conflicts entries folded rounds skipped states strokes
parts_of_report a b c d e f g h =
    let entries = report_has_entries a b c d e f g h.0 h.1.0 h.1.1 in
    let folded = report_has_folded a b c d e f g h.0 h.1.0 h.1.1 in
    let rounds = report_has_rounds a b c d e f g h.0 h.1.0 h.1.1 in
    let skipped = report_has_skipped a b c d e f g h.0 h.1.0 h.1.1 in
    let states = report_has_states a b c d e f g h.0 h.1.0 h.1.1 in
    let strokes = report_has_strokes a b c d e f g h.0 h.1.0 h.1.1 in
    (report_has_rows a b c d e f g h.0 h.1.0 h.1.1, (entries, (folded, (rounds, (skipped, (states, strokes))))))

report_object_made : (conflicts entries folded rounds skipped states strokes : Data) → Decision (IsMade IsJsonReport report_value (report_object conflicts entries folded rounds skipped states strokes))
report_object_made a b c d e f g =
    let u32 = number_made 0 4294967295 in
    let u64 = number_made 0 18446744073709551615 in
    decided (report_of_parts a b c d e f g) (parts_of_report a b c d e f g)
    (both (array_made IsJsonRow row_value row_made a) (both (u32 b) (both (u64 c) (both (u32 d) (both (u64 e) (both (u32 f) (u32 g)))))))

report_of_members : (ms : Members) → Decision (HasNames report_names ms) → Decision (IsMade IsJsonReport report_value (object ms))
report_of_members ms (inr never) = inr (λ h. never (
  (rows_value h.0.rows, (number_value h.0.entries, (number_value h.0.folded, (number_value h.0.rounds, (number_value h.0.skipped, (number_value h.0.states, (number_value h.0.strokes, tt))))))),
  members_same ms _ h.1.1,
))
report_of_members ms (inl found) =
    let v = found.0 in
    decided (λ h. (h.0, (h.1.0, ap object found.1 ∙ h.1.1))) (λ h. (h.0, (h.1.0, sym (ap object found.1) ∙ h.1.1)))
    (report_object_made v.0 v.1.0 v.1.1.0 v.1.1.1.0 v.1.1.1.1.0 v.1.1.1.1.1.0 v.1.1.1.1.1.1.0)

report_made : (value : Data) → Decision (IsMade IsJsonReport report_value value)
report_made null = inr (λ h. let e = h.1.1 in cc)
report_made (boolean b) = inr (λ h. let e = h.1.1 in cc)
report_made (number n) = inr (λ h. let e = h.1.1 in cc)
report_made (string s) = inr (λ h. let e = h.1.1 in cc)
report_made (array ds) = inr (λ h. let e = h.1.1 in cc)
report_made (object ms) = report_of_members ms (named report_names ms)

-- ---- outcomes

-- bytes come to something
pub some_outcome : (value : Option Data) → (outcome : ReadOutcome) × IsReadOutcome value outcome
some_outcome None = (no_value, refl)
some_outcome (Some value) = elim (report_made value) [
  | inl h ↦ (a_report h.0, record { is_report = h.1.0; is = ap Some h.1.1 })
  | inr never ↦ (another_value, record { there = value; is = refl; other = λ h. never (h.report, (h.is_report, h.is)) })
]

values_same : (a b : Data) → Some a ≡ Some b → a ≡ b
values_same a b e = cc

none_or_some : (a : Data) → None ≡ Some a → ⊥
none_or_some a e = cc

not_other : (value : Option Data) (report : JsonReportView) → IsOfReport value report → IsOtherValue value → ⊥
not_other value report h other = other.other (record { report = report; is_report = h.is_report; is = values_same other.there (report_value report) (sym other.is ∙ h.is) })

-- and to nothing else
pub one_outcome : (value : Option Data) (a b : ReadOutcome) → IsReadOutcome value a → IsReadOutcome value b → a ≡ b
one_outcome value (a_report r) (a_report s) h k = ap a_report (same_reports r s h.is_report k.is_report (values_same (report_value r) (report_value s) (sym h.is ∙ k.is)))
one_outcome value (a_report r) no_value h k = absurd (none_or_some (report_value r) (sym k ∙ h.is))
one_outcome value (a_report r) another_value h k = absurd (not_other value r h k)
one_outcome value no_value (a_report s) h k = absurd (none_or_some (report_value s) (sym h ∙ k.is))
one_outcome value no_value no_value h k = refl
one_outcome value no_value another_value h k = absurd (none_or_some k.there (sym h ∙ k.is))
one_outcome value another_value (a_report s) h k = absurd (not_other value s k h)
one_outcome value another_value no_value h k = absurd (none_or_some h.there (sym k ∙ h.is))
one_outcome value another_value another_value h k = refl
