-- One pair after another gets its row, where it is a conflict.
use Rattle.std.proofs.Common.{◌≡◌, ℕ, ◌+◌, ◌<◌, ◌≤◌, List, [], ◌∷◌, ◌++◌, length, All, sym, ap, subst, ◌∙◌, arith, inl, inr, ◌⊎◌, get_or}
use Rattle.std.proofs.lemmas.Bool.{cases_lt}
use Rattle.std.proofs.Math.ListN.{get_or-eq_default}
use Rattle.std.proofs.lemmas.List.{length_push}
use Rattle.std.proofs.lemmas.List.Elements.{All-push, Contains-append_left, Contains-push}
use Rattle.std.proofs.lemmas.List.Quantifiers.{all_pairs_push}
use Rattle.steno_rules.specs.Outlines.{IsOutline, outline_of}
use Rattle.steno_rules.specs.Conflicts.{Conflict}
use Rattle.longest_match.specs.Rows.{AreConflicts, AreSmall, IsBefore, Row}
use Rattle.conflict_example.specs.Chosen.{AreChosen}
use Rattle.conflict_example.specs.EntryConflicts.{AreConflictsOf}
use Rattle.conflict_example.specs.inside.FoundRows.{AreRowsBetween, IsFoundRow, IsPairBefore}
use Rattle.pair_slots.proofs.Slots.{few_slots, next_slots}

-- Before the first pair of an entry there is no row of that entry.
pub rows_none : (entries words : List (List ℕ)) (table : List ℕ) (from : ℕ) → AreRowsBetween entries words table from from 1 []
rows_none entries words table from = record {
  each = λ k d below. absurd (omega arith);
  since = λ k d below. absurd (omega arith);
  before = λ k d below. absurd (omega arith);
  all = λ f other since before conflict. elim before [
    | inl lt ↦ absurd (omega (arith, lt, since))
    | inr same ↦ absurd (omega (arith, same.1, conflict.shows.after_start))
  ];
  in_order = λ i j d l below. absurd (omega arith);
  few = omega arith;
}

-- what comes before the next place
next_place : (e place f other : ℕ) → IsPairBefore e (place + 1) f other → IsPairBefore e place f other ⊎ ((f ≡ e) × (other ≡ place))
next_place e place f other (inl lt) = inl (inl lt)
next_place e place f other (inr same) = elim (cases_lt other place) [
  | inl lt ↦ inl (inr (same.0, lt))
  | inr ge ↦ inr (same.0, omega (arith, same.1))
]

earlier_place : (e place f other : ℕ) → IsPairBefore e place f other → IsPairBefore e (place + 1) f other
earlier_place e place f other (inl lt) = inl lt
earlier_place e place f other (inr same) = inr (same.0, omega (arith, same.1))

-- A pair that is no conflict gets no row.
pub rows_without : (entries words : List (List ℕ)) (table : List ℕ) (from e place : ℕ) (rows : List Row) → (Conflict entries words e place → ⊥) →
    AreRowsBetween entries words table from e place rows → AreRowsBetween entries words table from e (place + 1) rows
rows_without entries words table from e place rows apart h = record {
  each = h.each;
  since = h.since;
  before = λ k d below. earlier_place e place _ _ (h.before k d below);
  all = λ f other since before conflict. elim (next_place e place f other before) [
    | inl earlier ↦ h.all f other since earlier conflict
    | inr same ↦ absurd (apart (subst (λ p. Conflict entries words e p) same.1 (subst (λ g. Conflict entries words g other) same.0 conflict)))
  ];
  in_order = h.in_order;
  few = omega (arith, h.few);
}

-- A conflict gets its row.
pub rows_with : (entries words : List (List ℕ)) (table : List ℕ) (from e place : ℕ) (rows : List Row) (row : Row) → 0 < place → from ≤ e →
    IsFoundRow entries words table row → row.entry ≡ e → row.place ≡ place →
    AreRowsBetween entries words table from e place rows → AreRowsBetween entries words table from e (place + 1) (rows ++ row ∷ [])
rows_with entries words table from e place rows row some within found entry_is place_is h = record {
  each = All-push (IsFoundRow entries words table) rows row h.each found;
  since = All-push (λ r. from ≤ r.entry) rows row h.since (omega (arith, within, entry_is));
  before = All-push (λ r. IsPairBefore e (place + 1) r.entry r.place) rows row (λ k d below. earlier_place e place _ _ (h.before k d below)) (inr (entry_is, omega (arith, place_is)));
  all = λ f other since before conflict. elim (next_place e place f other before) [
    | inl earlier ↦ let has = h.all f other since earlier conflict in record { row = has.row; there = Contains-append_left rows (row ∷ []) has.row has.there; entry_is = has.entry_is; place_is = has.place_is }
    | inr same ↦ record { row = row; there = Contains-push rows row; entry_is = entry_is ∙ sym same.0; place_is = place_is ∙ sym same.1 }
  ];
  in_order = all_pairs_push IsBefore rows row h.in_order (λ k d below. in_order (get_or rows k d) (h.before k d below));
  few = omega (arith, h.few, length_push rows row, some);
}
  where
    in_order : (r : Row) → IsPairBefore e place r.entry r.place → IsBefore r row
    in_order r (inl lt) = inl (omega (arith, lt, entry_is))
    in_order r (inr same) = inr (same.0 ∙ sym entry_is, omega (arith, same.1, place_is))

-- what comes before the next entry
next_entry : (entries words : List (List ℕ)) (e place f other : ℕ) → length (outline_of entries e) ≤ place → Conflict entries words f other →
    IsPairBefore (e + 1) 1 f other → IsPairBefore e place f other
next_entry entries words e place f other long conflict (inl lt) = elim (cases_lt f e) [
  | inl less ↦ inl less
  | inr ge ↦
      let same : f ≡ e = omega (arith, lt) in
      let inside = subst (λ g. other < length (outline_of entries g)) same conflict.shows.before_end in
      inr (same, omega (arith, inside, long))
]
next_entry entries words e place f other long conflict (inr same) = absurd (omega (arith, same.1, conflict.shows.after_start))

before_entry : (e place f other : ℕ) → IsPairBefore e place f other → IsPairBefore (e + 1) 1 f other
before_entry e place f other (inl lt) = inl (omega arith)
before_entry e place f other (inr same) = inl (omega (arith, same.0))

-- Behind the last place of an entry the next entry comes.
pub rows_on : (entries words : List (List ℕ)) (table : List ℕ) (from e place : ℕ) (rows : List Row) → e < length entries → place ≡ length (outline_of entries e) →
    AreRowsBetween entries words table from e place rows → AreRowsBetween entries words table from (e + 1) 1 rows
rows_on entries words table from e place rows inside end h = record {
  each = h.each;
  since = h.since;
  before = λ k d below. before_entry e place _ _ (h.before k d below);
  all = λ f other since before conflict. h.all f other since (next_entry entries words e place f other (omega (arith, end)) conflict before) conflict;
  in_order = h.in_order;
  few = omega (arith, h.few, end, next_slots entries e inside);
}

-- the entry of a conflict is one
conflict_entry : (entries words : List (List ℕ)) (f other : ℕ) → Conflict entries words f other → f < length entries
conflict_entry entries words f other conflict = elim (cases_lt f (length entries)) [
  | inl lt ↦ lt
  | inr ge ↦ absurd (omega (arith, ap length (get_or-eq_default entries [] ge), conflict.shows.before_end))
]

-- Behind the last entry the rows of all entries are exactly the conflicts,
pub rows_exact : (entries words : List (List ℕ)) (table : List ℕ) (rows : List Row) → AreRowsBetween entries words table 0 (length entries) 1 rows → AreConflicts entries words rows
rows_exact entries words table rows h = record {
  each = λ k d below. (h.each k d below).shortest;
  all = λ f other conflict. h.all f other (omega arith) (inl (conflict_entry entries words f other conflict)) conflict;
  in_order = h.in_order;
}

-- behind an entry the rows of it alone are exactly its conflicts,
pub rows_of_one : (entries words : List (List ℕ)) (table : List ℕ) (e : ℕ) (rows : List Row) → AreRowsBetween entries words table e (e + 1) 1 rows → AreConflictsOf entries words e rows
rows_of_one entries words table e rows h = record {
  each = λ k d below. (h.each k d below).shortest;
  of_entry = λ k d below. one k d below;
  all = λ place conflict. h.all e place (omega arith) (inl (omega arith)) conflict;
  in_order = λ i j d l below. by (get_or rows i d) (get_or rows j d) (one i d (omega arith)) (one j d below) (h.in_order i j d l below);
}
  where
    of_one : (r : Row) → 0 < r.place → e ≤ r.entry → IsPairBefore (e + 1) 1 r.entry r.place → r.entry ≡ e
    of_one r some since (inl lt) = omega arith
    of_one r some since (inr same) = absurd (omega (arith, same.1))

    one : (k : ℕ) (d : Row) → k < length rows → Row.entry (get_or rows k d) ≡ e
    one k d below = of_one (get_or rows k d) (h.each k d below).shortest.shown.after_start (h.since k d below) (h.before k d below)

    by : (a b : Row) → a.entry ≡ e → b.entry ≡ e → IsBefore a b → a.place < b.place
    by a b sa sb (inl lt) = absurd (omega arith)
    by a b sa sb (inr same) = same.1

-- with the chosen examples,
pub rows_chosen : (entries words : List (List ℕ)) (table : List ℕ) (from e place : ℕ) (rows : List Row) → AreRowsBetween entries words table from e place rows → AreChosen entries words table rows
rows_chosen entries words table from e place rows h k d below = (h.each k d below).chosen

-- and small.
pub rows_small : (entries words : List (List ℕ)) (table : List ℕ) (from e : ℕ) (rows : List Row) → All IsOutline entries → length entries ≤ 1048576 → e ≤ length entries →
    AreRowsBetween entries words table from e 1 rows → AreSmall entries rows
rows_small entries words table from e rows are fits within h = record {
  each = λ k d below. (h.each k d below).small;
  few = omega (arith, h.few, few_slots entries e are within, fits);
}
