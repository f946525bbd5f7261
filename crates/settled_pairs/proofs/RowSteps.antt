-- One pair after another gets its row, where it stays.
use Rattle.std.proofs.Common.{◌≡◌, ℕ, ◌+◌, ◌<◌, ◌≤◌, List, [], ◌∷◌, ◌++◌, length, All, sym, ap, subst, ◌∙◌, arith, inl, inr, ◌⊎◌, get_or}
use Rattle.std.proofs.lemmas.Bool.{cases_lt}
use Rattle.std.proofs.Math.ListN.{get_or-eq_default}
use Rattle.std.proofs.lemmas.List.{length_push}
use Rattle.std.proofs.lemmas.List.Elements.{All-push, Contains-append_left, Contains-push}
use Rattle.std.proofs.lemmas.List.Quantifiers.{all_pairs_push}
use Rattle.steno_rules.specs.Outlines.{IsOutline, outline_of}
use Rattle.longest_match.specs.Rows.{AreSmall, IsBefore, Row}
use Rattle.conflict_example.specs.inside.FoundRows.{IsPairBefore}
use Rattle.settled_laws.specs.SettledPairs.{SettledPair}
use Rattle.settled_pairs.specs.SettledRows.{AreChosenRows, AreSettledPairs}
use Rattle.settled_pairs.specs.inside.FoundRows.{AreRowsBefore, IsFoundPair}
use Rattle.pair_slots.proofs.Slots.{few_slots, next_slots}

-- Before the first pair there is no row.
pub rows_none : (entries words : List (List ℕ)) (table : List ℕ) → AreRowsBefore entries words table 0 1 []
rows_none entries words table = record {
  each = λ k d below. absurd (omega arith);
  before = λ k d below. absurd (omega arith);
  all = λ f other before pair. elim before [
    | inl lt ↦ absurd (omega arith)
    | inr same ↦ absurd (omega (arith, same.1, pair.stays.after_start))
  ];
  in_order = λ i j d l below. absurd (omega arith);
  few = omega arith;
}

-- what comes before the next place
next_place : (e place f other : ℕ) → IsPairBefore e (place + 1) f other → IsPairBefore e place f other ⊎ ((f ≡ e) × (other ≡ place))
next_place e place f other (inl lt) = inl (inl lt)
next_place e place f other (inr same) = elim (cases_lt other place) [
  | inl lt ↦ inl (inr (same.0, lt))
  | inr ge ↦ inr (same.0, omega (arith, same.1))
]

earlier_place : (e place f other : ℕ) → IsPairBefore e place f other → IsPairBefore e (place + 1) f other
earlier_place e place f other (inl lt) = inl lt
earlier_place e place f other (inr same) = inr (same.0, omega (arith, same.1))

-- A pair that doesn't stay gets no row.
pub rows_without : (entries words : List (List ℕ)) (table : List ℕ) (e place : ℕ) (rows : List Row) → (SettledPair entries words e place → ⊥) →
    AreRowsBefore entries words table e place rows → AreRowsBefore entries words table e (place + 1) rows
rows_without entries words table e place rows apart h = record {
  each = h.each;
  before = λ k d below. earlier_place e place _ _ (h.before k d below);
  all = λ f other before pair. elim (next_place e place f other before) [
    | inl earlier ↦ h.all f other earlier pair
    | inr same ↦ absurd (apart (subst (λ p. SettledPair entries words e p) same.1 (subst (λ g. SettledPair entries words g other) same.0 pair)))
  ];
  in_order = h.in_order;
  few = omega (arith, h.few);
}

-- A pair that stays gets its row.
pub rows_with : (entries words : List (List ℕ)) (table : List ℕ) (e place : ℕ) (rows : List Row) (row : Row) → 0 < place →
    IsFoundPair entries words table row → row.entry ≡ e → row.place ≡ place →
    AreRowsBefore entries words table e place rows → AreRowsBefore entries words table e (place + 1) (rows ++ row ∷ [])
rows_with entries words table e place rows row some found entry_is place_is h = record {
  each = All-push (IsFoundPair entries words table) rows row h.each found;
  before = All-push (λ r. IsPairBefore e (place + 1) r.entry r.place) rows row (λ k d below. earlier_place e place _ _ (h.before k d below)) (inr (entry_is, omega (arith, place_is)));
  all = λ f other before pair. elim (next_place e place f other before) [
    | inl earlier ↦ let has = h.all f other earlier pair in record { row = has.row; there = Contains-append_left rows (row ∷ []) has.row has.there; entry_is = has.entry_is; place_is = has.place_is }
    | inr same ↦ record { row = row; there = Contains-push rows row; entry_is = entry_is ∙ sym same.0; place_is = place_is ∙ sym same.1 }
  ];
  in_order = all_pairs_push IsBefore rows row h.in_order (λ k d below. in_order (get_or rows k d) (h.before k d below));
  few = omega (arith, h.few, length_push rows row, some);
}
  where
    in_order : (r : Row) → IsPairBefore e place r.entry r.place → IsBefore r row
    in_order r (inl lt) = inl (omega (arith, lt, entry_is))
    in_order r (inr same) = inr (same.0 ∙ sym entry_is, omega (arith, same.1, place_is))

-- what comes before the next entry
next_entry : (entries words : List (List ℕ)) (e place f other : ℕ) → length (outline_of entries e) ≤ place → SettledPair entries words f other →
    IsPairBefore (e + 1) 1 f other → IsPairBefore e place f other
next_entry entries words e place f other long pair (inl lt) = elim (cases_lt f e) [
  | inl less ↦ inl less
  | inr ge ↦
      let same : f ≡ e = omega (arith, lt) in
      let inside = subst (λ g. other < length (outline_of entries g)) same pair.stays.before_end in
      inr (same, omega (arith, inside, long))
]
next_entry entries words e place f other long pair (inr same) = absurd (omega (arith, same.1, pair.stays.after_start))

before_entry : (e place f other : ℕ) → IsPairBefore e place f other → IsPairBefore (e + 1) 1 f other
before_entry e place f other (inl lt) = inl (omega arith)
before_entry e place f other (inr same) = inl (omega (arith, same.0))

-- Behind the last place of an entry the next entry comes.
pub rows_on : (entries words : List (List ℕ)) (table : List ℕ) (e place : ℕ) (rows : List Row) → e < length entries → place ≡ length (outline_of entries e) →
    AreRowsBefore entries words table e place rows → AreRowsBefore entries words table (e + 1) 1 rows
rows_on entries words table e place rows inside end h = record {
  each = h.each;
  before = λ k d below. before_entry e place _ _ (h.before k d below);
  all = λ f other before pair. h.all f other (next_entry entries words e place f other (omega (arith, end)) pair before) pair;
  in_order = h.in_order;
  few = omega (arith, h.few, end, next_slots entries e inside);
}

-- the entry of a pair that stays is one
pair_entry : (entries words : List (List ℕ)) (f other : ℕ) → SettledPair entries words f other → f < length entries
pair_entry entries words f other pair = elim (cases_lt f (length entries)) [
  | inl lt ↦ lt
  | inr ge ↦ absurd (omega (arith, ap length (get_or-eq_default entries [] ge), pair.stays.before_end))
]

-- Behind the last entry the rows are exactly the pairs that stay,
pub rows_exact : (entries words : List (List ℕ)) (table : List ℕ) (rows : List Row) → AreRowsBefore entries words table (length entries) 1 rows → AreSettledPairs entries words rows
rows_exact entries words table rows h = record {
  each = λ k d below. (h.each k d below).shortest;
  all = λ f other pair. h.all f other (inl (pair_entry entries words f other pair)) pair;
  in_order = h.in_order;
}

-- with the chosen examples,
pub rows_chosen : (entries words : List (List ℕ)) (table : List ℕ) (rows : List Row) → AreRowsBefore entries words table (length entries) 1 rows → AreChosenRows entries words table rows
rows_chosen entries words table rows h k d below = (h.each k d below).chosen

-- and small.
pub rows_small : (entries words : List (List ℕ)) (table : List ℕ) (rows : List Row) → All IsOutline entries → length entries ≤ 1048576 →
    AreRowsBefore entries words table (length entries) 1 rows → AreSmall entries rows
rows_small entries words table rows are fits h = record {
  each = λ k d below. (h.each k d below).small;
  few = omega (arith, h.few, few_slots entries (length entries) are (omega arith), fits);
}
