-- Of the rows of conflicts with their chosen examples there is one list at most.
use Rattle.std.proofs.Common.{◌≡◌, ℕ, ◌<◌, List, [], ◌∷◌, map, refl, sym, ap₂, subst, ◌∙◌, arith, All, AllPairs, Contains, Some, inl, inr}
use Rattle.steno_rules.specs.Outlines.{entry_number}
use Rattle.steno_rules.specs.Conflicts.{Shows}
use Rattle.steno_rules.proofs.Lists.{none_in_nil, in_cons, in_first, in_later, pairs_tail, pairs_first}
use Rattle.longest_match.specs.Rows.{AreConflicts, IsBefore, IsShortest, Row}
use Rattle.closure_laws.specs.Examples.{IsChosen, example}
use Rattle.closure_laws.proofs.ChosenLemmas.{chosen_once}
use Rattle.conflict_example.specs.Chosen.{AreChosen, IsChosenRow}
use Rattle.conflict_example.specs.EntryConflicts.{AreConflictsOf}

-- ---- rising lists

module _ {A : Type 0} (R : A → A → Type 0) (itself : (x : A) → R x x → ⊥) (trans : (x y z : A) → R x y → R y z → R x z) where
  -- two rising lists with the same members are one
  pub same_members : (xs ys : List A) → AllPairs R xs → AllPairs R ys → ((z : A) → Contains xs z → Contains ys z) → ((z : A) → Contains ys z → Contains xs z) → xs ≡ ys
  same_members [] [] a b to from = refl
  same_members [] (y ∷ ys) a b to from = absurd (none_in_nil y (from y (in_first y ys)))
  same_members (x ∷ xs) [] a b to from = absurd (none_in_nil x (to x (in_first x xs)))
  same_members (x ∷ xs) (y ∷ ys) a b to from =
      ap₂ (λ z l. z ∷ l) first (same_members xs ys (pairs_tail R x xs a) (pairs_tail R y ys b)
      (λ z h. elim (in_cons y ys z (to z (in_later x xs z h))) [
        | inl is ↦ absurd (itself z (subst (λ l. R l z) (first ∙ is) (pairs_first R x xs z a h)))
        | inr later ↦ later
      ])
      (λ z h. elim (in_cons x xs z (from z (in_later y ys z h))) [
        | inl is ↦ absurd (itself z (subst (λ l. R l z) (sym first ∙ is) (pairs_first R y ys z b h)))
        | inr later ↦ later
      ]))
    where
      first : x ≡ y
      first = elim (in_cons y ys x (to x (in_first x xs))) [
        | inl is ↦ sym is
        | inr later ↦ elim (in_cons x xs y (from y (in_first y ys))) [
          | inl is ↦ is
          | inr other ↦ absurd (itself y (trans y x y (pairs_first R y ys x b later) (pairs_first R x xs y a other)))
        ]
      ]

pub before_itself : (x : Row) → IsBefore x x → ⊥
before_itself x (inl h) = absurd (omega arith)
before_itself x (inr h) = let p = h.1 in absurd (omega arith)

pub before_trans : (x y z : Row) → IsBefore x y → IsBefore y z → IsBefore x z
before_trans x y z (inl a) (inl b) = inl (omega arith)
before_trans x y z (inl a) (inr b) = let e = b.0 in inl (omega arith)
before_trans x y z (inr a) (inl b) = let e = a.0 in inl (omega arith)
before_trans x y z (inr a) (inr b) = let p = a.1 in let q = b.1 in inr (a.0 ∙ b.0, omega arith)

-- ---- one row

abbrev pub row_of : ℕ → ℕ → ℕ → List ℕ → Row
row_of entry place strokes words = record { entry = entry; place = place; strokes = strokes; words = words }

pub row_same : (a b : Row) → a.entry ≡ b.entry → a.place ≡ b.place → a.strokes ≡ b.strokes → a.words ≡ b.words → a ≡ b
row_same a b e p s w = same a.entry a.place a.strokes a.words b.entry b.place b.strokes b.words e p s w
  where
    same : (e p s : ℕ) (w : List ℕ) (e' p' s' : ℕ) (w' : List ℕ) → e ≡ e' → p ≡ p' → s ≡ s' → w ≡ w' → row_of e p s w ≡ row_of e' p' s' w'
    same e p s w e' p' s' w' he hp hs hw = rw (he, hp, hs, hw) refl

pub map_some : (xs ys : List ℕ) → map Some xs ≡ map Some ys → xs ≡ ys
map_some [] [] is = refl
map_some [] (y ∷ ys) is = absurd (none is)
  where
    none : [] ≡ Some y ∷ map Some ys → ⊥
    none is = cc
map_some (x ∷ xs) [] is = absurd (none is)
  where
    none : Some x ∷ map Some xs ≡ [] → ⊥
    none is = cc
map_some (x ∷ xs) (y ∷ ys) is = let first : x ≡ y = cc in let rest : map Some xs ≡ map Some ys = cc in ap₂ (λ z l. z ∷ l) first (map_some xs ys rest)

pub all_at : (P : Row → Type 0) (found : List Row) (row : Row) → All P found → Contains found row → P row
all_at P found row all there = subst P there.2 (all there.0 row there.1)

-- two rows of one pair are one
rows_agree : (entries words : List (List ℕ)) (table : List ℕ) (a b : Row) → IsShortest entries words a → IsShortest entries words b → IsChosenRow entries words table a → IsChosenRow entries words table b
    → a.entry ≡ b.entry → a.place ≡ b.place → a ≡ b
rows_agree entries words table a b sa sb ca cb entry place =
    let least_a = sa.least b.words sb.are_words (subst (λ (p : ℕ). Shows entries b.words a.entry p) (sym place) (subst (λ (e : ℕ). Shows entries b.words e b.place) (sym entry) sb.shown)) in
    let least_b = sb.least a.words sa.are_words (subst (λ (p : ℕ). Shows entries a.words b.entry p) place (subst (λ (e : ℕ). Shows entries a.words e a.place) entry sa.shown)) in
    let counted_a = sa.strokes in
    let counted_b = sb.strokes in
    let hit = subst (λ (p : ℕ). IsChosen entries words a.entry p cb.number cb.distance) (sym place) (subst (λ (e : ℕ). IsChosen entries words e b.place cb.number cb.distance) (sym entry) cb.hit) in
    let once = chosen_once entries words a.entry a.place ca.number ca.distance cb.number cb.distance ca.hit hit in
    let same = ca.words_are ∙ ap₂ (λ n d. map (entry_number entries) (example entries words table d n)) once.0 once.1 ∙ sym cb.words_are in
    row_same a b entry place (omega arith) (map_some a.words b.words same)

-- ---- all conflicts

rows_to : (entries words : List (List ℕ)) (table : List ℕ) (xs ys : List Row) → AreConflicts entries words xs → AreConflicts entries words ys → AreChosen entries words table xs → AreChosen entries words table ys
    → (z : Row) → Contains xs z → Contains ys z
rows_to entries words table xs ys cx cy hx hy z there =
    let shortest = all_at (IsShortest entries words) xs z cx.each there in
    let has = cy.all z.entry z.place (record { ws = z.words; are_words = shortest.are_words; shows = shortest.shown }) in
    let same = rows_agree entries words table has.row z (all_at (IsShortest entries words) ys has.row cy.each has.there) shortest
    (all_at (IsChosenRow entries words table) ys has.row hy has.there) (all_at (IsChosenRow entries words table) xs z hx there) has.entry_is has.place_is in
    subst (λ (r : Row). Contains ys r) same has.there

pub rows_once : (entries words : List (List ℕ)) (table : List ℕ) (xs ys : List Row) → AreConflicts entries words xs → AreConflicts entries words ys → AreChosen entries words table xs → AreChosen entries words table ys → xs ≡ ys
rows_once entries words table xs ys cx cy hx hy =
    same_members IsBefore before_itself before_trans xs ys cx.in_order cy.in_order (rows_to entries words table xs ys cx cy hx hy) (rows_to entries words table ys xs cy cx hy hx)

-- ---- those of one entry

entry_rows_to : (entries words : List (List ℕ)) (table : List ℕ) (e : ℕ) (xs ys : List Row) → AreConflictsOf entries words e xs → AreConflictsOf entries words e ys
    → AreChosen entries words table xs → AreChosen entries words table ys → (z : Row) → Contains xs z → Contains ys z
entry_rows_to entries words table e xs ys cx cy hx hy z there =
    let shortest = all_at (IsShortest entries words) xs z cx.each there in
    let of_entry : z.entry ≡ e = all_at (λ r. r.entry ≡ e) xs z cx.of_entry there in
    let has = cy.all z.place (record { ws = z.words; are_words = shortest.are_words; shows = subst (λ (f : ℕ). Shows entries z.words f z.place) of_entry shortest.shown }) in
    let same = rows_agree entries words table has.row z (all_at (IsShortest entries words) ys has.row cy.each has.there) shortest
    (all_at (IsChosenRow entries words table) ys has.row hy has.there) (all_at (IsChosenRow entries words table) xs z hx there) (has.entry_is ∙ sym of_entry) has.place_is in
    subst (λ (r : Row). Contains ys r) same has.there

pub entry_rows_once : (entries words : List (List ℕ)) (table : List ℕ) (e : ℕ) (xs ys : List Row) → AreConflictsOf entries words e xs → AreConflictsOf entries words e ys
    → AreChosen entries words table xs → AreChosen entries words table ys → xs ≡ ys
entry_rows_once entries words table e xs ys cx cy hx hy =
    same_members (λ a b. a.place < b.place) (λ x h. omega arith) (λ x y z h k. omega arith) xs ys cx.in_order cy.in_order
    (entry_rows_to entries words table e xs ys cx cy hx hy) (entry_rows_to entries words table e ys xs cy cx hy hx)
