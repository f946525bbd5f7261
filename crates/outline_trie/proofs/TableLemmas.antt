-- The columns of the nodes, as they grow and as they are read.
use Rattle.std.proofs.Common.{◌≡◌, ℕ, zero, suc, ◌+◌, ◌-◌, ◌<◌, ◌≤◌, List, [], ◌∷◌, ◌++◌, length, take, get_or, set, refl, sym, ap, ◌∙◌, arith, inl, inr, take_all, length-take, length-set, Option, Some, None, get_or-set_same, get_or-set_other}
use Rattle.std.proofs.lemmas.Bool.{cases_lt, cases_eq}
use Rattle.std.proofs.lemmas.Option.{none-some}
use Rattle.std.proofs.lemmas.List.{get_or_push, get_or_append_left, length_push, take-append-le, get_or-take}
use Rattle.outline_trie.specs.inside.Tables.{IsStep, IsTable, IsNumbered, none_number, written_number, ancestor}
use Rattle.steno_rules.specs.Outlines.{AreRising, outline_of, entry_number}
use Rattle.steno_rules.proofs.Numbers.{entry_number-Some, entry_number-outline_of, outline_of-once}

-- ---- one node more

pub old_outline : (X : List (List ℕ)) (w : List ℕ) (node : ℕ) → node < length X → outline_of (X ++ w ∷ []) node ≡ outline_of X node
old_outline X w node inside = get_or_append_left X (w ∷ []) [] node inside

pub new_outline : (X : List (List ℕ)) (w : List ℕ) (node : ℕ) → node ≡ length X → outline_of (X ++ w ∷ []) node ≡ w
new_outline X w node is = get_or_push X w [] node (sym is)

pub table_more : (X : List (List ℕ)) (parents strokes depths : List ℕ) (parent stroke depth : ℕ) (w : List ℕ) → IsTable X parents strokes depths → parent < length X →
    w ≡ outline_of X parent ++ stroke ∷ [] → depth ≡ length w → IsTable (X ++ w ∷ []) (parents ++ parent ∷ []) (strokes ++ stroke ∷ []) (depths ++ depth ∷ [])
table_more X parents strokes depths parent stroke depth w t within is deep = record {
  parents_long = omega (arith, length_push parents parent, length_push X w, t.parents_long);
  strokes_long = omega (arith, length_push strokes stroke, length_push X w, t.strokes_long);
  depths_long = omega (arith, length_push depths depth, length_push X w, t.depths_long);
  root = get_or_append_left parents (parent ∷ []) 0 0 (omega (arith, t.parents_long)) ∙ t.root;
  depth = λ node inside. elim (cases_lt node (length X)) [
    | inl old ↦
        get_or_append_left depths (depth ∷ []) 0 node (omega (arith, t.depths_long)) ∙ t.depth node old ∙ ap length (sym (old_outline X w node old))
    | inr new ↦
        let last : node ≡ length X = omega (arith, length_push X w) in
        get_or_push depths depth 0 node (omega (arith, t.depths_long)) ∙ deep ∙ ap length (sym (new_outline X w node last))
  ];
  step = λ node some inside. elim (cases_lt node (length X)) [
    | inl old ↦ old_step node some old
    | inr new ↦ new_step node (omega (arith, length_push X w))
  ];
}
  where
    old_step : (node : ℕ) → 0 < node → node < length X → IsStep (X ++ w ∷ []) node (get_or (parents ++ parent ∷ []) node 0) (get_or (strokes ++ stroke ∷ []) node 1)
    old_step node some old =
        let s = t.step node some old in
        rw (get_or_append_left parents (parent ∷ []) 0 node (omega (arith, t.parents_long)), get_or_append_left strokes (stroke ∷ []) 1 node (omega (arith, t.strokes_long))) (record {
          before = s.before;
          is = old_outline X w node old ∙ s.is ∙ ap (λ v. v ++ get_or strokes node 1 ∷ []) (sym (old_outline X w (get_or parents node 0) (omega (arith, s.before))));
        })

    new_step : (node : ℕ) → node ≡ length X → IsStep (X ++ w ∷ []) node (get_or (parents ++ parent ∷ []) node 0) (get_or (strokes ++ stroke ∷ []) node 1)
    new_step node last =
        rw (get_or_push parents parent 0 node (omega (arith, t.parents_long)), get_or_push strokes stroke 1 node (omega (arith, t.strokes_long))) (record {
          before = omega arith;
          is = new_outline X w node last ∙ is ∙ ap (λ v. v ++ stroke ∷ []) (sym (old_outline X w parent within));
        })

pub numbered_more : (entries X : List (List ℕ)) (numbers : List ℕ) (w : List ℕ) → IsNumbered entries X numbers → entry_number entries w ≡ None → IsNumbered entries (X ++ w ∷ []) (numbers ++ none_number ∷ [])
numbered_more entries X numbers w h none = record {
  long = omega (arith, length_push numbers none_number, length_push X w, h.long);
  number = λ node inside. elim (cases_lt node (length X)) [
    | inl old ↦
        get_or_append_left numbers (none_number ∷ []) 0 node (omega (arith, h.long)) ∙ h.number node old
        ∙ ap (λ v. written_number (entry_number entries v)) (sym (old_outline X w node old))
    | inr new ↦
        let last : node ≡ length X = omega (arith, length_push X w) in
        get_or_push numbers none_number 0 node (omega (arith, h.long)) ∙ ap written_number (sym none)
        ∙ ap (λ v. written_number (entry_number entries v)) (sym (new_outline X w node last))
  ];
}

-- ---- one entry more

no_number : (entries : List (List ℕ)) (x : List ℕ) (o : Option ℕ) → entry_number entries x ≡ o → ((e : ℕ) → e < length entries → outline_of entries e ≡ x → ⊥) → o ≡ None
no_number entries x None is none = refl
no_number entries x (Some e) is none = let found = entry_number-Some entries x e is in absurd (none e found.0 found.1)

-- what is no entry has no number
pub entry_number-None : (entries : List (List ℕ)) (x : List ℕ) → ((e : ℕ) → e < length entries → outline_of entries e ≡ x → ⊥) → entry_number entries x ≡ None
entry_number-None entries x none = no_number entries x (entry_number entries x) refl none

-- one entry more leaves the numbers of the others
pub number_of_other : (entries : List (List ℕ)) (e x : List ℕ) → AreRising entries → AreRising (entries ++ e ∷ []) → (e ≡ x → ⊥) → entry_number (entries ++ e ∷ []) x ≡ entry_number entries x
number_of_other entries e x front rising other = by (entry_number entries x) refl
  where
    by : (o : Option ℕ) → entry_number entries x ≡ o → entry_number (entries ++ e ∷ []) x ≡ o
    by None is = entry_number-None (entries ++ e ∷ []) x (λ n inside same. elim (cases_lt n (length entries)) [
      | inl old ↦ absurd (none-some n (sym is ∙ ap (entry_number entries) (sym same ∙ old_outline entries e n old) ∙ entry_number-outline_of entries n front old))
      | inr new ↦ absurd (other (sym (new_outline entries e n (omega (arith, length_push entries e))) ∙ same))
    ])
    by (Some n) is =
        let found = entry_number-Some entries x n is in
        ap (entry_number (entries ++ e ∷ [])) (sym (old_outline entries e n found.0 ∙ found.1)) ∙ entry_number-outline_of (entries ++ e ∷ []) n rising (omega (arith, found.0, length_push entries e))

-- and has the next number
pub number_of_last : (entries : List (List ℕ)) (e : List ℕ) → AreRising (entries ++ e ∷ []) → entry_number (entries ++ e ∷ []) e ≡ Some (length entries)
number_of_last entries e rising =
    ap (entry_number (entries ++ e ∷ [])) (sym (new_outline entries e (length entries) refl)) ∙ entry_number-outline_of (entries ++ e ∷ []) (length entries) rising (omega (arith, length_push entries e))

pub numbered_set : (entries X : List (List ℕ)) (numbers : List ℕ) (e : List ℕ) (at : ℕ) → AreRising entries → AreRising (entries ++ e ∷ []) → AreRising X → IsNumbered entries X numbers →
    at < length X → outline_of X at ≡ e → IsNumbered (entries ++ e ∷ []) X (set numbers at (length entries))
numbered_set entries X numbers e at front rising distinct h inside is = record {
  long = length-set numbers at (length entries) ∙ h.long;
  number = λ node within. elim (cases_eq node at) [
    | inl same ↦ here node same
    | inr other ↦
        get_or-set_other numbers at node (length entries) 0 other ∙ h.number node within
        ∙ ap written_number (sym (number_of_other entries e (outline_of X node) front rising (λ same. other (sym (outline_of-once X at node distinct inside within (is ∙ same))))))
  ];
}
  where
    here : (node : ℕ) → node ≡ at → get_or (set numbers at (length entries)) node 0 ≡ written_number (entry_number (entries ++ e ∷ []) (outline_of X node))
    here node same =
        ap (λ n. get_or (set numbers at (length entries)) n 0) same ∙ get_or-set_same numbers at (length entries) 0 (omega (arith, h.long))
        ∙ ap written_number (sym (number_of_last entries e rising)) ∙ ap (λ v. written_number (entry_number (entries ++ e ∷ []) v)) (sym (ap (outline_of X) same ∙ is))

pub rising_take : (entries : List (List ℕ)) (k : ℕ) → AreRising entries → AreRising (take k entries)
rising_take entries k rising i j d below inside =
    let long : j < k = omega (arith, length-take k entries) in
    rw (get_or-take k entries i d (omega arith), get_or-take k entries j d long) (rising i j d below (omega (arith, length-take k entries)))

-- ---- upwards

-- a node so many levels above has so many strokes less
pub record IsAbove (X : List (List ℕ)) (node levels at : ℕ) : Type 0 where
  pub inside : at < length X
  pub is : outline_of X at ≡ take (length (outline_of X node) - levels) (outline_of X node)

pub up_is : (X : List (List ℕ)) (parents strokes depths : List ℕ) (levels node : ℕ) → IsTable X parents strokes depths → outline_of X 0 ≡ [] → node < length X → levels ≤ length (outline_of X node) →
    IsAbove X node levels (ancestor parents node levels)
up_is X parents strokes depths zero node t root inside within = record { inside = inside; is = sym (take_all (length (outline_of X node) - 0) (outline_of X node) (omega arith)) }
up_is X parents strokes depths (suc levels) node t root inside within = elim (cases_eq node 0) [
  | inl first ↦ absurd (omega (arith, within, ap (λ n. length (outline_of X n)) first, ap length root))
  | inr later ↦ above (t.step node (omega arith) inside) (up_is X parents strokes depths levels (get_or parents node 0) t root)
]
  where
    above : IsStep X node (get_or parents node 0) (get_or strokes node 1) →
        (get_or parents node 0 < length X → levels ≤ length (outline_of X (get_or parents node 0)) → IsAbove X (get_or parents node 0) levels (ancestor parents (get_or parents node 0) levels)) →
        IsAbove X node (suc levels) (ancestor parents (get_or parents node 0) levels)
    above s above_parent =
        let long : length (outline_of X node) ≡ length (outline_of X (get_or parents node 0)) + 1 = ap length s.is ∙ length_push (outline_of X (get_or parents node 0)) (get_or strokes node 1) in
        let rest = above_parent (omega (arith, s.before)) (omega (arith, long)) in
        record {
          inside = rest.inside;
          is = rest.is
              ∙ sym (take-append-le (length (outline_of X (get_or parents node 0)) - levels) (outline_of X (get_or parents node 0)) (get_or strokes node 1 ∷ []) (omega arith))
              ∙ ap (take (length (outline_of X (get_or parents node 0)) - levels)) (sym s.is)
              ∙ ap (λ n. take n (outline_of X node)) (less (length (outline_of X node)) (length (outline_of X (get_or parents node 0))) long);
        }
      where
        less : (a b : ℕ) → a ≡ b + 1 → b - levels ≡ a - suc levels
        less a b e = omega arith

pub up_more : (parents : List ℕ) (node levels : ℕ) → ancestor parents node (suc levels) ≡ get_or parents (ancestor parents node levels) 0
up_more parents node zero = refl
up_more parents node (suc levels) = up_more parents (get_or parents node 0) levels
