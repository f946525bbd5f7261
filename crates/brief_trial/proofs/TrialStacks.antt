-- The entries and words of a trial stack, as they are made.
use Rattle.std.proofs.Common.{◌≡◌, ℕ, zero, suc, ◌<◌, ◌≤◌, List, [], ◌∷◌, ◌++◌, length, take, drop, set, get_or, refl, sym, ap, subst, ◌∙◌, arith, All, Bool, true, false, Contains, Less, Equal, Greater, Ordering, Some, None, is_some, inl, inr, ◌↔◌, ◌⊎◌}
use Rattle.std.specs.Cmp.Lexicographic.{nat_list_cmp_total}
use Rattle.std.specs.Ordering.{ordering_reverse}
use Rattle.std.proofs.lemmas.List.Elements.{Contains-get_or}
use Rattle.steno_rules.specs.Nodes.{by_order, insert_new}
use Rattle.steno_rules.specs.Outlines.{AreEntries, AreRising, IsOutline, entry_number, flagged_entries, is_entry, outline_cmp, outline_of}
use Rattle.steno_rules.proofs.FlaggedWords.{flagged-found}
use Rattle.steno_rules.proofs.Lists.{in_first, pairs_tail, pairs_first}
use Rattle.steno_rules.proofs.NodeLemmas.{same_of_equal}
use Rattle.steno_rules.proofs.Numbers.{entry_number-Some, entry_number-outline_of, not_below_self, number_test}
use Rattle.steno_rules.proofs.Rising.{in_insert, insert_keeps, insert_rises, insert_there, pairs_of_rises, rises_of_pairs}
use Rattle.dict_stack.specs.Finding.{IsMissing}

-- ---- the order

-- what is below something else is above it, turned round
above : (y x : List ℕ) → outline_cmp y x ≡ Less → outline_cmp x y ≡ Greater
above y x h = nat_list_cmp_total.antisymm x y ∙ ap ordering_reverse h

below : (y x : List ℕ) → outline_cmp y x ≡ Greater → outline_cmp x y ≡ Less
below y x h = nat_list_cmp_total.antisymm x y ∙ ap ordering_reverse h

-- an outline compares as equal with itself
equal_self : (x : List ℕ) → outline_cmp x x ≡ Equal
equal_self x = by (outline_cmp x x) refl
  where
    by : (o : Ordering) → outline_cmp x x ≡ o → o ≡ Equal
    by Less is = absurd (not_below_self x is)
    by Equal is = refl
    by Greater is = absurd (not_below_self x (below x x is))

-- ---- one step of an insertion

-- before what is above,
insert_first : (ys : List (List ℕ)) (x : List ℕ) → ((y : List ℕ) → Contains ys y → outline_cmp y x ≡ Greater) → insert_new ys x ≡ x ∷ ys
insert_first [] x h = refl
insert_first (y ∷ ys) x h = ap (λ o. by_order o (x ∷ y ∷ ys) (y ∷ ys) (y ∷ insert_new ys x)) (below y x (h y (in_first y ys)))

-- behind what is below,
insert_later : (y : List ℕ) (ys : List (List ℕ)) (x : List ℕ) → outline_cmp y x ≡ Less → insert_new (y ∷ ys) x ≡ y ∷ insert_new ys x
insert_later y ys x h = ap (λ o. by_order o (x ∷ y ∷ ys) (y ∷ ys) (y ∷ insert_new ys x)) (above y x h)

-- and nowhere where it is there.
insert_same : (ys : List (List ℕ)) (x : List ℕ) → insert_new (x ∷ ys) x ≡ x ∷ ys
insert_same ys x = ap (λ o. by_order o (x ∷ x ∷ ys) (x ∷ ys) (x ∷ insert_new ys x)) (equal_self x)

-- ---- a new outline

-- all from a place on are above x, so each flagged one is
flagged_above : (es : List (List ℕ)) (fs : List Bool) (x : List ℕ) → ((k : ℕ) → k < length es → outline_cmp (outline_of es k) x ≡ Greater) →
    (y : List ℕ) → Contains (flagged_entries es fs) y → outline_cmp y x ≡ Greater
flagged_above es fs x h y there =
    let found = flagged-found es fs y there in
    subst (λ z. outline_cmp z x ≡ Greater) found.3 (h found.0 found.2)

-- the entries
entries_at : (es : List (List ℕ)) (x : List ℕ) (p : ℕ) → p ≤ length es → ((k : ℕ) → k < p → outline_cmp (outline_of es k) x ≡ Less) →
    ((k : ℕ) → p ≤ k → k < length es → outline_cmp (outline_of es k) x ≡ Greater) → take p es ++ x ∷ drop p es ≡ insert_new es x
entries_at [] x zero within less greater = refl
entries_at [] x (suc p) within less greater = absurd (omega arith)
entries_at (e ∷ es) x zero within less greater =
    sym (ap (λ o. by_order o (x ∷ e ∷ es) (e ∷ es) (e ∷ insert_new es x)) (below e x (greater 0 (omega arith) (omega arith))))
entries_at (e ∷ es) x (suc p) within less greater =
    ap (λ l. e ∷ l) (entries_at es x p (omega arith) (λ k l. less (suc k) (omega arith)) (λ k from l. greater (suc k) (omega arith) (omega arith)))
    ∙ sym (insert_later e es x (less 0 (omega arith)))

-- and the flagged ones of them
flagged_at : (es : List (List ℕ)) (fs : List Bool) (x : List ℕ) (p : ℕ) → length fs ≡ length es → p ≤ length es → ((k : ℕ) → k < p → outline_cmp (outline_of es k) x ≡ Less) →
    ((k : ℕ) → p ≤ k → k < length es → outline_cmp (outline_of es k) x ≡ Greater) →
    flagged_entries (take p es ++ x ∷ drop p es) (take p fs ++ true ∷ drop p fs) ≡ insert_new (flagged_entries es fs) x
flagged_at [] [] x zero long within less greater = refl
flagged_at [] [] x (suc p) long within less greater = absurd (omega arith)
flagged_at [] (f ∷ fs) x p long within less greater = absurd (omega (arith, long))
flagged_at (e ∷ es) [] x p long within less greater = absurd (omega (arith, long))
flagged_at (e ∷ es) (f ∷ fs) x zero long within less greater =
    sym (insert_first (flagged_entries (e ∷ es) (f ∷ fs)) x (flagged_above (e ∷ es) (f ∷ fs) x (λ k l. greater k (omega arith) l)))
flagged_at (e ∷ es) (true ∷ fs) x (suc p) long within less greater =
    ap (λ l. e ∷ l) (flagged_at es fs x p (omega (arith, long)) (omega arith) (λ k l. less (suc k) (omega arith)) (λ k from l. greater (suc k) (omega arith) (omega arith)))
    ∙ sym (insert_later e (flagged_entries es fs) x (less 0 (omega arith)))
flagged_at (e ∷ es) (false ∷ fs) x (suc p) long within less greater =
    flagged_at es fs x p (omega (arith, long)) (omega arith) (λ k l. less (suc k) (omega arith)) (λ k from l. greater (suc k) (omega arith) (omega arith))

-- The new outline stands at its place.
pub new_entries : (es : List (List ℕ)) (x : List ℕ) (p : ℕ) → IsMissing es x p → take p es ++ x ∷ drop p es ≡ insert_new es x
new_entries es x p h = entries_at es x p h.within h.before h.behind

pub new_words : (es : List (List ℕ)) (fs : List Bool) (x : List ℕ) (p : ℕ) → length fs ≡ length es → IsMissing es x p →
    flagged_entries (take p es ++ x ∷ drop p es) (take p fs ++ true ∷ drop p fs) ≡ insert_new (flagged_entries es fs) x
new_words es fs x p long h = flagged_at es fs x p long h.within h.before h.behind

-- ---- an outline that is there

-- of rising outlines the later ones are above the first
later_above : (e : List ℕ) (es : List (List ℕ)) → AreRising (e ∷ es) → (k : ℕ) → k < length es → outline_cmp (outline_of es k) e ≡ Greater
later_above e es rising k l = above e (outline_of es k) (pairs_first (λ a b. outline_cmp a b ≡ Less) e es (outline_of es k) rising (Contains-get_or es k [] l))

-- and the first is below them
first_below : (e : List ℕ) (es : List (List ℕ)) → AreRising (e ∷ es) → (k : ℕ) → k < length es → outline_cmp e (outline_of es k) ≡ Less
first_below e es rising k l = pairs_first (λ a b. outline_cmp a b ≡ Less) e es (outline_of es k) rising (Contains-get_or es k [] l)

entries_there : (es : List (List ℕ)) (x : List ℕ) (k : ℕ) → AreRising es → k < length es → outline_of es k ≡ x → insert_new es x ≡ es
entries_there [] x k rising l is = absurd (omega arith)
entries_there (e ∷ es) x zero rising l is = subst (λ y. insert_new (e ∷ es) y ≡ e ∷ es) is (insert_same es e)
entries_there (e ∷ es) x (suc k) rising l is =
    let low = subst (λ y. outline_cmp e y ≡ Less) is (first_below e es rising k (omega arith)) in
    insert_later e es x low ∙ ap (λ l. e ∷ l) (entries_there es x k (pairs_tail (λ a b. outline_cmp a b ≡ Less) e es rising) (omega arith) is)

flagged_set : (es : List (List ℕ)) (fs : List Bool) (x : List ℕ) (k : ℕ) → length fs ≡ length es → AreRising es → k < length es → outline_of es k ≡ x →
    flagged_entries es (set fs k true) ≡ insert_new (flagged_entries es fs) x
flagged_set [] fs x k long rising l is = absurd (omega arith)
flagged_set (e ∷ es) [] x k long rising l is = absurd (omega (arith, long))
flagged_set (e ∷ es) (true ∷ fs) x zero long rising l is = sym (subst (λ y. insert_new (e ∷ flagged_entries es fs) y ≡ e ∷ flagged_entries es fs) is (insert_same (flagged_entries es fs) e))
flagged_set (e ∷ es) (false ∷ fs) x zero long rising l is =
    subst (λ y. e ∷ flagged_entries es fs ≡ insert_new (flagged_entries es fs) y) is
    (sym (insert_first (flagged_entries es fs) e (flagged_above es fs e (later_above e es rising))))
flagged_set (e ∷ es) (true ∷ fs) x (suc k) long rising l is =
    let low = subst (λ y. outline_cmp e y ≡ Less) is (first_below e es rising k (omega arith)) in
    ap (λ l. e ∷ l) (flagged_set es fs x k (omega (arith, long)) (pairs_tail (λ a b. outline_cmp a b ≡ Less) e es rising) (omega arith) is)
    ∙ sym (insert_later e (flagged_entries es fs) x low)
flagged_set (e ∷ es) (false ∷ fs) x (suc k) long rising l is =
    flagged_set es fs x k (omega (arith, long)) (pairs_tail (λ a b. outline_cmp a b ≡ Less) e es rising) (omega arith) is

-- An outline that is there stays where it is,
pub held_entries : (es : List (List ℕ)) (x : List ℕ) (k : ℕ) → AreRising es → entry_number es x ≡ Some k → insert_new es x ≡ es
held_entries es x k rising is = let found = entry_number-Some es x k is in entries_there es x k rising found.0 found.1

-- and becomes a word.
pub held_words : (es : List (List ℕ)) (fs : List Bool) (x : List ℕ) (k : ℕ) → length fs ≡ length es → AreRising es → entry_number es x ≡ Some k →
    flagged_entries es (set fs k true) ≡ insert_new (flagged_entries es fs) x
held_words es fs x k long rising is = let found = entry_number-Some es x k is in flagged_set es fs x k long rising found.0 found.1

-- ---- what the entries of a trial stack are

-- what holds of all entries and of the brief holds of all entries of the trial stack
all_with : (P : List ℕ → Type 0) (es : List (List ℕ)) (x : List ℕ) → All P es → P x → All P (insert_new es x)
all_with P es x all one k d l = elim (in_insert outline_cmp nat_list_cmp_total es x (get_or (insert_new es x) k d) (Contains-get_or (insert_new es x) k d l)) [
  | inl is ↦ subst P is one
  | inr old ↦ subst P old.2 (all old.0 (get_or (insert_new es x) k d) old.1)
]

pub with_rising : (es : List (List ℕ)) (x : List ℕ) → AreRising es → AreRising (insert_new es x)
with_rising es x rising =
    pairs_of_rises (λ a b. outline_cmp a b ≡ Less) (insert_new es x) (insert_rises outline_cmp nat_list_cmp_total es x (rises_of_pairs (λ a b. outline_cmp a b ≡ Less) es rising))

pub with_entries : (es : List (List ℕ)) (x : List ℕ) → AreEntries es → 0 < length x → AreEntries (insert_new es x)
with_entries es x are some = record {
  rising = with_rising es x are.rising;
  not_empty = all_with (λ e. 0 < length e) es x are.not_empty some;
}

pub with_outlines : (es : List (List ℕ)) (x : List ℕ) → All IsOutline es → IsOutline x → All IsOutline (insert_new es x)
with_outlines es x are is = all_with IsOutline es x are is

-- ---- numbers

-- what stands at a place that it was put at
at_place : (es : List (List ℕ)) (x : List ℕ) (p : ℕ) → p ≤ length es → outline_of (take p es ++ x ∷ drop p es) p ≡ x
at_place [] x zero within = refl
at_place [] x (suc p) within = absurd (omega arith)
at_place (e ∷ es) x zero within = refl
at_place (e ∷ es) x (suc p) within = at_place es x p (omega arith)

pub one_more : {X : Type 0} (xs : List X) (x : X) (p : ℕ) → p ≤ length xs → length (take p xs ++ x ∷ drop p xs) ≡ suc (length xs)
one_more [] x zero within = refl
one_more [] x (suc p) within = absurd (omega arith)
one_more (y ∷ xs) x zero within = refl
one_more (y ∷ xs) x (suc p) within = ap suc (one_more xs x p (omega arith))

-- A new outline makes one entry more,
pub new_length : (es : List (List ℕ)) (x : List ℕ) (p : ℕ) → IsMissing es x p → length (insert_new es x) ≡ suc (length es)
new_length es x p h = sym (ap length (new_entries es x p h)) ∙ one_more es x p h.within

-- and its number is its place.
pub new_number : (es : List (List ℕ)) (x : List ℕ) (p : ℕ) → AreRising es → IsMissing es x p → entry_number (insert_new es x) x ≡ Some p
new_number es x p rising h =
    let is = new_entries es x p h in
    let there : outline_of (insert_new es x) p ≡ x = subst (λ (l : List (List ℕ)). outline_of l p ≡ x) is (at_place es x p h.within) in
    subst (λ y. entry_number (insert_new es x) y ≡ Some p) there
    (entry_number-outline_of (insert_new es x) p (with_rising es x rising) (omega (arith, new_length es x p h, h.within)))

-- An outline that is there keeps its number.
pub held_number : (es : List (List ℕ)) (x : List ℕ) (k : ℕ) → AreRising es → entry_number es x ≡ Some k → entry_number (insert_new es x) x ≡ Some k
held_number es x k rising is = subst (λ (l : List (List ℕ)). entry_number l x ≡ Some k) (sym (held_entries es x k rising is)) is

-- Whether an outline has a number says whether it is an entry.
pub held_is : (es : List (List ℕ)) (x : List ℕ) (k : ℕ) → entry_number es x ≡ Some k → true ≡ is_entry es x
held_is es x k is = sym (ap is_some is) ∙ number_test es x

pub new_is : (es : List (List ℕ)) (x : List ℕ) → entry_number es x ≡ None → false ≡ is_entry es x
new_is es x is = sym (ap is_some is) ∙ number_test es x

-- With a brief there are the outlines and the brief.
pub with_members : (outlines : List (List ℕ)) (brief x : List ℕ) → Contains (insert_new outlines brief) x ↔ ((brief ≡ x) ⊎ Contains outlines x)
with_members outlines brief x = (
  in_insert outline_cmp nat_list_cmp_total outlines brief x,
  λ h. elim h [
    | inl is ↦ subst (Contains (insert_new outlines brief)) is (insert_there outline_cmp nat_list_cmp_total same_of_equal outlines brief)
    | inr old ↦ insert_keeps outline_cmp nat_list_cmp_total outlines brief x old
  ],
)
