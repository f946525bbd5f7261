-- One more outline, which isn't below those that are there: it is the last one already, or goes to the end.
use Rattle.std.proofs.Common.{◌≡◌, ℕ, suc, ◌-◌, ◌<◌, List, [], ◌∷◌, ◌++◌, length, refl, sym, ap, subst, ◌∙◌, arith, Bool, true, false, true≢false, nat_eq, cond, Some, slice_get, Contains, inl, inr, Ordering, Less, Equal, Greater}
use Rattle.std.specs.Ordering.{is_lt}
use Rattle.std.specs.Cmp.Lexicographic.{pointwise, bytes_decides}
use Rattle.steno_rules.specs.Outlines.{outline_cmp, AreRising}
use Rattle.steno_rules.specs.Nodes.{by_order, insert_new}
use Rattle.steno_rules.proofs.Lists.{none_in_nil, in_cons, in_first, in_later}
use Rattle.steno_rules.proofs.NodeLemmas.{same_of_equal}
use Rattle.dict_stack.specs.inside.Candidates.{is_end}
use Rattle.dict_stack.proofs.OrderLemmas.{not_above_self, first_below, rising_tail}

-- no outline is above x
unfoldable pub NoneAbove : List (List ℕ) → List ℕ → Type 0
NoneAbove ys x = (y : List ℕ) → Contains ys y → is_lt (outline_cmp x y) ≡ false

-- The test for the last outline is one of what `last` answers.
pub is_end-last : (outlines : List (List ℕ)) (last outline : List ℕ) → slice_get outlines (length outlines - 1) ≡ Some last → is_end outlines outline ≡ pointwise nat_eq last outline
is_end-last [] last outline h = absurd cc
is_end-last (o ∷ []) last outline h = let same : o ≡ last = cc in ap (λ l. pointwise nat_eq l outline) same
is_end-last (o ∷ p ∷ outlines) last outline h =
    let later : suc (suc (length outlines)) - 1 ≡ suc (suc (length outlines) - 1) = omega arith in
    is_end-last (p ∷ outlines) last outline (subst (λ n. slice_get (o ∷ p ∷ outlines) n ≡ Some last) later h)

-- the last outline of a list with one more is that one
pub is_end_push : (ys : List (List ℕ)) (y x : List ℕ) → is_end (ys ++ y ∷ []) x ≡ pointwise nat_eq y x
is_end_push [] y x = refl
is_end_push (z ∷ []) y x = refl
is_end_push (z ∷ w ∷ ys) y x = is_end_push (w ∷ ys) y x

-- A list that ends with an outline is others and that one.
pub is_end-front : (ys : List (List ℕ)) (x : List ℕ) → is_end ys x ≡ true → (front : List (List ℕ)) × (ys ≡ front ++ x ∷ [])
is_end-front [] x h = absurd (true≢false (sym h))
is_end-front (y ∷ []) x h = ([], ap (λ l. l ∷ []) ((bytes_decides y x).0 h))
is_end-front (y ∷ z ∷ ys) x h = let rest = is_end-front (z ∷ ys) x h in (y ∷ rest.0, ap (λ l. y ∷ l) rest.1)

-- a list that ends with an outline isn't empty
pub is_end-some : (ys : List (List ℕ)) (x : List ℕ) → is_end ys x ≡ true → 0 < length ys
is_end-some [] x h = absurd (true≢false (sym h))
is_end-some (y ∷ ys) x h = omega arith

-- the test of the order
less_is : (x y : List ℕ) → outline_cmp x y ≡ Less → is_lt (outline_cmp x y) ≡ true
less_is x y h = ap is_lt h

-- of rising outlines only the last one can be x where none is above x
above_next : (x y z : List ℕ) (ys : List (List ℕ)) → AreRising (y ∷ z ∷ ys) → y ≡ x → NoneAbove (y ∷ z ∷ ys) x → ⊥
unfolding NoneAbove
above_next x y z ys rising same none =
    true≢false (sym (less_is x z (subst (λ l. outline_cmp l z ≡ Less) same (first_below y z ys rising))) ∙ none z (in_later y (z ∷ ys) z (in_first z ys)))

-- nor is one of the rest above x
pub none_above_rest : (x y : List ℕ) (ys : List (List ℕ)) → NoneAbove (y ∷ ys) x → NoneAbove ys x
unfolding NoneAbove
none_above_rest x y ys none z has = none z (in_later y ys z has)

-- What the insertion of such an outline does.
pub insert_last : (ys : List (List ℕ)) (x : List ℕ) → AreRising ys → NoneAbove ys x → insert_new ys x ≡ cond (is_end ys x) ys (ys ++ x ∷ [])
unfolding NoneAbove
insert_last [] x rising none = refl
insert_last (y ∷ []) x rising none = by (outline_cmp x y) refl (pointwise nat_eq y x) refl
  where
    by : (o : Ordering) → outline_cmp x y ≡ o → (b : Bool) → pointwise nat_eq y x ≡ b →
        by_order o (x ∷ y ∷ []) (y ∷ []) (y ∷ x ∷ []) ≡ cond b (y ∷ []) (y ∷ x ∷ [])
    by Less is b same = absurd (true≢false (sym (less_is x y is) ∙ none y (in_first y [])))
    by Equal is true same = refl
    by Equal is false same = absurd (true≢false (sym ((bytes_decides y x).1 (sym (same_of_equal x y is))) ∙ same))
    by Greater is true same = absurd (not_above_self x (subst (λ l. outline_cmp x l ≡ Greater) ((bytes_decides y x).0 same) is))
    by Greater is false same = refl
insert_last (y ∷ z ∷ ys) x rising none = by (outline_cmp x y) refl (insert_last (z ∷ ys) x (rising_tail y (z ∷ ys) rising) (none_above_rest x y (z ∷ ys) none)) (is_end (z ∷ ys) x) refl
  where
    by : (o : Ordering) → outline_cmp x y ≡ o → insert_new (z ∷ ys) x ≡ cond (is_end (z ∷ ys) x) (z ∷ ys) ((z ∷ ys) ++ x ∷ []) → (b : Bool) → is_end (z ∷ ys) x ≡ b →
        by_order o (x ∷ y ∷ z ∷ ys) (y ∷ z ∷ ys) (y ∷ insert_new (z ∷ ys) x) ≡ cond b (y ∷ z ∷ ys) (y ∷ ((z ∷ ys) ++ x ∷ []))
    by Less is rest b end = absurd (true≢false (sym (less_is x y is) ∙ none y (in_first y (z ∷ ys))))
    by Equal is rest b end = absurd (above_next x y z ys rising (sym (same_of_equal x y is)) none)
    by Greater is rest true end = ap (λ l. y ∷ l) (rest ∙ ap (λ b. cond b (z ∷ ys) ((z ∷ ys) ++ x ∷ [])) end)
    by Greater is rest false end = ap (λ l. y ∷ l) (rest ∙ ap (λ b. cond b (z ∷ ys) ((z ∷ ys) ++ x ∷ [])) end)

-- An outline that isn't the last one isn't there.
pub not_there : (ys : List (List ℕ)) (x : List ℕ) → AreRising ys → NoneAbove ys x → is_end ys x ≡ false → Contains ys x → ⊥
unfolding NoneAbove
not_there [] x rising none end has = none_in_nil x has
not_there (y ∷ []) x rising none end has = elim (in_cons y [] x has) [
  | inl same ↦ true≢false (sym ((bytes_decides y x).1 same) ∙ end)
  | inr later ↦ none_in_nil x later
]
not_there (y ∷ z ∷ ys) x rising none end has = elim (in_cons y (z ∷ ys) x has) [
  | inl same ↦ above_next x y z ys rising same none
  | inr later ↦ not_there (z ∷ ys) x (rising_tail y (z ∷ ys) rising) (none_above_rest x y (z ∷ ys) none) end later
]
