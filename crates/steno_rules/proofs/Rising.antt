-- Lists in strictly rising order, over any order, and what is inserted into them.
use Rattle.std.proofs.Common.{◌≡◌, List, [], ◌∷◌, refl, sym, ap, ap₂, subst, ◌∙◌, arith, AllPairs, Contains, ◌⊎◌, inl, inr, fold, Ordering, Less, Equal, Greater, ◌↔◌}
use Rattle.std.specs.Cmp.{IsTotalOrder}
use Rattle.std.specs.List.{AllByRecursion}
use Rattle.std.specs.Ordering.{ordering_reverse}
use Rattle.std.proofs.lemmas.List.Elements.{All-from_recursion}
use Rattle.steno_rules.specs.Nodes.{by_order, insert_by}
use Rattle.steno_rules.proofs.Lists.{none_in_nil, in_cons, in_first, in_later, all_by_recursion, pairs_cons, pairs_tail, pairs_first}

-- ---- the order by recursion

module _ {A : Type 0} (R : A → A → Type 0) where
  -- each element stands so to all later ones
  unfoldable pub Rises : List A → Type 0
  Rises [] = Unit {0}
  Rises (x ∷ xs) = AllByRecursion (R x) xs × Rises xs

  -- both say the same: from the recursion to all pairs,
  pub pairs_of_rises : (xs : List A) → Rises xs → AllPairs R xs
  unfolding Rises
  pairs_of_rises [] h = λ i j d l f. absurd (omega arith)
  pairs_of_rises (x ∷ xs) h = pairs_cons R x xs (All-from_recursion (R x) xs h.0) (pairs_of_rises xs h.1)

  -- and from all pairs to the recursion
  pub rises_of_pairs : (xs : List A) → AllPairs R xs → Rises xs
  unfolding Rises
  rises_of_pairs [] h = tt
  rises_of_pairs (x ∷ xs) h = (all_by_recursion (R x) xs (λ y has. pairs_first R x xs y h has), rises_of_pairs xs (pairs_tail R x xs h))

-- ---- a total order

module _ {A : Type 0} (cmp : A → A → Ordering) (total : IsTotalOrder cmp) where
  -- x is below y
  abbrev pub Below : A → A → Type 0
  Below x y = cmp x y ≡ Less

  -- nothing is below itself
  pub below_itself : (x : A) → Below x x → ⊥
  below_itself x h =
      let wrong : Less ≡ Greater = sym h ∙ total.antisymm x x ∙ ap ordering_reverse h in
      cc

  -- the order turned round
  pub turned : (x y : A) → cmp x y ≡ Greater → Below y x
  turned x y h = total.antisymm y x ∙ ap ordering_reverse h

  -- what is below an element is below all that is above it
  above_all : (x y : A) (ys : List A) → Below x y → AllByRecursion (Below y) ys → AllByRecursion (Below x) ys
  above_all x y [] l all = tt
  above_all x y (z ∷ ys) l all = (total.trans x y z l all.0, above_all x y ys l all.1)

  -- two rising lists with the same members are one
  pub rising_same : (xs ys : List A) → AllPairs Below xs → AllPairs Below ys → ((z : A) → Contains xs z ↔ Contains ys z) → xs ≡ ys
  rising_same [] [] a b same = refl
  rising_same [] (y ∷ ys) a b same = absurd (none_in_nil y ((same y).1 (in_first y ys)))
  rising_same (x ∷ xs) [] a b same = absurd (none_in_nil x ((same x).0 (in_first x xs)))
  rising_same (x ∷ xs) (y ∷ ys) a b same =
      ap₂ (λ z l. z ∷ l) first (rising_same xs ys (pairs_tail Below x xs a) (pairs_tail Below y ys b) (λ z. (
        λ h. elim (in_cons y ys z ((same z).0 (in_later x xs z h))) [
          | inl is ↦ absurd (below_itself z (subst (λ l. Below l z) (first ∙ is) (pairs_first Below x xs z a h)))
          | inr later ↦ later
        ],
        λ h. elim (in_cons x xs z ((same z).1 (in_later y ys z h))) [
          | inl is ↦ absurd (below_itself z (subst (λ l. Below l z) (sym first ∙ is) (pairs_first Below y ys z b h)))
          | inr later ↦ later
        ],
      )))
    where
      first : x ≡ y
      first = elim (in_cons y ys x ((same x).0 (in_first x xs))) [
        | inl is ↦ sym is
        | inr later ↦ elim (in_cons x xs y ((same y).1 (in_first y ys))) [
          | inl is ↦ is
          | inr other ↦ absurd (below_itself y (total.trans y x y (pairs_first Below y ys x b later) (pairs_first Below x xs y a other)))
        ]
      ]

  -- ---- one more element

  -- what lies above an element lies above it with one more
  insert_above : (z : A) (ys : List A) (x : A) → AllByRecursion (Below z) ys → Below z x → AllByRecursion (Below z) (insert_by cmp ys x)
  insert_above z [] x all l = (l, tt)
  insert_above z (y ∷ ys) x all l = by (cmp x y) (insert_above z ys x all.1 l)
    where
      by : (o : Ordering) → AllByRecursion (Below z) (insert_by cmp ys x) → AllByRecursion (Below z) (by_order o (x ∷ y ∷ ys) (y ∷ ys) (y ∷ insert_by cmp ys x))
      by Less rest = (l, all)
      by Equal rest = all
      by Greater rest = (all.0, rest)

  -- one more element in its place keeps the order
  pub insert_rises : (ys : List A) (x : A) → Rises Below ys → Rises Below (insert_by cmp ys x)
  unfolding Rises
  insert_rises [] x h = (tt, tt)
  insert_rises (y ∷ ys) x h = by (cmp x y) refl (insert_rises ys x h.1)
    where
      by : (o : Ordering) → cmp x y ≡ o → Rises Below (insert_by cmp ys x) → Rises Below (by_order o (x ∷ y ∷ ys) (y ∷ ys) (y ∷ insert_by cmp ys x))
      by Less is rest = ((is, above_all x y ys is h.0), h)
      by Equal is rest = h
      by Greater is rest = (insert_above y ys x h.0 (turned x y is), rest)

  -- what is in the list afterwards: the new one, or what was there
  pub in_insert : (ys : List A) (x z : A) → Contains (insert_by cmp ys x) z → (x ≡ z) ⊎ Contains ys z
  in_insert [] x z h = in_cons x [] z h
  in_insert (y ∷ ys) x z h = by (cmp x y) (in_insert ys x z) h
    where
      by : (o : Ordering) → (Contains (insert_by cmp ys x) z → (x ≡ z) ⊎ Contains ys z) →
          Contains (by_order o (x ∷ y ∷ ys) (y ∷ ys) (y ∷ insert_by cmp ys x)) z → (x ≡ z) ⊎ Contains (y ∷ ys) z
      by Less rest h = in_cons x (y ∷ ys) z h
      by Equal rest h = inr h
      by Greater rest h = elim (in_cons y (insert_by cmp ys x) z h) [
        | inl is ↦ inr (subst (Contains (y ∷ ys)) is (in_first y ys))
        | inr later ↦ elim (rest later) [ inl is ↦ inl is | inr old ↦ inr (in_later y ys z old) ]
      ]

  -- what was there is still there
  pub insert_keeps : (ys : List A) (x z : A) → Contains ys z → Contains (insert_by cmp ys x) z
  insert_keeps [] x z h = absurd (none_in_nil z h)
  insert_keeps (y ∷ ys) x z h = by (cmp x y) (insert_keeps ys x z)
    where
      by : (o : Ordering) → (Contains ys z → Contains (insert_by cmp ys x) z) → Contains (by_order o (x ∷ y ∷ ys) (y ∷ ys) (y ∷ insert_by cmp ys x)) z
      by Less rest = in_later x (y ∷ ys) z h
      by Equal rest = h
      by Greater rest = elim (in_cons y ys z h) [
        | inl is ↦ subst (Contains (y ∷ insert_by cmp ys x)) is (in_first y (insert_by cmp ys x))
        | inr later ↦ in_later y (insert_by cmp ys x) z (rest later)
      ]

  -- the new one is there, where what compares as equal is equal
  pub insert_there : ((x y : A) → cmp x y ≡ Equal → x ≡ y) → (ys : List A) (x : A) → Contains (insert_by cmp ys x) x
  insert_there equal [] x = in_first x []
  insert_there equal (y ∷ ys) x = by (cmp x y) refl (insert_there equal ys x)
    where
      by : (o : Ordering) → cmp x y ≡ o → Contains (insert_by cmp ys x) x → Contains (by_order o (x ∷ y ∷ ys) (y ∷ ys) (y ∷ insert_by cmp ys x)) x
      by Less is rest = in_first x (y ∷ ys)
      by Equal is rest = subst (Contains (y ∷ ys)) (sym (equal x y is)) (in_first y ys)
      by Greater is rest = in_later y (insert_by cmp ys x) x rest

  -- ---- many more

  -- many insertions keep the order
  pub fold_rises : (ys xs : List A) → Rises Below ys → Rises Below (fold (insert_by cmp) ys xs)
  fold_rises ys [] h = h
  fold_rises ys (x ∷ xs) h = fold_rises (insert_by cmp ys x) xs (insert_rises ys x h)

  -- after them there is what was there and what came, and nothing else:
  pub in_fold : (ys xs : List A) (z : A) → Contains (fold (insert_by cmp) ys xs) z → Contains ys z ⊎ Contains xs z
  in_fold ys [] z h = inl h
  in_fold ys (x ∷ xs) z h = elim (in_fold (insert_by cmp ys x) xs z h) [
    | inl new ↦ elim (in_insert ys x z new) [ inl is ↦ inr (subst (Contains (x ∷ xs)) is (in_first x xs)) | inr old ↦ inl old ]
    | inr later ↦ inr (in_later x xs z later)
  ]

  -- what was there stays,
  pub fold_keeps : (ys xs : List A) (z : A) → Contains ys z → Contains (fold (insert_by cmp) ys xs) z
  fold_keeps ys [] z h = h
  fold_keeps ys (x ∷ xs) z h = fold_keeps (insert_by cmp ys x) xs z (insert_keeps ys x z h)

  -- and what came is there
  pub fold_there : ((x y : A) → cmp x y ≡ Equal → x ≡ y) → (ys xs : List A) (z : A) → Contains xs z → Contains (fold (insert_by cmp) ys xs) z
  fold_there equal ys [] z h = absurd (none_in_nil z h)
  fold_there equal ys (x ∷ xs) z h = elim (in_cons x xs z h) [
    | inl is ↦ subst (Contains (fold (insert_by cmp) (insert_by cmp ys x) xs)) is (fold_keeps (insert_by cmp ys x) xs x (insert_there equal ys x))
    | inr later ↦ fold_there equal (insert_by cmp ys x) xs z later
  ]
