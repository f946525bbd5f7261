-- Elements that have a text each, the first of each text: a stable sort by the texts leaves it the first, and freeing the
-- sorted ones of the later ones of each text leaves rising texts.
use Rattle.std.proofs.Common.{◌≡◌, ℕ, List, [], ◌∷◌, map, refl, sym, ap, ap₂, subst, ◌∙◌, Bool, true, false, cond, not, ◌&&◌, nat_eq, Option, Some, None, find, filter, Ordering, Less, Equal, Greater, is_eq, is_lt}
use Rattle.std.specs.List.{AllByRecursion, dedup, dedup_from}
use Rattle.std.specs.List.Sorted.{IsSortedBy, IsStableBy, IsStrictlySortedBy, ties}
use Rattle.std.specs.Ordering.{on, ordering_reverse}
use Rattle.std.specs.Cmp.Lexicographic.{pointwise, bytes_decides, nat_list_cmp_total, texts_ties, on_texts}
use Rattle.std.proofs.lemmas.List.Elements.{filter_agree}
use Rattle.std.proofs.lemmas.List.Kept.{IsStrictlySortedBy-dedup}
use Rattle.std.specs.Cmp.{IsStrictWeakOrder}
use Rattle.std.proofs.lemmas.List.Sorted.{ranks_by}
use Rattle.steno_rules.specs.Outlines.{outline_cmp}
use Rattle.steno_rules.proofs.NodeLemmas.{same_of_equal}
use Rattle.steno_rules.proofs.Rising.{Rises}

-- one text comes before the other
abbrev pub Before : List ℕ → List ℕ → Type 0
Before a b = outline_cmp a b ≡ Less

-- neither of two texts comes before the other just where they are one
ties_by : (o : Ordering) → not (is_lt (ordering_reverse o)) && not (is_lt o) ≡ is_eq o
ties_by Less = refl
ties_by Equal = refl
ties_by Greater = refl

-- one that comes before another differs from it
differs : (x y : List ℕ) → Before x y → pointwise nat_eq y x ≡ false
differs x y h = texts_ties y x ∙ ap is_eq (nat_list_cmp_total.antisymm y x ∙ ap ordering_reverse h)

some_none : {A : Type 0} (x : A) → Some x ≡ None → ⊥
some_none x e = cc

some_same : {A : Type 0} (x y : A) → Some x ≡ Some y → x ≡ y
some_same x y e = cc

module _ {A : Type 0} (text_of : A → List ℕ) where
  -- the first element's text comes before the second one's
  abbrev pub is_before : A → A → Bool
  is_before a b = is_lt (outline_cmp (text_of a) (text_of b))

  -- the two have one text
  abbrev pub is_same : A → A → Bool
  is_same a b = pointwise nat_eq (text_of a) (text_of b)

  -- the element has this text
  abbrev pub has_text : List ℕ → A → Bool
  has_text text a = pointwise nat_eq (text_of a) text

  pub is_before-weak : IsStrictWeakOrder is_before
  is_before-weak = ranks_by nat_list_cmp_total text_of

  -- the first element, if there is one
  abbrev first_of : List A → Option A
  first_of [] = None
  first_of (e ∷ es) = Some e

  find-filter : (p : A → Bool) (es : List A) → find p es ≡ first_of (filter p es)
  find-filter p [] = refl
  find-filter p (e ∷ es) = by (p e) (find-filter p es)
    where
      by : (b : Bool) → find p es ≡ first_of (filter p es) → cond b (Some e) (find p es) ≡ first_of (cond b (e ∷ filter p es) (filter p es))
      by true rest = refl
      by false rest = rest

  ties-has_text : (a b : A) → ties is_before a b ≡ has_text (text_of a) b
  ties-has_text a b =
      ap (λ o. not (is_lt o) && not (is_lt (outline_cmp (text_of b) (text_of a)))) (nat_list_cmp_total.antisymm (text_of a) (text_of b))
      ∙ ties_by (outline_cmp (text_of b) (text_of a)) ∙ sym (texts_ties (text_of b) (text_of a))

  -- a stable sort leaves the first element of each text the first one
  find-stable : (e : A) (xs ys : List A) → IsStableBy is_before xs ys → find (has_text (text_of e)) ys ≡ find (has_text (text_of e)) xs
  find-stable e xs ys stable =
      let tied = filter_agree (ties is_before e) (has_text (text_of e)) (ties-has_text e) in
      find-filter (has_text (text_of e)) ys ∙ ap first_of (sym (tied ys) ∙ stable e ∙ tied xs) ∙ sym (find-filter (has_text (text_of e)) xs)

  same_test : (text : List ℕ) (a b : A) → is_same a b ≡ true → has_text text a ≡ has_text text b
  same_test text a b same = ap (λ l. pointwise nat_eq l text) ((bytes_decides (text_of a) (text_of b)).0 same)

  -- and so does leaving out the later ones of a run
  find-dedup_from : (text : List ℕ) (k : A) (xs : List A) → find (has_text text) (dedup_from is_same k xs) ≡ find (has_text text) (k ∷ xs)
  find-dedup_from text k [] = refl
  find-dedup_from text k (x ∷ xs) = by (is_same x k) refl (find-dedup_from text k xs) (find-dedup_from text x xs)
    where
      skip : (b c : Bool) → c ≡ b → (o : Option A) → cond b (Some k) o ≡ cond b (Some k) (cond c (Some x) o)
      skip true c e o = refl
      skip false c e o = ap (λ t. cond t (Some x) o) (sym e)

      by : (b : Bool) → is_same x k ≡ b → find (has_text text) (dedup_from is_same k xs) ≡ find (has_text text) (k ∷ xs) → find (has_text text) (dedup_from is_same x xs) ≡ find (has_text text) (x ∷ xs) →
          find (has_text text) (cond b (dedup_from is_same k xs) (k ∷ dedup_from is_same x xs)) ≡ find (has_text text) (k ∷ x ∷ xs)
      by true same kept next = kept ∙ skip (has_text text k) (has_text text x) (same_test text x k same) (find (has_text text) xs)
      by false other kept next = ap (λ o. cond (has_text text k) (Some k) o) next

  find-dedup : (text : List ℕ) (xs : List A) → find (has_text text) (dedup is_same xs) ≡ find (has_text text) xs
  find-dedup text [] = refl
  find-dedup text (x ∷ xs) = find-dedup_from text x xs

  -- of each text that some element may have, the first one stays
  pub find-kept : (e : A) (xs ys : List A) → IsStableBy is_before xs ys → find (has_text (text_of e)) (dedup is_same ys) ≡ find (has_text (text_of e)) xs
  find-kept e xs ys stable = find-dedup (text_of e) ys ∙ find-stable e xs ys stable

  -- rising elements by their texts
  rises_of : (xs : List A) → IsStrictlySortedBy (on text_of outline_cmp) xs → Rises Before (map text_of xs)
  unfolding Rises IsStrictlySortedBy
  rises_of [] h = tt
  rises_of (x ∷ xs) h = (above x xs h.0, rises_of xs h.1)
    where
      above : (y : A) (ys : List A) → AllByRecursion (λ z. outline_cmp (text_of y) (text_of z) ≡ Less) ys → AllByRecursion (λ z. outline_cmp (text_of y) z ≡ Less) (map text_of ys)
      above y [] all = tt
      above y (z ∷ ys) all = (all.0, above y ys all.1)

  pub rises-kept : (xs : List A) → IsSortedBy is_before xs → Rises Before (map text_of (dedup is_same xs))
  rises-kept xs up = rises_of (dedup is_same xs) (IsStrictlySortedBy-dedup (on_texts text_of) (λ a b. texts_ties (text_of a) (text_of b)) xs up)

  -- none of those that a text comes before has it
  pub find_above : (text : List ℕ) (xs : List A) → AllByRecursion (λ z. outline_cmp text z ≡ Less) (map text_of xs) → find (has_text text) xs ≡ None
  find_above text [] all = refl
  find_above text (x ∷ xs) all = ap (λ b. cond b (Some x) (find (has_text text) xs)) (differs text (text_of x) all.0) ∙ find_above text xs all.1

  find_first : (x : A) (xs : List A) → find (has_text (text_of x)) (x ∷ xs) ≡ Some x
  find_first x xs = ap (λ b. cond b (Some x) (find (has_text (text_of x)) xs)) ((bytes_decides (text_of x) (text_of x)).1 refl)

  above_all : (text : List ℕ) (y : A) (ys : List A) → Before text (text_of y) → AllByRecursion (λ z. outline_cmp (text_of y) z ≡ Less) (map text_of ys) → AllByRecursion (λ z. outline_cmp text z ≡ Less) (map text_of (y ∷ ys))
  above_all text y ys first all = (first, onward ys all)
    where
      onward : (zs : List A) → AllByRecursion (λ z. outline_cmp (text_of y) z ≡ Less) (map text_of zs) → AllByRecursion (λ z. outline_cmp text z ≡ Less) (map text_of zs)
      onward [] h = tt
      onward (z ∷ zs) h = (nat_list_cmp_total.trans text (text_of y) (text_of z) first h.0, onward zs h.1)

  -- lists of rising texts in which each text finds the same are one
  pub rising_found : (xs ys : List A) → Rises Before (map text_of xs) → Rises Before (map text_of ys) → ((text : List ℕ) → find (has_text text) xs ≡ find (has_text text) ys) → xs ≡ ys
  unfolding Rises
  rising_found [] [] a b same = refl
  rising_found [] (y ∷ ys) a b same = absurd (some_none y (sym (find_first y ys) ∙ sym (same (text_of y))))
  rising_found (x ∷ xs) [] a b same = absurd (some_none x (sym (find_first x xs) ∙ same (text_of x)))
  rising_found (x ∷ xs) (y ∷ ys) a b same = by (outline_cmp (text_of x) (text_of y)) refl (rising_found xs ys a.1 b.1)
    where
      tails : (one : x ≡ y) (text : List ℕ) (t : Bool) → has_text text x ≡ t → find (has_text text) xs ≡ find (has_text text) ys
      tails one text true is =
          let this : text_of x ≡ text = (bytes_decides (text_of x) text).0 is in
          let that : text_of y ≡ text = sym (ap text_of one) ∙ this in
          find_above text xs (subst (λ t. AllByRecursion (λ z. outline_cmp t z ≡ Less) (map text_of xs)) this a.0)
          ∙ sym (find_above text ys (subst (λ t. AllByRecursion (λ z. outline_cmp t z ≡ Less) (map text_of ys)) that b.0))
      tails one text false is =
          sym (ap (λ t. cond t (Some x) (find (has_text text) xs)) is) ∙ same text ∙ ap (λ t. cond t (Some y) (find (has_text text) ys)) (sym (ap (has_text text) one) ∙ is)

      by : (o : Ordering) → outline_cmp (text_of x) (text_of y) ≡ o → (((text : List ℕ) → find (has_text text) xs ≡ find (has_text text) ys) → xs ≡ ys) → x ∷ xs ≡ y ∷ ys
      by Less is rest = absurd (some_none x (sym (find_first x xs) ∙ same (text_of x) ∙ find_above (text_of x) (y ∷ ys) (above_all (text_of x) y ys is b.0)))
      by Greater is rest =
          let less = nat_list_cmp_total.antisymm (text_of y) (text_of x) ∙ ap ordering_reverse is in
          absurd (some_none y (sym (find_first y ys) ∙ sym (same (text_of y)) ∙ find_above (text_of y) (x ∷ xs) (above_all (text_of y) x xs less a.0)))
      by Equal is rest =
          let text = same_of_equal (text_of x) (text_of y) is in
          let one : x ≡ y = some_same x y (sym (find_first x xs) ∙ same (text_of x) ∙ ap (λ t. find (has_text t) (y ∷ ys)) text ∙ find_first y ys) in
          ap₂ (λ z l. z ∷ l) one (rest (λ t. tails one t (has_text t x) refl))
