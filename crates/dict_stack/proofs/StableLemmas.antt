-- Candidates that a stable sort puts in order say the same first.
use Rattle.std.proofs.Common.{◌≡◌, ℕ, List, [], ◌∷◌, map, refl, sym, ap, ◌∙◌, Bool, true, false, not, ◌&&◌, cond, nat_eq, find, filter, Option, Some, None, unwrap_or, option_map, Contains, ◌↔◌, Ordering, Less, Equal, Greater, is_eq}
use Rattle.std.specs.List.Sorted.{IsPermutation, IsStableByKey, ties}
use Rattle.std.specs.Ordering.{is_lt, ordering_reverse}
use Rattle.std.specs.Cmp.Lexicographic.{pointwise, nat_list_cmp_total}
use Rattle.std.proofs.lemmas.Map.Text.{is_eq-slice_cmp}
use Rattle.std.proofs.lemmas.List.Elements.{filter_agree}
use Rattle.std.proofs.lemmas.List.Sorted.{IsPermutation-map, IsPermutation-sym, Contains-permutation, list_any-IsPermutation}
use Rattle.steno_rules.specs.Outlines.{outline_cmp}
use Rattle.steno_rules.proofs.Rising.{rising_same}
use Rattle.steno_rules.specs.Nodes.{in_order}
use Rattle.dict_stack.specs.inside.Candidates.{candidate, candidate_outline, spells, said_first, some_word, IsMerged}
use Rattle.dict_stack.specs.declared.candidates.Candidate.{Candidate}
use Rattle.dict_stack.specs.declared.columns.Columns.{Columns}
use Rattle.steno_rules.proofs.InOrder.{in_order-rising, in_order-Contains}
use Rattle.dict_stack.proofs.ColumnLemmas.{map_same}

module _ {X : Type 0} where
  -- the first element, if there is one
  first_of : List X → Option X
  first_of [] = None
  first_of (x ∷ xs) = Some x

  -- what is found is the first that passes
  find_filter : (p : X → Bool) (xs : List X) → find p xs ≡ first_of (filter p xs)
  unfolding first_of
  find_filter p [] = refl
  find_filter p (x ∷ xs) = by (p x) (find_filter p xs)
    where
      by : (b : Bool) → find p xs ≡ first_of (filter p xs) → cond b (Some x) (find p xs) ≡ first_of (cond b (x ∷ filter p xs) (filter p xs))
      by true rest = refl
      by false rest = rest

-- a candidate with this outline
abbrev any_at : List ℕ → Candidate
any_at x = candidate 0 false (record { outline = x; text = [] })

-- neither of two outlines is below the other just where they are one
tie_at : (x o : List ℕ) → (not (is_lt (outline_cmp x o)) && not (is_lt (outline_cmp o x))) ≡ pointwise nat_eq o x
tie_at x o = ap (λ r. not (is_lt r) && not (is_lt (outline_cmp o x))) (nat_list_cmp_total.antisymm x o) ∙ equal (outline_cmp o x) ∙ is_eq-slice_cmp o x
  where
    equal : (r : Ordering) → (not (is_lt (ordering_reverse r)) && not (is_lt r)) ≡ is_eq r
    equal Less = refl
    equal Equal = refl
    equal Greater = refl

-- a stable sort leaves the first candidate with an outline the first
first_stays : (cs sorted : List Candidate) (x : List ℕ) → IsStableByKey candidate_outline outline_cmp cs sorted → find (spells x) sorted ≡ find (spells x) cs
first_stays cs sorted x stable =
    find_filter (spells x) sorted
    ∙ ap first_of (sym (filter_agree (ties (λ a b. is_lt (outline_cmp (candidate_outline a) (candidate_outline b))) (any_at x)) (spells x) (λ c. tie_at x (candidate_outline c)) sorted)
    ∙ stable (any_at x)
    ∙ filter_agree (ties (λ a b. is_lt (outline_cmp (candidate_outline a) (candidate_outline b))) (any_at x)) (spells x) (λ c. tie_at x (candidate_outline c)) cs)
    ∙ sym (find_filter (spells x) cs)

module _ {A : Type 0} where
  -- so all say the same first
  said_same : (f : Candidate → A) (otherwise : A) (cs sorted : List Candidate) → IsStableByKey candidate_outline outline_cmp cs sorted → (xs : List (List ℕ)) →
      map (said_first f otherwise sorted) xs ≡ map (said_first f otherwise cs) xs
  said_same f otherwise cs sorted stable xs =
      map_same (said_first f otherwise sorted) (said_first f otherwise cs) xs (λ x has. ap (λ o. unwrap_or (option_map f o) otherwise) (first_stays cs sorted x stable))

-- Lists with the same members are the same in order.
pub in_order_same : (xs ys : List (List ℕ)) → ((z : List ℕ) → Contains xs z ↔ Contains ys z) → in_order xs ≡ in_order ys
in_order_same xs ys same = rising_same outline_cmp nat_list_cmp_total (in_order xs) (in_order ys) (in_order-rising xs) (in_order-rising ys) (λ z. (
  λ h. (in_order-Contains ys z).1 ((same z).0 ((in_order-Contains xs z).0 h)),
  λ h. (in_order-Contains xs z).1 ((same z).1 ((in_order-Contains ys z).0 h)),
))

-- The sorted candidates have the same outlines.
pub ordered_same : (cs sorted : List Candidate) → IsPermutation cs sorted → in_order (map candidate_outline sorted) ≡ in_order (map candidate_outline cs)
ordered_same cs sorted moved =
    let outlines : IsPermutation (map candidate_outline cs) (map candidate_outline sorted) = IsPermutation-map candidate_outline cs sorted moved in
    in_order_same (map candidate_outline sorted) (map candidate_outline cs) (λ z. (
      λ h. Contains-permutation (map candidate_outline sorted) (map candidate_outline cs) z (IsPermutation-sym (map candidate_outline cs) (map candidate_outline sorted) outlines) h,
      λ h. Contains-permutation (map candidate_outline cs) (map candidate_outline sorted) z outlines h,
    ))

-- What stands of the sorted candidates stands of the candidates.
pub merged_of_sorted : (cs sorted : List Candidate) (columns : Columns) → IsPermutation cs sorted → IsStableByKey candidate_outline outline_cmp cs sorted → IsMerged sorted columns → IsMerged cs columns
merged_of_sorted cs sorted columns moved stable is = record {
  outlines_are = is.outlines_are ∙ ordered_same cs sorted moved;
  texts_are = is.texts_are ∙ said_same (λ e. e.entry.text) [] cs sorted stable columns.outlines.items;
  from_are = is.from_are ∙ said_same (λ e. e.place) 0 cs sorted stable columns.outlines.items;
  words_are = is.words_are
      ∙ map_same (some_word sorted) (some_word cs) columns.outlines.items (λ x has. sym (list_any-IsPermutation (λ c. c.is_word && spells x c) cs sorted moved));
}
