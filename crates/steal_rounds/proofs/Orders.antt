-- The order in which the numbers of a round are worked.
use Rattle.std.proofs.Common.{◌≡◌, ℕ, zero, suc, ◌+◌, ◌*◌, ◌<◌, ◌≤◌, List, [], ◌∷◌, ◌++◌, length, map, Some, refl, ap, sym, subst, ◌∙◌, inl, inr, arith, ◌⊎◌, ⊎_elim, Contains}
use Rattle.std.specs.Prelude.{slice_get}
use Rattle.std.specs.Ordering.{nat_cmp}
use Rattle.std.specs.List.Sorted.{IsPermutation, IsSorted, IsNonDecreasing}
use Rattle.std.proofs.lemmas.List.{map-append}
use Rattle.std.proofs.lemmas.List.Elements.{Contains-append_cases}
use Rattle.std.proofs.lemmas.List.Sorted.{Contains-permutation, IsPermutation-sym, IsPermutation-map, IsNonDecreasingBy-from_sort, length_permutation, sum_by-IsPermutation}
use Rattle.std.proofs.lemmas.Bool.{cases_lt}
use Rattle.std.proofs.lemmas.Nat.{mod-mul-add, div-mul-add}
use Rattle.std.proofs.lemmas.Option.{get_or_from_slice_get, slice_get_within}
use Rattle.graph_rules.specs.Graphs.{row}
use Rattle.dist_table.specs.declared.call.Call.{Call}
use Rattle.dist_table.specs.Tables.{TableView}
use Rattle.round_core.specs.Rounds.{Has}
use Rattle.round_core.specs.inside.InRounds.{moves_of}
use Rattle.steal_rounds.specs.inside.Crews.{IsRound}
use Rattle.steal_rounds.specs.inside.Fronts.{IsWorked}
use Rattle.steal_rounds.specs.inside.Orders.{low_half, high_half, AreKeys, RanksBefore, IsOrdered}
use Rattle.steal_rounds.proofs.Rises.{contains_has, has_contains}

-- ---- keys

-- a list of one
in_one : (x y : ℕ) → Contains (x ∷ []) y → x ≡ y
in_one x y (zero, lt, is) = is
in_one x y (suc k, lt, is) = absurd (omega (arith, lt))

-- the key of one number more
pub keys_next : (has_rank : ℕ → ℕ → Type 0) (numbers keys : List ℕ) (s rank key : ℕ) → AreKeys has_rank numbers keys → s < 4294967296 → has_rank s rank →
    key ≡ rank * 4294967296 + s → AreKeys has_rank (numbers ++ s ∷ []) (keys ++ key ∷ [])
keys_next has_rank numbers keys s rank key are few has is = record {
  numbers_are = map-append low_half keys (key ∷ []) ∙ ap (λ (l : List ℕ). l ++ low_half key ∷ []) are.numbers_are ∙ ap (λ (n : ℕ). numbers ++ n ∷ []) low;
  ranks_are = λ k within. ⊎_elim (λ (old : Contains keys k). are.ranks_are k old)
      (λ (new : Contains (key ∷ []) k). subst (λ n. has_rank (low_half n) (high_half n)) (in_one key k new)
      (subst (λ n. has_rank (low_half key) n) (sym high) (subst (λ n. has_rank n rank) (sym low) has)))
      (Contains-append_cases keys (key ∷ []) k within);
}
  where
    low : low_half key ≡ s
    low = ap low_half is ∙ mod-mul-add rank 4294967296 s few

    high : high_half key ≡ rank
    high = ap high_half is ∙ div-mul-add rank 4294967296 s few

-- ---- the order

-- an element of a list of values
get_map : (f : ℕ → ℕ) (xs : List ℕ) (i y : ℕ) → slice_get (map f xs) i ≡ Some y → (x : ℕ) × (slice_get xs i ≡ Some x) × (f x ≡ y)
get_map f [] i y e = absurd (cc e)
get_map f (x ∷ xs) zero y e = (x, refl, cc e)
get_map f (x ∷ xs) (suc i) y e = get_map f xs i y e

-- what keys in rising order say of their halves
halves : (a b : ℕ) → a ≤ b → (high_half a < high_half b) ⊎ ((high_half a ≡ high_half b) × (low_half a ≤ low_half b))
halves a b le = elim (cases_lt (high_half a) (high_half b)) [
  | inl lt ↦ inl lt
  | inr ge ↦ inr (omega (arith, le, ge), omega (arith, le, ge))
]

-- sorted keys put their numbers in order
pub ordered : (has_rank : ℕ → ℕ → Type 0) (numbers keys sorted : List ℕ) → AreKeys has_rank numbers keys → IsPermutation keys sorted → IsSorted nat_cmp sorted →
    IsOrdered has_rank numbers (map low_half sorted)
ordered has_rank numbers keys sorted are same rising = record {
  same = subst (λ (l : List ℕ). IsPermutation l (map low_half sorted)) are.numbers_are (IsPermutation-map low_half keys sorted same);
  rises = λ i j s t le at later.
      let x = get_map low_half sorted i s at in
      let y = get_map low_half sorted j t later in
      by x.0 y.0 (between i j x.0 y.0 le x.1 y.1) (has_contains sorted x.0 (i, x.1)) (has_contains sorted y.0 (j, y.1)) s t x.2 y.2;
}
  where
    nondecreasing : IsNonDecreasing sorted
    nondecreasing = IsNonDecreasingBy-from_sort (λ (n : ℕ). n) sorted rising

    between : (i j a b : ℕ) → i ≤ j → slice_get sorted i ≡ Some a → slice_get sorted j ≡ Some b → a ≤ b
    between i j a b le at later =
        let l = nondecreasing i j 0 le (slice_get_within sorted j b later) in
        let e = get_or_from_slice_get sorted i a 0 at in
        let f = get_or_from_slice_get sorted j b 0 later in
        omega (arith, l, e, f)

    by : (a b : ℕ) → a ≤ b → Contains sorted a → Contains sorted b → (s t : ℕ) → low_half a ≡ s → low_half b ≡ t → RanksBefore has_rank s t
    by a b le in_a in_b s t e f = subst (λ n. RanksBefore has_rank n t) e (subst (λ n. RanksBefore has_rank (low_half a) n) f (record {
      rank = high_half a;
      later_rank = high_half b;
      has = are.ranks_are a (Contains-permutation sorted keys a (IsPermutation-sym keys sorted same) in_a);
      later_has = are.ranks_are b (Contains-permutation sorted keys b (IsPermutation-sym keys sorted same) in_b);
      rises = halves a b le;
    }))

-- ---- what stays the same

-- the same numbers are in both lists
order_has : (has_rank : ℕ → ℕ → Type 0) (xs ys : List ℕ) (u : ℕ) → IsOrdered has_rank xs ys → Has xs u → Has ys u
order_has has_rank xs ys u o has = contains_has ys u (Contains-permutation xs ys u o.same (has_contains xs u has))

has_order : (has_rank : ℕ → ℕ → Type 0) (xs ys : List ℕ) (u : ℕ) → IsOrdered has_rank xs ys → Has ys u → Has xs u
has_order has_rank xs ys u o has = contains_has xs u (Contains-permutation ys xs u (IsPermutation-sym xs ys o.same) (has_contains ys u has))

-- both are as long
pub order_length : (has_rank : ℕ → ℕ → Type 0) (xs ys : List ℕ) → IsOrdered has_rank xs ys → length ys ≡ length xs
order_length has_rank xs ys o = length_permutation xs ys o.same

-- the numbers of a round in another order are one,
pub order_round : (has_rank : ℕ → ℕ → Type 0) (t : TableView) (k : ℕ) (xs ys : List ℕ) → IsOrdered has_rank xs ys → IsRound t k xs → IsRound t k ys
order_round has_rank t k xs ys o r = (r.0, (λ i s at. (let h = has_order has_rank xs ys s o (i, at) in r.1 h.0 s h.1)), r.2)

-- what was worked in one order was worked in the other,
pub order_worked : (has_rank : ℕ → ℕ → Type 0) (t : TableView) (k : ℕ) (xs ys : List ℕ) (seen now : List Call) (notes : List ℕ) → IsOrdered has_rank xs ys →
    IsWorked t k ys seen now notes → IsWorked t k xs seen now notes
order_worked has_rank t k xs ys seen now notes o w = record {
  legal = w.legal;
  grows = w.grows;
  moves = λ s u has target. w.moves s u (order_has has_rank xs ys s o has) target;
  adds = λ u has. (let f = w.adds u has in (f.0, has_order has_rank xs ys f.0 o f.1, f.2));
}

-- and the moves are as many.
pub order_moves : (has_rank : ℕ → ℕ → Type 0) (lists : List (List ℕ)) (xs ys : List ℕ) → IsOrdered has_rank xs ys → moves_of lists ys ≡ moves_of lists xs
order_moves has_rank lists xs ys o = sum_by-IsPermutation (λ s. length (row lists s)) xs ys o.same
