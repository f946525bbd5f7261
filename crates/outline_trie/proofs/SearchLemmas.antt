-- What a binary search finds in a row of children.
use Rattle.std.proofs.Common.{◌≡◌, ℕ, ◌<◌, ◌≤◌, List, length, get_or, Some, None, Ok, Err, sym, ap, arith, inl, inr}
use Rattle.std.specs.List.Sorted.{IsBinarySearchResult, IsNonDecreasingBy}
use Rattle.std.specs.Ordering.{nat_cmp, ordering_index}
use Rattle.std.proofs.lemmas.Cmp.{ranked}
use Rattle.std.proofs.lemmas.Bool.{cases_lt}
use Rattle.std.proofs.lemmas.List.Sorted.{IsNonDecreasingBy-from_default}
use Rattle.std.proofs.lemmas.List.{get_or_default}
use Rattle.std.proofs.lemmas.Bool.Decides.{nat_tests}
use Rattle.outline_trie.specs.Tries.{AreChildren, child_of}
use Rattle.outline_trie.proofs.ChildLemmas.{child_there, child_none}

code_at : List (ℕ × ℕ) → ℕ → ℕ
code_at row i = (get_or row i (0, 0)).0

module _ (entries : List (List ℕ)) (node : ℕ) (row : List (ℕ × ℕ)) (c : AreChildren entries node row) (code : ℕ) where
  -- the comparisons with the code rise along the row, as a binary search asks
  comparisons_rise : IsNonDecreasingBy (λ (pair : ℕ × ℕ). ordering_index (nat_cmp pair.0 code)) row
  unfolding code_at
  comparisons_rise = IsNonDecreasingBy-from_default (λ (pair : ℕ × ℕ). ordering_index (nat_cmp pair.0 code)) row (0, 0) (λ i j le in_range.
      let codes_rise : code_at row i ≤ code_at row j = grind (arith, c.rising i j (0, 0), λ (same : i ≡ j). ap (code_at row) same) in
      grind (arith, nat_tests))

  pub found_there : (place : ℕ) → place < length row → IsBinarySearchResult (λ (pair : ℕ × ℕ). nat_cmp pair.0 code) row (Ok place) → Some (get_or row place (0, 0)).1 ≡ child_of entries node code
  found_there place inside equal =
      sym (child_there entries node row c place code (get_or row place (0, 0)) inside (get_or_default row place (0, 0) (get_or row place (0, 0)) inside) (ranked (get_or row place (0, 0)).0 code _ (sym (equal (0, 0)))))

  pub found_nowhere : (place : ℕ) → IsBinarySearchResult (λ (pair : ℕ × ℕ). nat_cmp pair.0 code) row (Err place) → None ≡ child_of entries node code
  found_nowhere place parted = sym (child_none entries node row c code (λ k inside same. elim (cases_lt k place) [
    | inl before ↦ absurd (omega (arith, same, ranked (get_or row k (0, 0)).0 code _ (sym ((parted comparisons_rise).0 k (0, 0) (omega arith) before))))
    | inr behind ↦ absurd (omega (arith, same, ranked (get_or row k (0, 0)).0 code _ (sym ((parted comparisons_rise).1 k (0, 0) behind inside))))
  ]))
