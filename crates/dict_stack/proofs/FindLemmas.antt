-- What a binary search over rising outlines finds.
use Rattle.std.proofs.Common.{◌≡◌, ℕ, ◌<◌, ◌≤◌, List, [], length, refl, sym, ap, ◌∙◌, subst, arith, Option, Some, None, HoldsAt, inl, inr, Less, Equal, Greater}
use Rattle.std.specs.List.Sorted.{IsPartitionPoint, IsNonDecreasingBy}
use Rattle.std.specs.Ordering.{ordering_index}
use Rattle.std.specs.Cmp.Lexicographic.{nat_list_cmp_total}
use Rattle.std.proofs.lemmas.Bool.{cases_lt}
use Rattle.std.proofs.lemmas.List.Sorted.{searchable_from_sorted}
use Rattle.steno_rules.specs.Outlines.{outline_cmp, AreRising, entry_number, outline_of}
use Rattle.steno_rules.proofs.Numbers.{not_below_self, entry_number-outline_of, entry_number-Some}
use Rattle.steno_rules.proofs.NodeLemmas.{same_of_equal}
use Rattle.dict_stack.specs.Finding.{IsMissing}
use Rattle.dict_stack.proofs.OrderLemmas.{sorted_of_rising, not_above_self}

-- rising outlines compare with x in the order that a binary search asks for
pub searchable : (entries : List (List ℕ)) (x : List ℕ) → AreRising entries → IsNonDecreasingBy (λ y. ordering_index (outline_cmp y x)) entries
searchable entries x rising = searchable_from_sorted nat_list_cmp_total (λ y. y) entries x (sorted_of_rising entries rising)

-- An entry that compares as equal has the number.
pub number_found : (xs entries : List (List ℕ)) (x : List ℕ) (k : ℕ) → xs ≡ entries → AreRising entries → k < length xs → HoldsAt (λ y. outline_cmp y x ≡ Equal) xs k → entry_number entries x ≡ Some k
number_found xs entries x k are rising below same =
    subst (λ y. entry_number entries y ≡ Some k) (ap (λ l. outline_of l k) (sym are) ∙ same_of_equal (outline_of xs k) x (same []))
    (entry_number-outline_of entries k rising (subst (λ l. k < length l) are below))

-- A list between two neighbours is no entry.
pub number_missing : (xs entries : List (List ℕ)) (x : List ℕ) (i : ℕ) → xs ≡ entries → AreRising entries →
    (IsNonDecreasingBy (λ y. ordering_index (outline_cmp y x)) xs → IsPartitionPoint (λ y. outline_cmp y x ≡ Less) (λ y. outline_cmp y x ≡ Greater) xs i) → entry_number entries x ≡ None
number_missing xs entries x i are rising found = by (entry_number entries x) refl (subst Parted are found (searchable entries x rising))
  where
    Parted : List (List ℕ) → Type 0
    Parted l = IsNonDecreasingBy (λ y. ordering_index (outline_cmp y x)) l → IsPartitionPoint (λ y. outline_cmp y x ≡ Less) (λ y. outline_cmp y x ≡ Greater) l i

    by : (o : Option ℕ) → entry_number entries x ≡ o → IsPartitionPoint (λ y. outline_cmp y x ≡ Less) (λ y. outline_cmp y x ≡ Greater) entries i → o ≡ None
    by None is split = refl
    by (Some e) is split =
        let found = entry_number-Some entries x e is in
        elim (cases_lt e i) [
          | inl before ↦ absurd (not_below_self x (subst (λ y. outline_cmp y x ≡ Less) found.1 (split.0 e [] (omega arith) before)))
          | inr after ↦ absurd (not_above_self x (subst (λ y. outline_cmp y x ≡ Greater) found.1 (split.1 e [] after found.0)))
        ]

-- A list between two neighbours has its place between them.
pub place_missing : (xs entries : List (List ℕ)) (x : List ℕ) (i : ℕ) → xs ≡ entries → AreRising entries → i ≤ length xs →
    (IsNonDecreasingBy (λ y. ordering_index (outline_cmp y x)) xs → IsPartitionPoint (λ y. outline_cmp y x ≡ Less) (λ y. outline_cmp y x ≡ Greater) xs i) → IsMissing entries x i
place_missing xs entries x i are rising within found = record {
  apart = number_missing xs entries x i are rising found;
  within = subst (λ (l : List (List ℕ)). i ≤ length l) are within;
  before = λ k below. split.0 k [] (omega (arith, within, ap length are)) below;
  behind = λ k from below. split.1 k [] from below;
}
  where
    Parted : List (List ℕ) → Type 0
    Parted l = IsNonDecreasingBy (λ y. ordering_index (outline_cmp y x)) l → IsPartitionPoint (λ y. outline_cmp y x ≡ Less) (λ y. outline_cmp y x ≡ Greater) l i

    split : IsPartitionPoint (λ y. outline_cmp y x ≡ Less) (λ y. outline_cmp y x ≡ Greater) entries i
    split = subst Parted are found (searchable entries x rising)
