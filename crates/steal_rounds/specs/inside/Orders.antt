-- The order in which the numbers of a round are worked.
--     low_half key, high_half key      the number and the rank of a key
--     AreKeys has_rank numbers keys    each number has a key, with a rank that the number has
--     RanksBefore has_rank s t         s has a lesser rank than t, or the same and isn't the greater number
--     IsOrdered has_rank xs ys         ys has the numbers of xs, each as often, and none before a later one of less rank
use Rattle.std.specs.Prelude.{◌≡◌, ℕ, ◌%◌, ◌/◌, ◌<◌, ◌≤◌, ◌⊎◌, List, map, Some, Contains, slice_get}
use Rattle.std.specs.List.Sorted.{IsPermutation}
use Rattle.graph_rules.specs.Graphs.{word_half}

abbrev pub low_half : ℕ → ℕ
low_half key = key % word_half

abbrev pub high_half : ℕ → ℕ
high_half key = key / word_half

pub record AreKeys (has_rank : ℕ → ℕ → Type 0) (numbers keys : List ℕ) : Type 0 where
  pub numbers_are : map low_half keys ≡ numbers
  pub ranks_are : (key : ℕ) → Contains keys key → has_rank (low_half key) (high_half key)

pub record RanksBefore (has_rank : ℕ → ℕ → Type 0) (s t : ℕ) : Type 0 where
  pub rank : ℕ
  pub later_rank : ℕ
  pub has : has_rank s rank
  pub later_has : has_rank t later_rank
  pub rises : (rank < later_rank) ⊎ ((rank ≡ later_rank) × (s ≤ t))

pub record IsOrdered (has_rank : ℕ → ℕ → Type 0) (xs ys : List ℕ) : Type 0 where
  pub same : IsPermutation xs ys
  pub rises : (i j s t : ℕ) → i ≤ j → slice_get ys i ≡ Some s → slice_get ys j ≡ Some t → RanksBefore has_rank s t
