-- Outlines in order, each once: they rise, and are the same outlines.
use Rattle.std.proofs.Common.{ℕ, ◌≡◌, List, [], Contains, ◌↔◌, inl, inr, Less}
use Rattle.std.specs.Cmp.Lexicographic.{nat_list_cmp_total}
use Rattle.steno_rules.specs.Nodes.{in_order}
use Rattle.steno_rules.specs.Outlines.{AreRising, outline_cmp}
use Rattle.steno_rules.proofs.Lists.{none_in_nil}
use Rattle.steno_rules.proofs.Rising.{Rises, pairs_of_rises, fold_rises, in_fold, fold_there}
use Rattle.steno_rules.proofs.NodeLemmas.{same_of_equal}

pub in_order-rising : (xs : List (List ℕ)) → AreRising (in_order xs)
unfolding Rises
in_order-rising xs = pairs_of_rises (λ a b. outline_cmp a b ≡ Less) (in_order xs) (fold_rises outline_cmp nat_list_cmp_total [] xs tt)

pub in_order-Contains : (xs : List (List ℕ)) (z : List ℕ) → Contains (in_order xs) z ↔ Contains xs z
in_order-Contains xs z = (
  λ h. elim (in_fold outline_cmp nat_list_cmp_total [] xs z h) [ inl none ↦ absurd (none_in_nil z none) | inr there ↦ there ],
  fold_there outline_cmp nat_list_cmp_total same_of_equal [] xs z,
)
