-- The order of outlines, and outlines in order with one more.
use Rattle.std.proofs.Common.{◌≡◌, ℕ, ◌+◌, List, [], ◌∷◌, ◌++◌, get_or, sym, ap, ◌∙◌, arith, false, Less, Greater}
use Rattle.std.specs.List.Sorted.{IsSortedBy}
use Rattle.std.specs.Ordering.{is_lt, ordering_reverse}
use Rattle.std.specs.Cmp.Lexicographic.{nat_list_cmp_total}
use Rattle.std.proofs.lemmas.List.Sums.{fold_push}
use Rattle.steno_rules.specs.Outlines.{outline_cmp, AreRising}
use Rattle.steno_rules.specs.Nodes.{insert_new, in_order}
use Rattle.steno_rules.proofs.Lists.{pairs_tail}

-- no outline is above itself
pub not_above_self : (x : List ℕ) → outline_cmp x x ≡ Greater → ⊥
not_above_self x h =
    let wrong : Greater ≡ Less = sym h ∙ nat_list_cmp_total.antisymm x x ∙ ap ordering_reverse h in
    cc

-- what is above isn't below
not_less_turned : (x y : List ℕ) → outline_cmp x y ≡ Less → is_lt (outline_cmp y x) ≡ false
not_less_turned x y h = ap is_lt (nat_list_cmp_total.antisymm y x ∙ ap ordering_reverse h)

-- Outlines that rise are sorted.
pub sorted_of_rising : (xs : List (List ℕ)) → AreRising xs → IsSortedBy (λ x y. is_lt (outline_cmp x y)) xs
sorted_of_rising xs rising = λ k d low below. not_less_turned (get_or xs k d) (get_or xs (k + 1) d) (rising k (k + 1) d (omega arith) below)

-- the first of rising outlines is below the second
pub first_below : (x y : List ℕ) (ys : List (List ℕ)) → AreRising (x ∷ y ∷ ys) → outline_cmp x y ≡ Less
first_below x y ys rising = rising 0 1 [] (omega arith) (omega arith)

-- all but the first rise too
pub rising_tail : (x : List ℕ) (xs : List (List ℕ)) → AreRising (x ∷ xs) → AreRising xs
rising_tail x xs rising = pairs_tail (λ a b. outline_cmp a b ≡ Less) x xs rising

-- one more outline is inserted
pub in_order_push : (xs : List (List ℕ)) (x : List ℕ) → in_order (xs ++ x ∷ []) ≡ insert_new (in_order xs) x
in_order_push xs x = fold_push insert_new [] xs x
