-- Outlines that differ stay as many in order.
use Rattle.std.proofs.Common.{ℕ, suc, ◌≡◌, ◌+◌, List, [], ◌∷◌, length, refl, sym, ap, ◌∙◌, arith, fold, Contains, inl, inr, Ordering, Less, Equal, Greater, subst}
use Rattle.std.specs.Cmp.Lexicographic.{nat_list_cmp_total}
use Rattle.steno_rules.specs.Outlines.{outline_cmp}
use Rattle.steno_rules.specs.Nodes.{by_order, insert_new, in_order}
use Rattle.steno_rules.proofs.Lists.{in_first, in_later, none_in_nil}
use Rattle.steno_rules.proofs.Rising.{in_insert}
use Rattle.steno_rules.proofs.NodeLemmas.{same_of_equal}

-- none of the outlines comes twice
abbrev pub AreDistinct : List (List ℕ) → Type 0
AreDistinct [] = Unit {0}
AreDistinct (x ∷ xs) = (Contains xs x → ⊥) × AreDistinct xs

insert_length : (ys : List (List ℕ)) (x : List ℕ) → (Contains ys x → ⊥) → length (insert_new ys x) ≡ suc (length ys)
insert_length [] x new = refl
insert_length (y ∷ ys) x new = by (outline_cmp x y) refl (insert_length ys x (λ has. new (in_later y ys x has)))
  where
    by : (o : Ordering) → outline_cmp x y ≡ o → length (insert_new ys x) ≡ suc (length ys) → length (by_order o (x ∷ y ∷ ys) (y ∷ ys) (y ∷ insert_new ys x)) ≡ suc (suc (length ys))
    by Less is rest = refl
    by Equal is rest = absurd (new (subst (Contains (y ∷ ys)) (sym (same_of_equal x y is)) (in_first y ys)))
    by Greater is rest = ap suc rest

fold_length : (xs acc : List (List ℕ)) → AreDistinct xs → ((z : List ℕ) → Contains xs z → Contains acc z → ⊥) → length (fold insert_new acc xs) ≡ length acc + length xs
fold_length [] acc distinct apart = omega arith
fold_length (x ∷ xs) acc distinct apart =
    fold_length xs (insert_new acc x) distinct.1 (λ z has there. elim (in_insert outline_cmp nat_list_cmp_total acc x z there) [
      | inl is ↦ distinct.0 (subst (Contains xs) (sym is) has)
      | inr before ↦ apart z (in_later x xs z has) before
    ])
    ∙ omega (arith, insert_length acc x (apart x (in_first x xs)))

pub in_order-length : (xs : List (List ℕ)) → AreDistinct xs → length (in_order xs) ≡ length xs
in_order-length xs distinct = fold_length xs [] distinct (λ z has none. none_in_nil z none) ∙ omega arith
