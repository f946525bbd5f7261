-- Lists of nodes in rising order, and how one more beginning makes one more node.
use Rattle.std.proofs.Common.{◌≡◌, ℕ, zero, suc, ◌+◌, ◌<◌, ◌≤◌, List, [], ◌∷◌, ◌++◌, length, take, drop, refl, sym, ap, subst, ◌∙◌, arith, Bool, true, false, cond, true≢false, Contains, ◌⊎◌, inl, inr, Ordering, Less, Equal, Greater, nat_eq}
use Rattle.std.specs.Ordering.{nat_cmp, ordering_then}
use Rattle.std.specs.Cmp.Lexicographic.{nat_list_cmp_total}
use Rattle.std.proofs.lemmas.List.Elements.{Contains-append_cases, Contains-append_left, Contains-append_right}
use Rattle.std.specs.FinMap.{nat_cmp-IsAntisymmetric}
use Rattle.std.proofs.lemmas.Bool.{cases_lt}
use Rattle.std.proofs.lemmas.Bool.Decides.{nat_tests}
use Rattle.std.proofs.lemmas.List.{take-append-drop, take_all, length-drop}
use Rattle.outline_trie.specs.inside.Tables.{shared}
use Rattle.steno_rules.specs.Outlines.{outline_cmp}
use Rattle.steno_rules.specs.Windows.{is_prefix}
use Rattle.steno_rules.specs.Nodes.{nodes}
use Rattle.steno_rules.proofs.NodeLemmas.{nodes-rising, nodes-Contains}
use Rattle.steno_rules.proofs.Rising.{rising_same}
use Rattle.steno_rules.proofs.Numbers.{not_below_self, below_trans}
use Rattle.steno_rules.proofs.Lists.{in_one, in_first, pairs_push}
use Rattle.edge_pool.proofs.MapLemmas.{told_same, same_number}

one_more : (n : ℕ) → 1 + n ≡ suc n
one_more n = omega arith

not_both : (x y : List ℕ) → outline_cmp x y ≡ Less → outline_cmp y x ≡ Less → ⊥
not_both x y l m = not_below_self x (below_trans x y x l m)

-- ---- nodes by what begins an entry

pub in_nodes : (entries : List (List ℕ)) (z : List ℕ) → is_prefix entries z ≡ true → Contains (nodes entries) z
in_nodes entries z h = (nodes-Contains entries z).1 h

pub of_nodes : (entries : List (List ℕ)) (z : List ℕ) → Contains (nodes entries) z → is_prefix entries z ≡ true
of_nodes entries z h = (nodes-Contains entries z).0 h

-- entries that begin alike have the same nodes
pub nodes_same : (es fs : List (List ℕ)) → ((z : List ℕ) → is_prefix es z ≡ true → is_prefix fs z ≡ true) → ((z : List ℕ) → is_prefix fs z ≡ true → is_prefix es z ≡ true) → nodes es ≡ nodes fs
nodes_same es fs to from =
    rising_same outline_cmp nat_list_cmp_total (nodes es) (nodes fs) (nodes-rising es) (nodes-rising fs)
    (λ z. (λ c. in_nodes fs z (to z (of_nodes es z c)), λ c. in_nodes es z (from z (of_nodes fs z c))))

-- one beginning more, above all others, makes one node more
pub nodes_more : (es fs : List (List ℕ)) (w : List ℕ) → ((z : List ℕ) → is_prefix es z ≡ true → outline_cmp z w ≡ Less) →
    ((z : List ℕ) → is_prefix es z ≡ true → is_prefix fs z ≡ true) → is_prefix fs w ≡ true → ((z : List ℕ) → is_prefix fs z ≡ true → (is_prefix es z ≡ true) ⊎ (w ≡ z)) →
    nodes fs ≡ nodes es ++ w ∷ []
nodes_more es fs w below to has from =
    rising_same outline_cmp nat_list_cmp_total (nodes fs) (nodes es ++ w ∷ []) (nodes-rising fs)
    (pairs_push (λ a b. outline_cmp a b ≡ Less) (nodes es) w (nodes-rising es) (λ z c. below z (of_nodes es z c)))
    (λ z. (
      λ c. elim (from z (of_nodes fs z c)) [
        | inl old ↦ Contains-append_left (nodes es) (w ∷ []) z (in_nodes es z old)
        | inr new ↦ Contains-append_right (nodes es) (w ∷ []) z (subst (Contains (w ∷ [])) new (in_first w []))
      ],
      λ c. elim (Contains-append_cases (nodes es) (w ∷ []) z c) [
        | inl old ↦ in_nodes fs z (to z (of_nodes es z old))
        | inr new ↦ in_nodes fs z (subst (λ v. is_prefix fs v ≡ true) (in_one w z new) has)
      ],
    ))

-- ---- the order of beginnings

-- where one list is below another, so is each beginning of it below each beginning of the other that it doesn't begin with
pub fronts_below : (z w z' w' : List ℕ) → outline_cmp (z ++ z') (w ++ w') ≡ Less → (w ≡ take (length w) (z ++ z') → ⊥) → outline_cmp z w ≡ Less
fronts_below z [] z' w' below apart = absurd (apart refl)
fronts_below [] (d ∷ w) z' w' below apart = refl
fronts_below (c ∷ z) (d ∷ w) z' w' below apart = by (nat_cmp c d) refl below (fronts_below z w z' w')
  where
    by : (o : Ordering) → nat_cmp c d ≡ o → ordering_then o (outline_cmp (z ++ z') (w ++ w')) ≡ Less → (outline_cmp (z ++ z') (w ++ w') ≡ Less → (w ≡ take (length w) (z ++ z') → ⊥) → outline_cmp z w ≡ Less) →
        ordering_then o (outline_cmp z w) ≡ Less
    by Less is h rest = refl
    by Equal is h rest = rest h (λ e. apart (ap (λ l. d ∷ l) e ∙ ap (λ x. x ∷ take (length w) (z ++ z')) (sym (nat_cmp-IsAntisymmetric c d is))))
    by Greater is h rest = absurd (true≢false cc)

pub nat_cmp_same : (c : ℕ) → nat_cmp c c ≡ Equal
nat_cmp_same c = grind (arith, nat_tests)

front_below : (w : List ℕ) (c : ℕ) (r : List ℕ) → outline_cmp w (w ++ c ∷ r) ≡ Less
front_below [] c r = refl
front_below (d ∷ w) c r = rw (nat_cmp_same d) (front_below w c r)

pub split_front : (w a : List ℕ) → w ≡ take (length w) a → a ≡ w ++ drop (length w) a
split_front w a h = sym (take-append-drop (length w) a) ∙ ap (λ v. v ++ drop (length w) a) (sym h)

below_longer : (w r : List ℕ) → 0 < length r → outline_cmp w (w ++ r) ≡ Less
below_longer w [] h = absurd (omega arith)
below_longer w (c ∷ r) h = front_below w c r

pub proper_front : (z w : List ℕ) → z ≡ take (length z) w → length z < length w → outline_cmp z w ≡ Less
proper_front z w h shorter =
    subst (λ v. outline_cmp z v ≡ Less) (sym (split_front z w h)) (below_longer z (drop (length z) w) (omega (arith, length-drop (length z) w)))

-- a beginning is below what it begins, or is it
pub front_not_above : (w a : List ℕ) → w ≡ take (length w) a → outline_cmp a w ≡ Less → ⊥
front_not_above w a h above = elim (cases_lt (length w) (length a)) [
  | inl shorter ↦ not_both a w above (proper_front w a h shorter)
  | inr all ↦ not_below_self w (subst (λ v. outline_cmp v w ≡ Less) (sym (h ∙ take_all (length w) a all)) above)
]

-- ---- what two outlines share

pub shared_same : (xs ys : List ℕ) → take (shared xs ys) xs ≡ take (shared xs ys) ys
shared_same [] ys = refl
shared_same (x ∷ xs) [] = refl
shared_same (x ∷ xs) (y ∷ ys) = by (nat_eq x y) refl (shared_same xs ys)
  where
    by : (b : Bool) → nat_eq x y ≡ b → take (shared xs ys) xs ≡ take (shared xs ys) ys → take (cond b (1 + shared xs ys) 0) (x ∷ xs) ≡ take (cond b (1 + shared xs ys) 0) (y ∷ ys)
    by true is rest = rw (one_more (shared xs ys)) (rw (told_same x y is) (ap (λ l. y ∷ l) rest))
    by false is rest = refl

pub shared_apart : (xs ys : List ℕ) (j : ℕ) → shared xs ys ≤ j → j < length ys → take (suc j) ys ≡ take (suc j) xs → ⊥
shared_apart [] [] j from to same = absurd (omega arith)
shared_apart [] (y ∷ ys) j from to same = absurd (true≢false cc)
shared_apart (x ∷ xs) [] j from to same = absurd (omega arith)
shared_apart (x ∷ xs) (y ∷ ys) j from to same = by (nat_eq x y) refl j from to same (shared_apart xs ys)
  where
    by : (b : Bool) → nat_eq x y ≡ b → (j : ℕ) → cond b (1 + shared xs ys) 0 ≤ j → j < length (y ∷ ys) → take (suc j) (y ∷ ys) ≡ take (suc j) (x ∷ xs) →
        ((j : ℕ) → shared xs ys ≤ j → j < length ys → take (suc j) ys ≡ take (suc j) xs → ⊥) → ⊥
    by true is zero from to same rest = absurd (omega arith)
    by true is (suc j) from to same rest = rest j (omega arith) (omega arith) cc
    by false is j from to same rest = let first : y ≡ x = cc in absurd (true≢false (sym (same_number x y (sym first)) ∙ is))
