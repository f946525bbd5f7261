-- What a settled word tells: whether its number was reached, its distance, and the number before it.
use Rattle.std.proofs.Common.{◌≡◌, ◌≢◌, ℕ, suc, ◌+◌, ◌/◌, ◌%◌, ◌<◌, ◌≤◌, List, length, sym, ap, subst, ◌∙◌, arith, inl, inr}
use Rattle.std.proofs.lemmas.Nat.{div-mul-add, mod-mul-add}
use Rattle.graph_rules.specs.Graphs.{moved, unreached, IsBest, IsSource, IsSettledWord}
use Rattle.graph_rules.proofs.Distances.{source_below}
use Rattle.graph_rules.proofs.SettledLemmas.{best_once}
use Rattle.closure_laws.specs.Examples.{source_of}

-- the word of a move isn't the greatest word
pub moved_reached : (n p : ℕ) → p < 4294967295 → moved n p ≢ unreached
moved_reached n p l is =
    let low : (moved n p) % 4294967296 ≡ p = mod-mul-add (n + 1) 4294967296 p (omega arith) in
    let wrong : p ≡ 4294967295 = sym low ∙ ap (λ w. w % 4294967296) is in
    absurd (omega arith)

-- A number whose word isn't the greatest has a distance, which is the word's high half.
pub reached_best : (lists : List (List ℕ)) (s w : ℕ) → length lists < 4294967295 → IsSettledWord 0 lists s w → w ≢ unreached → IsBest 0 lists s (w / 4294967296)
reached_best lists s w few (inl h) some =
    let is : w / 4294967296 ≡ 0 = ap (λ k. k / 4294967296) h.1 in
    subst (IsBest 0 lists s) (sym is) (record { walk = h.0; least = λ m walk. omega arith })
reached_best lists s w few (inr (inl h)) some =
    let below = source_below lists h.1.1 s h.1.3.target in
    let is : w / 4294967296 ≡ h.1.0 + 1 = ap (λ k. k / 4294967296) h.1.4 ∙ div-mul-add (h.1.0 + 1) 4294967296 h.1.1 (omega (arith, below, few)) in
    subst (IsBest 0 lists s) (sym is) h.1.2
reached_best lists s w few (inr (inr h)) some = absurd (some h.1)

-- A number whose word is the greatest has none.
pub unreached_none : (lists : List (List ℕ)) (s w n : ℕ) → length lists < 4294967295 → IsSettledWord 0 lists s w → w ≡ unreached → IsBest 0 lists s n → ⊥
unreached_none lists s w n few (inl h) is best = let wrong : 0 ≡ unreached = sym h.1 ∙ is in absurd (omega arith)
unreached_none lists s w n few (inr (inl h)) is best =
    let below = source_below lists h.1.1 s h.1.3.target in
    moved_reached h.1.0 h.1.1 (omega (arith, below, few)) (sym h.1.4 ∙ is)
unreached_none lists s w n few (inr (inr h)) is best = h.0 n best.walk

pub record IsBefore (lists : List (List ℕ)) (n p : ℕ) : Type 0 where
  pub best : IsBest 0 lists p n
  pub below : p < length lists

-- The low half of the word is the number before it on a shortest walk.
pub before_by_word : (lists : List (List ℕ)) (s n w : ℕ) → length lists ≤ 4294967296 → IsSettledWord 0 lists s w → IsBest 0 lists s (suc n) → IsBefore lists n (source_of w)
before_by_word lists s n w few (inl h) best = let short : suc n ≤ 0 = best.least 0 h.0 in absurd (omega arith)
before_by_word lists s n w few (inr (inr h)) best = absurd (h.0 (suc n) best.walk)
before_by_word lists s n w few (inr (inl h)) best =
    let k : ℕ = h.1.0 in
    let p : ℕ = h.1.1 in
    let moves : k + 1 ≡ suc n = best_once 0 lists s (k + 1) (suc n) h.1.2 best in
    let same : k ≡ n = omega arith in
    let source : IsSource 0 lists s n p = subst (λ i. IsSource 0 lists s i p) same h.1.3 in
    let below = source_below lists p s source.target in
    let is : source_of w ≡ p = ap source_of h.1.4 ∙ mod-mul-add (k + 1) 4294967296 p (omega (arith, below, few)) in
    subst (IsBefore lists n) (sym is) (record { best = source.before; below = below })
