-- The reached states of settled words are the numbers that have a least distance.
use Rattle.std.proofs.Common.{◌≡◌, ℕ, zero, suc, ◌+◌, ◌*◌, ◌/◌, ◌<◌, ◌≤◌, List, [], ◌∷◌, length, get_or, refl, sym, ap, subst, arith, Bool, true, false, cond, true≢false, Option, Some, None, ◌∙◌, Contains, inl, inr, AllPairs}
use Rattle.std.specs.Prelude.{◌==◌, filter_map}
use Rattle.std.specs.List.{enumerate_from}
use Rattle.std.proofs.lemmas.Bool.{eqb-true}
use Rattle.std.proofs.lemmas.Nat.{div-mul-add}
use Rattle.graph_rules.specs.Graphs.{AreSettled, IsBest, IsSettledWord, most_numbers, moved, unreached, word_half}
use Rattle.graph_rules.proofs.Distances.{best_below, source_below}
use Rattle.graph_rules.proofs.SettledLemmas.{best_once}
use Rattle.steno_rules.proofs.Lists.{in_cons, in_first, in_later, none_in_nil, pairs_cons, all_of}
use Rattle.certificate.specs.CertTexts.{Listed}
use Rattle.audit_certificate.specs.OwnCertificates.{distance_of, reached_state, reached_states}

-- ---- by their places in the table

-- the reached states, where the first word is that of the number k
abbrev pub reached_from : ℕ → List ℕ → List Listed
reached_from k words = filter_map reached_state (enumerate_from k words)

-- the same, where the first word says this
abbrev pub reached_with : Option ℕ → ℕ → List ℕ → List Listed
reached_with None k words = reached_from (k + 1) words
reached_with (Some d) k words = record { state = k; distance = d } ∷ reached_from (k + 1) words

pub reached_from-with : (k w : ℕ) (ws : List ℕ) → reached_from k (w ∷ ws) ≡ reached_with (distance_of w) k ws
reached_from-with k w ws = by (distance_of w) refl
  where
    by : (o : Option ℕ) → distance_of w ≡ o → reached_from k (w ∷ ws) ≡ reached_with o k ws
    by None is = rw is refl
    by (Some d) is = rw is refl

-- the word of the state says its distance
pub record IsReachedAt (k : ℕ) (words : List ℕ) (s : Listed) : Type 0 where
  pub index : ℕ
  pub below : index < length words
  pub number : s.state ≡ k + index
  pub distance : distance_of (get_or words index 0) ≡ Some s.distance

abbrev listed_at : ℕ → ℕ → Listed
listed_at n d = record { state = n; distance = d }

later_at : (k w : ℕ) (ws : List ℕ) (s : Listed) → IsReachedAt (k + 1) ws s → IsReachedAt k (w ∷ ws) s
later_at k w ws s at = record { index = suc at.index; below = (let b = at.below in omega (arith, b)); number = (let n = at.number in omega (arith, n)); distance = at.distance }

pub reached_at : (k : ℕ) (words : List ℕ) (s : Listed) → Contains (reached_from k words) s → IsReachedAt k words s
reached_at k [] s has = absurd (none_in_nil s has)
reached_at k (w ∷ ws) s has = by (distance_of w) refl (subst (λ xs. Contains xs s) (reached_from-with k w ws) has) (λ later. later_at k w ws s (reached_at (k + 1) ws s later))
  where
    by : (o : Option ℕ) → distance_of w ≡ o → Contains (reached_with o k ws) s → (Contains (reached_from (k + 1) ws) s → IsReachedAt k (w ∷ ws) s) → IsReachedAt k (w ∷ ws) s
    by None is has rest = rest has
    by (Some d) is has rest = elim (in_cons (listed_at k d) (reached_from (k + 1) ws) s has) [
      | inl same ↦ record { index = 0; below = omega arith; number = (let e : k ≡ s.state = ap (λ x. x.state) same in omega (arith, e)); distance = is ∙ ap (λ x. Some x.distance) same }
      | inr later ↦ rest later
    ]

pub reached_there : (k : ℕ) (words : List ℕ) (i d : ℕ) → i < length words → distance_of (get_or words i 0) ≡ Some d → Contains (reached_from k words) (listed_at (k + i) d)
reached_there k [] i d below is = absurd (omega arith)
reached_there k (w ∷ ws) zero d below is =
    let same : k + 0 ≡ k = omega arith in
    subst (λ xs. Contains xs (listed_at (k + 0) d)) (sym (reached_from-with k w ws ∙ ap (λ o. reached_with o k ws) is))
    (subst (λ n. Contains (listed_at k d ∷ reached_from (k + 1) ws) (listed_at n d)) (sym same) (in_first (listed_at k d) (reached_from (k + 1) ws)))
reached_there k (w ∷ ws) (suc i) d below is =
    let same : k + 1 + i ≡ k + suc i = omega arith in
    let rest = subst (λ n. Contains (reached_from (k + 1) ws) (listed_at n d)) same (reached_there (k + 1) ws i d (omega arith) is) in
    subst (λ xs. Contains xs (listed_at (k + suc i) d)) (sym (reached_from-with k w ws)) (by (distance_of w) rest)
  where
    by : (o : Option ℕ) → Contains (reached_from (k + 1) ws) (listed_at (k + suc i) d) → Contains (reached_with o k ws) (listed_at (k + suc i) d)
    by None rest = rest
    by (Some e) rest = in_later (listed_at k e) (reached_from (k + 1) ws) (listed_at (k + suc i) d) rest

-- one state is before another
abbrev pub Rises : Listed → Listed → Type 0
Rises a b = a.state < b.state

pub reached_rise : (k : ℕ) (words : List ℕ) → AllPairs Rises (reached_from k words)
reached_rise k [] = λ i j d lt below. absurd (omega (arith, below))
reached_rise k (w ∷ ws) = subst (AllPairs Rises) (sym (reached_from-with k w ws)) (by (distance_of w) (reached_rise (k + 1) ws))
  where
    by : (o : Option ℕ) → AllPairs Rises (reached_from (k + 1) ws) → AllPairs Rises (reached_with o k ws)
    by None rest = rest
    by (Some d) rest = pairs_cons Rises (listed_at k d) (reached_from (k + 1) ws) (all_of (Rises (listed_at k d)) (reached_from (k + 1) ws) (λ s has.
        let at = reached_at (k + 1) ws s has in let n = at.number in omega (arith, n))) rest

-- ---- what settled words say

moved_distance : (n p : ℕ) → n + 1 < 33554432 → p < 33554432 → distance_of (moved n p) ≡ Some (n + 1)
moved_distance n p few less = by (moved n p == unreached) refl
  where
    by : (b : Bool) → (moved n p == unreached) ≡ b → cond b None (Some (moved n p / word_half)) ≡ Some (n + 1)
    by true is = absurd (let e : (n + 1) * 4294967296 + p ≡ 18446744073709551615 = eqb-true (moved n p) unreached is in omega (arith, e, few, less))
    by false is = ap Some (div-mul-add (n + 1) word_half p (omega arith))

-- A number's distance is the least one,
settled_distance : (o : ℕ) (ls : List (List ℕ)) (s w d : ℕ) → length ls ≤ most_numbers → s < length ls → IsSettledWord o ls s w → distance_of w ≡ Some d → IsBest o ls s d
settled_distance o ls s w d few below (inl h) is =
    let zero_is : distance_of w ≡ Some 0 = ap distance_of h.1 in
    let same : 0 ≡ d = (let e : Some 0 ≡ Some d = sym zero_is ∙ is in cc) in
    subst (IsBest o ls s) same (record { walk = h.0; least = λ m walk. omega arith })
settled_distance o ls s w d few below (inr (inl h)) is =
    let n = h.1.0 in
    let p = h.1.1 in
    let less = best_below o ls s (n + 1) below h.1.2 in
    let source = source_below ls p s h.1.3.target in
    let distance_is : distance_of w ≡ Some (n + 1) = ap distance_of h.1.4 ∙ moved_distance n p (omega (arith, less, few)) (omega (arith, source, few)) in
    let same : n + 1 ≡ d = (let e : Some (n + 1) ≡ Some d = sym distance_is ∙ is in cc) in
    subst (IsBest o ls s) same h.1.2
settled_distance o ls s w d few below (inr (inr h)) is = let e : None ≡ Some d = sym (ap distance_of h.1) ∙ is in absurd (true≢false cc)

-- and a number with a least distance has it in its word.
distance_settled : (o : ℕ) (ls : List (List ℕ)) (s w d : ℕ) → length ls ≤ most_numbers → s < length ls → IsSettledWord o ls s w → IsBest o ls s d → distance_of w ≡ Some d
distance_settled o ls s w d few below (inl h) best =
    let zero_best : IsBest o ls s 0 = record { walk = h.0; least = λ m walk. omega arith } in
    ap distance_of h.1 ∙ ap Some (best_once o ls s 0 d zero_best best)
distance_settled o ls s w d few below (inr (inl h)) best =
    let n = h.1.0 in
    let p = h.1.1 in
    let less = best_below o ls s (n + 1) below h.1.2 in
    let source = source_below ls p s h.1.3.target in
    ap distance_of h.1.4 ∙ (moved_distance n p (omega (arith, less, few)) (omega (arith, source, few)) ∙ ap Some (best_once o ls s (n + 1) d h.1.2 best))
distance_settled o ls s w d few below (inr (inr h)) best = absurd (h.0 d best.walk)

module _ (o : ℕ) (ls : List (List ℕ)) (words : List ℕ) (few : length ls ≤ most_numbers) (settled : AreSettled o ls words) where
  -- A reached state has its least distance, which is less than the numbers are,
  pub listed_best : (s : Listed) → Contains (reached_states words) s → (s.state < length ls) × IsBest o ls s.state s.distance × (s.distance < length ls)
  listed_best s has =
      let at = reached_at 0 words s has in
      let number : s.state ≡ at.index = (let n = at.number in omega (arith, n)) in
      let below : at.index < length ls = (let b = at.below in let c = settled.count in omega (arith, b, c)) in
      let best = settled_distance o ls at.index (get_or words at.index 0) s.distance few below (settled.each at.index at.below) at.distance in
      let here = best_below o ls at.index s.distance below best in
      (omega (arith, number, below), subst (λ n. IsBest o ls n s.distance) (sym number) best, here)

  -- and each number with a least distance is listed with it.
  pub best_listed : (n d : ℕ) → n < length ls → IsBest o ls n d → Contains (reached_states words) (listed_at n d)
  best_listed n d below best =
      let within : n < length words = (let c = settled.count in omega (arith, below, c)) in
      let same : 0 + n ≡ n = omega arith in
      subst (λ k. Contains (reached_states words) (listed_at k d)) same (reached_there 0 words n d within (distance_settled o ls n (get_or words n 0) d few below (settled.each n within) best))
