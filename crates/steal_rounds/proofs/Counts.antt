-- How many moves were made.
use Rattle.std.proofs.Common.{◌≡◌, ◌≢◌, ◌==◌, ℕ, zero, suc, ◌+◌, ◌<◌, ◌⊎◌, Bool, true, List, [], ◌∷◌, length, get_or, set, replicate, cond, refl, ap, sym, subst, ◌∙◌, ⊎_elim, inl, inr, arith, length-set, eq-eqb, ne_eqb}
use Rattle.std.specs.Prelude.{slice_index, sum_by}
use Rattle.std.proofs.lemmas.Bool.{cases_lt}
use Rattle.std.proofs.lemmas.List.{get_or-set_same, get_or-set_other, length-replicate}
use Rattle.std.proofs.lemmas.List.Sums.{sum_by-cons}
use Rattle.graph_rules.specs.Graphs.{row, IsBest, IsSettledWord, AreSettled, unreached}
use Rattle.graph_rules.proofs.Distances.{same_or_not, best_below, source_below}
use Rattle.graph_rules.proofs.SettledLemmas.{best_once}
use Rattle.round_core.specs.Rounds.{Has, AreRisingNumbers}
use Rattle.round_core.specs.Searches.{sum_reached}
use Rattle.round_core.specs.Machines.{IsGraph}
use Rattle.round_core.proofs.Members.{has_none, has_first, has_later, has_cons}
use Rattle.round_core.proofs.Sums.{sum_unreached}
use Rattle.dist_table.specs.declared.call.Call.{Call}
use Rattle.dist_table.specs.Tables.{TableView}
use Rattle.round_core.specs.inside.InRounds.{moves_of}
use Rattle.steal_rounds.specs.inside.Fronts.{IsBeforeRound, IsCounted}
use Rattle.steal_rounds.proofs.Fronts.{all_nearer}

abbrev mark_all : List ℕ → List ℕ → List ℕ
mark_all ws [] = ws
mark_all ws (x ∷ xs) = mark_all (set ws x 0) xs

length-mark : (ws xs : List ℕ) → length (mark_all ws xs) ≡ length ws
length-mark ws [] = refl
length-mark ws (x ∷ xs) = length-mark (set ws x 0) xs ∙ length-set ws x 0

set_new : (f : ℕ → ℕ) (ws : List ℕ) (t : ℕ) → t < length ws → (get_or ws t 0 == unreached) ≡ true → sum_reached f (set ws t 0) ≡ sum_reached f ws + f t
set_new f [] t lt new = absurd (omega (arith, lt))
set_new f (w ∷ ws) zero lt new = rw new (omega arith)
set_new f (w ∷ ws) (suc t) lt new = let e = set_new (λ s. f (suc s)) ws t (omega (arith, lt)) new in omega (arith, e)

sum_marked : (f : ℕ → ℕ) (ws xs : List ℕ) → AreRisingNumbers xs → ((x : ℕ) → Has xs x → (x < length ws) × (get_or ws x 0 ≡ unreached)) → sum_reached f (mark_all ws xs) ≡ sum_reached f ws + sum_by f xs
sum_marked f ws [] h new = let z : sum_by f [] ≡ 0 = refl in omega (arith, z)
sum_marked f ws (x ∷ xs) h new =
    let a = new x (has_first x xs) in
    let rest = sum_marked f (set ws x 0) xs h.1 (λ y has. (
      (let b = (new y (has_later x xs y has)).0 in let l = length-set ws x 0 in omega (arith, b, l)),
      get_or-set_other ws x y 0 0 (λ same. absurd (let lt = h.0 y has in omega (arith, same, lt))) ∙ (new y (has_later x xs y has)).1,
    )) in
    let e = set_new f ws x a.0 (eq-eqb (get_or ws x 0) unreached a.1) in
    let c = sum_by-cons f x xs in
    omega (arith, rest, e, c)

mark_zero : (ws xs : List ℕ) (s : ℕ) → s < length ws → get_or ws s 0 ≡ 0 → get_or (mark_all ws xs) s 0 ≡ 0
mark_zero ws [] s lt e = e
mark_zero ws (x ∷ xs) s lt e = mark_zero (set ws x 0) xs s (let l = length-set ws x 0 in omega (arith, lt, l)) (elim (same_or_not s x) [
  | inl same ↦ subst (λ y. get_or (set ws x 0) y 0 ≡ 0) (sym same) (get_or-set_same ws x 0 0 (omega (arith, lt, same)))
  | inr other ↦ get_or-set_other ws x s 0 0 other ∙ e
])

mark_cases : (ws xs : List ℕ) (s : ℕ) → s < length ws → (Has xs s × (get_or (mark_all ws xs) s 0 ≡ 0)) ⊎ ((Has xs s → ⊥) × (get_or (mark_all ws xs) s 0 ≡ get_or ws s 0))
mark_cases ws [] s lt = inr ((λ has. has_none s has), refl)
mark_cases ws (x ∷ xs) s lt = by (mark_cases (set ws x 0) xs s lt')
  where
    lt' : s < length (set ws x 0)
    lt' = (let l = length-set ws x 0 in omega (arith, lt, l))

    by : (Has xs s × (get_or (mark_all (set ws x 0) xs) s 0 ≡ 0)) ⊎ ((Has xs s → ⊥) × (get_or (mark_all (set ws x 0) xs) s 0 ≡ get_or (set ws x 0) s 0))
        → (Has (x ∷ xs) s × (get_or (mark_all (set ws x 0) xs) s 0 ≡ 0)) ⊎ ((Has (x ∷ xs) s → ⊥) × (get_or (mark_all (set ws x 0) xs) s 0 ≡ get_or ws s 0))
    by (inl h) = inl (has_later x xs s h.0, h.1)
    by (inr h) = elim (same_or_not s x) [
      | inl same ↦ inl (subst (λ y. Has (x ∷ xs) y) (sym same) (has_first x xs), h.1 ∙ subst (λ y. get_or (set ws x 0) y 0 ≡ 0) (sym same) (get_or-set_same ws x 0 0 (omega (arith, lt, same))))
      | inr other ↦ inr ((λ has. elim (has_cons x xs s has) [ inl is ↦ other (sym is) | inr old ↦ h.0 old ]), h.1 ∙ get_or-set_other ws x s 0 0 other)
    ]

pub first_counted : (t : TableView) → IsCounted t 0 0
first_counted t = record {
  marks = replicate (length t.lists) unreached;
  count = length-replicate (length t.lists) unreached;
  sum = sym (sum_unreached (λ s. length (row t.lists s)) (length t.lists));
  each = λ s lt. inr (all_same (length t.lists) s lt, λ n less best. absurd (omega (arith, less)));
}
  where
    all_same : (n s : ℕ) → s < n → get_or (replicate n unreached) s 0 ≡ unreached
    all_same zero s lt = absurd (omega (arith, lt))
    all_same (suc n) zero lt = refl
    all_same (suc n) (suc s) lt = all_same n s (omega (arith, lt))

pub next_counted : (t : TableView) (k relaxed : ℕ) (front : List ℕ) (seen : List Call) → IsBeforeRound t k front seen → IsCounted t k relaxed → IsCounted t (suc k) (relaxed + moves_of t.lists front)
next_counted t k relaxed front seen r c = record {
  marks = mark_all c.marks front;
  count = length-mark c.marks front ∙ c.count;
  sum = let s = c.sum in let m = sum_marked (λ x. length (row t.lists x)) c.marks front r.rising (λ x has. (let b = (r.frontier.best x has).0 in let n = c.count in omega (arith, b, n), free x has (c.each x (r.frontier.best x has).0))) in omega (arith, s, m);
  each = λ s lt. (elim (mark_cases c.marks front s (let n = c.count in omega (arith, lt, n))) [
    | inl h ↦ inl (h.1, (k, omega arith, (r.frontier.best s h.0).1))
    | inr h ↦ ⊎_elim
        (λ (z : (slice_index c.marks s ≡ 0) × ((n : ℕ) × (n < k) × IsBest t.origin t.lists s n)). inl (h.1 ∙ z.0, (z.1.0, (let l = z.1.1 in omega (arith, l)), z.1.2)))
        (λ (u : (slice_index c.marks s ≡ unreached) × ((n : ℕ) → n < k → IsBest t.origin t.lists s n → ⊥)). inr (
          h.1 ∙ u.0,
          λ n less best. elim (cases_lt n k) [
            | inl lt' ↦ u.1 n lt' best
            | inr ge ↦ h.0 (r.frontier.all s lt (subst (λ m. IsBest t.origin t.lists s m) (omega (arith, less, ge)) best))
          ],
        ))
        (c.each s lt)
  ]);
}
  where
    free : (x : ℕ) → Has front x → ((slice_index c.marks x ≡ 0) × ((n : ℕ) × (n < k) × IsBest t.origin t.lists x n)) ⊎ ((slice_index c.marks x ≡ unreached) × ((n : ℕ) → n < k → IsBest t.origin t.lists x n → ⊥)) → get_or c.marks x 0 ≡ unreached
    free x has (inl z) = absurd (let same = best_once t.origin t.lists x z.1.0 k z.1.2 (r.frontier.best x has).1 in let l = z.1.1 in omega (arith, same, l))
    free x has (inr u) = u.0

same_reached : (f : ℕ → ℕ) (v w : List ℕ) → length v ≡ length w → ((s : ℕ) → s < length v → (get_or v s 0 == unreached) ≡ (get_or w s 0 == unreached)) → sum_reached f v ≡ sum_reached f w
same_reached f [] [] len h = refl
same_reached f [] (w ∷ ws) len h = absurd (omega (arith, len))
same_reached f (v ∷ vs) [] len h = absurd (omega (arith, len))
same_reached f (v ∷ vs) (w ∷ ws) len h =
    let rest = same_reached (λ s. f (suc s)) vs ws (omega (arith, len)) (λ s lt. h (suc s) (omega (arith, lt))) in
    let here = ap (λ (b : Bool). cond b 0 (f 0)) (h 0 (omega arith)) in
    omega (arith, rest, here)

-- all moves were counted
pub all_counted : (t : TableView) (k relaxed : ℕ) (seen : List Call) → IsGraph t.origin t.lists → IsBeforeRound t k [] seen → IsCounted t k relaxed → (words : List ℕ) → AreSettled t.origin t.lists words → relaxed ≡ sum_reached (λ s. length (row t.lists s)) words
all_counted t k relaxed seen graph r c words are = c.sum ∙ same_reached (λ s. length (row t.lists s)) c.marks words (c.count ∙ sym are.count)
    (λ s lt. (let below : s < length t.lists = (let n = c.count in omega (arith, lt, n)) in by s below (slice_index words s) refl (are.each s (let n = are.count in omega (arith, below, n))) (c.each s below)))
  where
    Each : ℕ → Type 0
    Each s = ((slice_index c.marks s ≡ 0) × ((n : ℕ) × (n < k) × IsBest t.origin t.lists s n)) ⊎ ((slice_index c.marks s ≡ unreached) × ((n : ℕ) → n < k → IsBest t.origin t.lists s n → ⊥))

    reached : (s n w : ℕ) → s < length t.lists → IsBest t.origin t.lists s n → w ≢ unreached
        → ((slice_index c.marks s ≡ 0) × ((m : ℕ) × (m < k) × IsBest t.origin t.lists s m)) ⊎ ((slice_index c.marks s ≡ unreached) × ((m : ℕ) → m < k → IsBest t.origin t.lists s m → ⊥))
        → (get_or c.marks s 0 == unreached) ≡ (w == unreached)
    reached s n w below best low (inl z) = ap (λ (x : ℕ). x == unreached) z.0 ∙ sym (ne_eqb w unreached low)
    reached s n w below best low (inr u) = absurd (u.1 n (all_nearer t k seen r n s below best) best)

    by : (s : ℕ) → s < length t.lists → (w : ℕ) → slice_index words s ≡ w → IsSettledWord t.origin t.lists s (slice_index words s)
        → ((slice_index c.marks s ≡ 0) × ((m : ℕ) × (m < k) × IsBest t.origin t.lists s m)) ⊎ ((slice_index c.marks s ≡ unreached) × ((m : ℕ) → m < k → IsBest t.origin t.lists s m → ⊥))
        → (get_or c.marks s 0 == unreached) ≡ (get_or words s 0 == unreached)
    by s below w is (inl h) each = reached s 0 (slice_index words s) below (record { walk = h.0; least = λ m walk. omega arith }) (λ e. (let z = h.1 in absurd (omega (arith, e, z)))) each
    by s below w is (inr (inl h)) each = reached s (h.1.0 + 1) (slice_index words s) below h.1.2
        (λ e. (let f = graph.few in let n = best_below t.origin t.lists s (h.1.0 + 1) below h.1.2 in let p = source_below t.lists h.1.1 s h.1.3.target in let z = h.1.4 in absurd (omega (arith, e, z, f, n, p)))) each
    by s below w is (inr (inr h)) (inl z) = absurd (h.0 z.1.0 (z.1.2).walk)
    by s below w is (inr (inr h)) (inr u) = ap (λ (x : ℕ). x == unreached) (u.0 ∙ sym h.1)
