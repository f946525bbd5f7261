-- The settled words during a round, and between two. Here a frontier is no list yet: p is in it where its least distance is k.
use Rattle.std.proofs.Common.{◌≡◌, ◌≢◌, ℕ, zero, suc, ◌+◌, ◌*◌, ◌≤◌, ◌<◌, ◌⊎◌, List, length, get_or, set, min, sym, ap, subst, ◌∙◌, arith, inl, inr, replicate}
use Rattle.std.proofs.lemmas.List.{get_or-set_other, get_or-replicate, length-set, length-replicate, get_or_past}
use Rattle.std.proofs.lemmas.Bool.{cases_lt}
use Rattle.std.proofs.lemmas.Grind.{get_or-set_at}
use Rattle.graph_rules.specs.Graphs.{HasTarget, Reaches, IsBest, IsSettledWord, AreSettled, moved, unreached}
use Rattle.graph_rules.proofs.Distances.{same_or_not, source_below}
use Rattle.graph_rules.proofs.SettledLemmas.{best_once}
use Rattle.round_core.specs.Rounds.{IsBeyond, IsNear, IsFar, IsBetween}
use Rattle.round_core.specs.inside.InRounds.{IsFound, IsWithinRound}

module _ (o : ℕ) (ls : List (List ℕ)) where
  -- at the start
  pub between_start : (words : List ℕ) → o < length ls → words ≡ set (replicate (length ls) unreached) o 0 → IsBetween o ls 0 words
  between_start words below is = record {
    count = ap length is ∙ length-set (replicate (length ls) unreached) o 0 ∙ length-replicate (length ls) unreached;
    each = λ s lt. elim (is_start s) [
      | inl at ↦ inl (record {
        n = 0;
        within = omega arith;
        best = record { walk = at; least = λ m _. omega arith };
        settled = inl (at, ap (λ l. get_or l s 0) is ∙ get_or-set_at (replicate (length ls) unreached) o s 0 0 at (let l = length-replicate (length ls) unreached in omega (arith, l, below)));
      })
      | inr other ↦ inr (record {
        beyond = λ j le walk. other (at_zero j s le walk);
        word = ap (λ l. get_or l s 0) is ∙ get_or-set_other (replicate (length ls) unreached) o s 0 0 other ∙ get_or-replicate (length ls) s unreached 0 lt;
      })
    ];
  }
    where
      is_start : (s : ℕ) → (s ≡ o) ⊎ (s ≢ o)
      is_start s = same_or_not s o

      at_zero : (j s : ℕ) → j ≤ 0 → Reaches o ls j s → s ≡ o
      at_zero zero s le walk = walk
      at_zero (suc j) s le walk = absurd (omega (arith, le))

  -- a round begins
  pub open_round : (k : ℕ) (words : List ℕ) (todo : ℕ → ℕ → Type 0) → IsBetween o ls k words → ((p t : ℕ) → IsBest o ls p k → HasTarget ls p t → todo p t) → IsWithinRound o ls k words todo
  open_round k words todo h all = record {
    count = h.count;
    each = λ s below. elim (h.each s below) [ inl near ↦ inl near | inr far ↦ inr (inl far) ];
    done = λ p t _ best target. inl (all p t best target);
  }

  -- moves may be forgotten and repeated
  pub weaken : (k : ℕ) (words : List ℕ) (todo left : ℕ → ℕ → Type 0) → IsWithinRound o ls k words todo → ((p t : ℕ) → HasTarget ls p t → todo p t → left p t) → IsWithinRound o ls k words left
  weaken k words todo left h more = record {
    count = h.count;
    each = h.each;
    done = λ p t below best target. elim (h.done p t below best target) [ inl there ↦ inl (more p t target there) | inr le ↦ inr le ];
  }

  -- the settled words of the numbers that are near are less than all that the round puts
  pub near_low : (k s w : ℕ) → length ls ≤ 33554432 → IsNear o ls k s w → w < (k + 1) * 4294967296
  near_low k s w few h = by h.settled
    where
      by : IsSettledWord o ls s w → w < (k + 1) * 4294967296
      by (inl is) = let word = is.1 in omega (arith, word)
      by (inr (inl is)) =
          let same = best_once o ls s (is.1.0 + 1) h.n is.1.2 h.best in let within = h.within in
          let below = source_below ls is.1.1 s is.1.3.target in let word = is.1.4 in
          omega (arith, same, within, below, few, word)
      by (inr (inr is)) = absurd (is.0 h.n h.best.walk)

  -- a settled word never rises
  falls : (words : List ℕ) (t v s : ℕ) → get_or (set words t (min (get_or words t 0) v)) s 0 ≤ get_or words s 0
  falls words t v s = elim (same_or_not s t) [
    | inl is ↦ elim (cases_lt t (length words)) [
      | inl lt ↦ let e = get_or-set_at words t s (min (get_or words t 0) v) 0 is lt in (let f = ap (λ i. get_or words i 0) is in omega (arith, e, f))
      | inr ge ↦ let e = get_or_past (set words t (min (get_or words t 0) v)) s 0 (let l = length-set words t (min (get_or words t 0) v) in omega (arith, l, ge, is)) in omega (arith, e)
    ]
    | inr other ↦ let e = get_or-set_other words t s (min (get_or words t 0) v) 0 other in omega (arith, e)
  ]

  relaxed_word : (k s w p : ℕ) → length ls ≤ 33554432 → k < 33554432 → IsBest o ls p k → HasTarget ls p s
      → IsNear o ls k s w ⊎ IsFar o ls k s w ⊎ IsFound o ls k s w → IsNear o ls k s (min w (moved k p)) ⊎ IsFar o ls k s (min w (moved k p)) ⊎ IsFound o ls k s (min w (moved k p))
  relaxed_word k s w p few low best target (inl near) =
      let l = near_low k s w few near in let e : w ≡ min w (moved k p) = omega (arith, l) in subst (λ x. IsNear o ls k s x ⊎ IsFar o ls k s x ⊎ IsFound o ls k s x) e (inl near)
  relaxed_word k s w p few low best target (inr (inl far)) =
      let below = source_below ls p s target in let word = far.word in
      inr (inr (record { beyond = far.beyond; p = p; before = best; target = target; word = omega (arith, below, few, low, word) }))
  relaxed_word k s w p few low best target (inr (inr found)) = elim (cases_lt w (moved k p)) [
    | inl lt ↦ let e : w ≡ min w (moved k p) = omega (arith, lt) in subst (λ x. IsNear o ls k s x ⊎ IsFar o ls k s x ⊎ IsFound o ls k s x) e (inr (inr found))
    | inr ge ↦ inr (inr (record { beyond = found.beyond; p = p; before = best; target = target; word = omega (arith, ge) }))
  ]

  -- one move is made
  pub relax : (k : ℕ) (words : List ℕ) (todo left : ℕ → ℕ → Type 0) (p t : ℕ)
      → length ls ≤ 33554432 → k < 33554432 → t < length ls → IsWithinRound o ls k words todo → IsBest o ls p k → HasTarget ls p t
      → ((q u : ℕ) → todo q u → left q u ⊎ ((q ≡ p) × (u ≡ t)))
      → IsWithinRound o ls k (set words t (min (get_or words t 0) (moved k p))) left
  relax k words todo left p t few low within h best target rest = record {
    count = length-set words t (min (get_or words t 0) (moved k p)) ∙ h.count;
    each = λ s below. elim (same_or_not s t) [
      | inl is ↦ subst (λ x. IsNear o ls k s x ⊎ IsFar o ls k s x ⊎ IsFound o ls k s x) (sym (at_t s is)) (subst (λ i. IsNear o ls k i (min (get_or words t 0) (moved k p)) ⊎ IsFar o ls k i (min (get_or words t 0) (moved k p)) ⊎ IsFound o ls k i (min (get_or words t 0) (moved k p))) (sym is) (relaxed_word k t (get_or words t 0) p few low best target (h.each t within)))
      | inr other ↦ subst (λ x. IsNear o ls k s x ⊎ IsFar o ls k s x ⊎ IsFound o ls k s x) (sym (get_or-set_other words t s (min (get_or words t 0) (moved k p)) 0 other)) (h.each s below)
    ];
    done = λ q u below b g. elim (h.done q u below b g) [
      | inl there ↦ elim (rest q u there) [
        | inl later ↦ inl later
        | inr now ↦ inr (let e = at_t u now.1 in let q_is = now.0 in omega (arith, e, q_is))
      ]
      | inr le ↦ inr (let f = falls words t (moved k p) u in omega (arith, f, le))
    ];
  }
    where
      at_t : (s : ℕ) → s ≡ t → get_or (set words t (min (get_or words t 0) (moved k p))) s 0 ≡ min (get_or words t 0) (moved k p)
      at_t s is = get_or-set_at words t s (min (get_or words t 0) (moved k p)) 0 is (let c = h.count in omega (arith, c, within))

  pub found_best : (k s w : ℕ) → IsFound o ls k s w → IsBest o ls s (suc k)
  found_best k s w h = record { walk = (h.p, h.before.walk, h.target); least = λ m walk. elim (cases_lt k m) [ inl lt ↦ omega (arith, lt) | inr ge ↦ absurd (h.beyond m ge walk) ] }

  shut_found : (k s w : ℕ) → ((q : ℕ) → IsBest o ls q k → HasTarget ls q s → w ≤ moved k q) → IsFound o ls k s w → IsNear o ls (suc k) s w
  shut_found k s w least h = record {
    n = suc k;
    within = omega arith;
    best = found_best k s w h;
    settled = inr (inl (
      (λ is_start. h.beyond 0 (omega arith) is_start),
      (
        k,
        h.p,
        subst (λ n. IsBest o ls s n) (let e : suc k ≡ k + 1 = omega arith in e) (found_best k s w h),
        record { before = h.before; target = h.target; least = λ q b g. (let l = least q b g in let e = h.word in omega (arith, l, e)) },
        h.word,
      ),
    ));
  }

  -- no move is left
  pub shut : (k : ℕ) (words : List ℕ) (todo : ℕ → ℕ → Type 0) → length ls ≤ 33554432 → k < 33554432 → IsWithinRound o ls k words todo → ((p t : ℕ) → todo p t → ⊥) → IsBetween o ls (suc k) words
  shut k words todo few low h none = record {
    count = h.count;
    each = λ s below. elim (h.each s below) [
      | inl near ↦ inl (record { n = near.n; within = (let l = near.within in omega (arith, l)); best = near.best; settled = near.settled })
      | inr (inl far) ↦ inr (record { beyond = λ j le walk. beyond s below far.beyond far.word j le walk; word = far.word })
      | inr (inr found) ↦ inl (shut_found k s (get_or words s 0) (done s below) found)
    ];
  }
    where
      done : (s : ℕ) → s < length ls → (q : ℕ) → IsBest o ls q k → HasTarget ls q s → get_or words s 0 ≤ moved k q
      done s below q b g = elim (h.done q s below b g) [ inl there ↦ absurd (none q s there) | inr le ↦ le ]

      last : (s : ℕ) → s < length ls → IsBeyond o ls k s → get_or words s 0 ≡ unreached → Reaches o ls (suc k) s → ⊥
      last s below far is walk = elim (h.each walk.0 (source_below ls walk.0 s walk.2)) [
        | inl near ↦ elim (cases_lt near.n k) [
          | inl lt ↦ far (suc near.n) (omega (arith, lt)) (walk.0, near.best.walk, walk.2)
          | inr ge ↦ let is_k : near.n ≡ k = (let le = near.within in omega (arith, ge, le)) in
              let le = done s below walk.0 (subst (λ n. IsBest o ls walk.0 n) is_k near.best) walk.2 in
              let p_below = source_below ls walk.0 s walk.2 in
              absurd (omega (arith, le, is, p_below, few, low))
        ]
        | inr (inl there) ↦ there.beyond k (omega arith) walk.1
        | inr (inr there) ↦ there.beyond k (omega arith) walk.1
      ]

      beyond : (s : ℕ) → s < length ls → IsBeyond o ls k s → get_or words s 0 ≡ unreached → (j : ℕ) → j ≤ suc k → Reaches o ls j s → ⊥
      beyond s below far is j le walk = elim (cases_lt k j) [
        | inl lt ↦ let j_is : j ≡ suc k = omega (arith, lt, le) in last s below far is (subst (λ n. Reaches o ls n s) j_is walk)
        | inr ge ↦ far j ge walk
      ]

  -- where no number is at distance k, each reached number is nearer
  pub levels : (k : ℕ) (words : List ℕ) → IsBetween o ls k words → ((s : ℕ) → s < length ls → IsBest o ls s k → ⊥) → (n s : ℕ) → s < length ls → Reaches o ls n s → (j : ℕ) × (j < k) × IsBest o ls s j
  levels k words h none zero s below walk = elim (cases_lt 0 k) [
    | inl lt ↦ (0, lt, record { walk = walk; least = λ m _. omega arith })
    | inr ge ↦ absurd (none s below (subst (λ n. IsBest o ls s n) (let e : 0 ≡ k = omega (arith, ge) in e) (record { walk = walk; least = λ m _. omega arith })))
  ]
  levels k words h none (suc n) s below walk = nearer (levels k words h none n walk.0 (source_below ls walk.0 s walk.2) walk.1)
    where
      nearer : (j : ℕ) × (j < k) × IsBest o ls walk.0 j → (j : ℕ) × (j < k) × IsBest o ls s j
      nearer before = elim (h.each s below) [
        | inl near ↦ elim (cases_lt near.n k) [
          | inl lt ↦ (near.n, lt, near.best)
          | inr ge ↦ absurd (none s below (subst (λ n. IsBest o ls s n) (let e : near.n ≡ k = (let le = near.within in omega (arith, ge, le)) in e) near.best))
        ]
        | inr far ↦ absurd (far.beyond (suc before.0) (let lt = before.1 in omega (arith, lt)) (walk.0, before.2.walk, walk.2))
      ]

  -- and the words are settled
  pub settled : (k : ℕ) (words : List ℕ) → IsBetween o ls k words → ((s : ℕ) → s < length ls → IsBest o ls s k → ⊥) → AreSettled o ls words
  settled k words h none = record {
    count = h.count;
    each = λ s s_below. settled_word s (let count = h.count in let below : s < length ls = omega (arith, count, s_below) in below);
  }
    where
      settled_word : (s : ℕ) → s < length ls → IsSettledWord o ls s (get_or words s 0)
      settled_word s below = elim (h.each s below) [
        | inl near ↦ near.settled
        | inr far ↦ inr (inr ((λ n walk. (let before = levels k words h none n s below walk in far.beyond before.0 (let lt = before.1 in omega (arith, lt)) before.2.walk)), far.word))
      ]
