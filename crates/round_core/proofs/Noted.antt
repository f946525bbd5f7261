-- The numbers that a round notes.
use Rattle.std.proofs.Common.{◌≡◌, ◌≢◌, ◌==◌, ℕ, suc, ◌+◌, ◌*◌, ◌≤◌, ◌<◌, ◌⊎◌, Bool, true, false, true≢false, List, [], ◌∷◌, ◌++◌, length, get_or, min, sym, ap, subst, ◌∙◌, refl, arith, inl, inr}
use Rattle.std.proofs.lemmas.List.{get_or-set_other}
use Rattle.std.proofs.lemmas.Grind.{get_or-set_at}
use Rattle.std.proofs.lemmas.Bool.{eqb-true}
use Rattle.std.proofs.lemmas.Bool.Decides.{eqb_tells}
use Rattle.std.specs.Prelude.{cond}
use Rattle.graph_rules.specs.Graphs.{HasTarget, IsBest, IsSettledWord, Stands, moved, unreached}
use Rattle.graph_rules.proofs.Distances.{same_or_not, source_below}
use Rattle.graph_rules.proofs.RelaxedLemmas.{settled_stands}
use Rattle.graph_rules.proofs.SettledLemmas.{best_once}
use Rattle.round_core.specs.inside.InRounds.{IsWithinRound, IsOfRound, IsNoting}
use Rattle.round_core.specs.Machines.{lowered, noted_with}
use Rattle.round_core.specs.Rounds.{Has, IsNear, IsFar, IsBetween, IsFrontier}
use Rattle.round_core.proofs.Members.{has_none, has_left, has_last, has_snoc}
use Rattle.round_core.proofs.Rounds.{near_low, open_round, relax, shut, weaken, found_best}

lowered_at : (words : List ℕ) (t v s : ℕ) → t < length words → s ≡ t → get_or (lowered words t v) s 0 ≡ min (get_or words t 0) v
lowered_at words t v s lt is = get_or-set_at words t s (min (get_or words t 0) v) 0 is lt

lowered_other : (words : List ℕ) (t v s : ℕ) → s ≢ t → get_or (lowered words t v) s 0 ≡ get_or words s 0
lowered_other words t v s other = get_or-set_other words t s (min (get_or words t 0) v) 0 other

of_round_stays : (k : ℕ) (words : List ℕ) (t v s : ℕ) → t < length words → (k + 1) * 4294967296 ≤ v → v < unreached → IsOfRound k (get_or words s 0) → IsOfRound k (get_or (lowered words t v) s 0)
of_round_stays k words t v s lt high low h = elim (same_or_not s t) [
  | inl is ↦ let e = lowered_at words t v s lt is in let f = ap (λ i. get_or words i 0) is in let g = h.0 in (omega (arith, e, f, g, high), λ bad. omega (arith, e, low, bad))
  | inr other ↦ subst (λ x. IsOfRound k x) (sym (lowered_other words t v s other)) h
]

has_noted : (noted : List ℕ) (t w s : ℕ) → Has noted s → Has (noted_with noted t w) s
has_noted noted t w s h = by (w == unreached)
  where
    by : (b : Bool) → Has (cond b (noted ++ t ∷ []) noted) s
    by true = has_left noted (t ∷ []) s h
    by false = h

module _ (o : ℕ) (ls : List (List ℕ)) where
  -- one move is made
  pub noting_step : (k : ℕ) (words noted : List ℕ) (todo left : ℕ → ℕ → Type 0) (p t : ℕ)
      → length ls ≤ 33554432 → k < 33554432 → t < length ls → IsNoting o ls k words noted todo → IsBest o ls p k → HasTarget ls p t
      → ((q u : ℕ) → todo q u → left q u ⊎ ((q ≡ p) × (u ≡ t)))
      → IsNoting o ls k (lowered words t (moved k p)) (noted_with noted t (get_or words t 0)) left
  noting_step k words noted todo left p t few low inside h best target rest = record {
    within = relax o ls k words todo left p t few low inside h.within best target rest;
    fresh = fresh (get_or words t 0 == unreached) refl;
    all = λ s below is. all s below is;
  }
    where
      p_below : p < length ls
      p_below = source_below ls p t target

      t_below : t < length words
      t_below = let c = h.within.count in omega (arith, c, inside)

      v_low : moved k p < unreached
      v_low = omega (arith, p_below, few, low)

      v_high : (k + 1) * 4294967296 ≤ moved k p
      v_high = omega arith

      old : (s : ℕ) → Has noted s → (s < length ls) × IsOfRound k (get_or (lowered words t (moved k p)) s 0)
      old s has = let was = h.fresh s has in (was.0, of_round_stays k words t (moved k p) s t_below v_high v_low was.1)

      fresh : (b : Bool) → (get_or words t 0 == unreached) ≡ b → (s : ℕ) → Has (cond b (noted ++ t ∷ []) noted) s → (s < length ls) × IsOfRound k (get_or (lowered words t (moved k p)) s 0)
      fresh true is s has = elim (has_snoc noted t s has) [
        | inl before ↦ old s before
        | inr now ↦ let e = lowered_at words t (moved k p) s t_below (sym now) in let w = eqb-true (get_or words t 0) unreached is in
            (omega (arith, inside, now), (omega (arith, e, w, v_low, v_high), λ bad. omega (arith, e, v_low, bad)))
      ]
      fresh false is s has = old s has

      at_t : (b : Bool) → (get_or words t 0 == unreached) ≡ b → IsOfRound k (min (get_or words t 0) (moved k p)) → Has (cond b (noted ++ t ∷ []) noted) t
      at_t true is of = has_last noted t
      at_t false is of = h.all t inside ((let g = of.0 in omega (arith, g)), λ bad. (let e = eqb_tells (get_or words t 0) unreached in elim e [ inl y ↦ true≢false (sym y.0 ∙ is) | inr n ↦ n.1 bad ]))

      all : (s : ℕ) → s < length ls → IsOfRound k (get_or (lowered words t (moved k p)) s 0) → Has (noted_with noted t (get_or words t 0)) s
      all s below of = elim (same_or_not s t) [
        | inl is ↦ subst (λ x. Has (noted_with noted t (get_or words t 0)) x) (sym is) (at_t (get_or words t 0 == unreached) refl (subst (λ x. IsOfRound k x) (lowered_at words t (moved k p) s t_below is) of))
        | inr other ↦ has_noted noted t (get_or words t 0) s (h.all s below (subst (λ x. IsOfRound k x) (lowered_other words t (moved k p) s other) of))
      ]

  -- a round begins
  pub open_noting : (k : ℕ) (words : List ℕ) (todo : ℕ → ℕ → Type 0) → length ls ≤ 33554432 → IsBetween o ls k words → ((p t : ℕ) → IsBest o ls p k → HasTarget ls p t → todo p t) → IsNoting o ls k words [] todo
  open_noting k words todo few h cover = record {
    within = open_round o ls k words todo h cover;
    fresh = λ s has. absurd (has_none s has);
    all = λ s below of. elim (h.each s below) [
      | inl near ↦ absurd (let l = near_low o ls k s (get_or words s 0) few near in let g = of.0 in omega (arith, l, g))
      | inr far ↦ absurd (of.1 far.word)
    ];
  }

  pub weaken_noting : (k : ℕ) (words noted : List ℕ) (todo left : ℕ → ℕ → Type 0) → IsNoting o ls k words noted todo → ((p t : ℕ) → HasTarget ls p t → todo p t → left p t) → IsNoting o ls k words noted left
  weaken_noting k words noted todo left h more = record { within = weaken o ls k words todo left h.within more; fresh = h.fresh; all = h.all }

  -- a round ends
  pub shut_noting : (k : ℕ) (words noted : List ℕ) (todo : ℕ → ℕ → Type 0) → length ls ≤ 33554432 → k < 33554432 → IsNoting o ls k words noted todo → ((p t : ℕ) → todo p t → ⊥)
      → IsBetween o ls (suc k) words × IsFrontier o ls (suc k) noted
  shut_noting k words noted todo few low h none = (
    next,
    record {
      best = λ s has. (let was = h.fresh s has in (was.0, best s was.0 was.1));
      all = λ s below b. h.all s below (of s below b (next.each s below));
    },
  )
    where
      next : IsBetween o ls (suc k) words
      next = shut o ls k words todo few low h.within none

      best : (s : ℕ) → s < length ls → IsOfRound k (get_or words s 0) → IsBest o ls s (suc k)
      best s below is = elim (h.within.each s below) [
        | inl near ↦ absurd (let l = near_low o ls k s (get_or words s 0) few near in let g = is.0 in omega (arith, l, g))
        | inr (inl far) ↦ absurd (is.1 far.word)
        | inr (inr found) ↦ found_best o ls k s (get_or words s 0) found
      ]

      word_is : (s w : ℕ) → IsBest o ls s (suc k) → IsSettledWord o ls s w → IsOfRound k w
      word_is s w b (inl is) = absurd (let l = b.least 0 is.0 in omega (arith, l))
      word_is s w b (inr (inl is)) =
          let same = best_once o ls s (is.1.0 + 1) (suc k) is.1.2 b in
          let p_below = source_below ls is.1.1 s is.1.3.target in let word = is.1.4 in
          (omega (arith, same, word), λ bad. omega (arith, same, word, p_below, few, low, bad))
      word_is s w b (inr (inr is)) = absurd (is.0 (suc k) b.walk)

      of : (s : ℕ) → s < length ls → IsBest o ls s (suc k) → IsNear o ls (suc k) s (get_or words s 0) ⊎ IsFar o ls (suc k) s (get_or words s 0) → IsOfRound k (get_or words s 0)
      of s below b (inl near) = word_is s (get_or words s 0) b near.settled
      of s below b (inr far) = absurd (far.beyond (suc k) (omega arith) b.walk)

  -- in a round each settled word stands
  pub stands : (k : ℕ) (words : List ℕ) (todo : ℕ → ℕ → Type 0) → length ls ≤ 33554432 → IsWithinRound o ls k words todo → (s : ℕ) → s < length ls → Stands o ls s (get_or words s 0)
  stands k words todo few h s below = elim (h.each s below) [
    | inl near ↦ settled_stands o ls s (get_or words s 0) (omega (arith, few)) near.settled
    | inr (inl far) ↦ inl far.word
    | inr (inr found) ↦ inr (inr (k, found.p, found.word, (let b = source_below ls found.p s found.target in omega (arith, b, few)), found.before.walk, found.target))
  ]

  -- the start alone is at distance 0
  pub front_start : o < length ls → IsFrontier o ls 0 (o ∷ [])
  front_start below = record {
    best = λ s has. elim (has_snoc [] o s has) [
      | inl none ↦ absurd (has_none s none)
      | inr is ↦ (omega (arith, below, is), record { walk = sym is; least = λ m _. omega arith })
    ];
    all = λ s _ best. subst (λ x. Has (o ∷ []) x) (sym best.walk) (has_last [] o);
  }
