-- From one round to the next.
use Rattle.std.proofs.Common.{◌≡◌, ℕ, zero, suc, ◌+◌, ◌<◌, ◌≤◌, ◌⊎◌, true, List, [], ◌∷◌, length, get_or, Some, refl, ap, sym, subst, ⊎_elim, inl, inr, arith, add-one}
use Rattle.std.proofs.lemmas.Bool.{cases_lt}
use Rattle.graph_rules.specs.Graphs.{HasTarget, Reaches, IsBest, Stands, moved}
use Rattle.graph_rules.proofs.Distances.{source_below, back}
use Rattle.round_core.specs.Rounds.{Has, AreRisingNumbers}
use Rattle.round_core.specs.Machines.{IsGraph}
use Rattle.round_core.specs.Searches.{IsRounds}
use Rattle.round_core.proofs.Members.{has_none, has_cons}
use Rattle.dist_table.specs.declared.call.Call.{Call}
use Rattle.dist_table.specs.Histories.{call, opening_words}
use Rattle.dist_table.specs.Tables.{TableView}
use Rattle.steal_rounds.specs.inside.Moves.{Found}
use Rattle.steal_rounds.specs.inside.Fronts.{IsWorked, IsBeforeRound}
use Rattle.steal_rounds.specs.MadeMoves.{HasMove, HasMoves}
use Rattle.steal_rounds.proofs.Spreads.{prefix_get}
use Rattle.steal_rounds.proofs.Falls.{reply_below, later_less, opens_zero}
use Rattle.std.proofs.lemmas.Option.{slice_get_within}

abbrev pub IsFew : TableView → ℕ → Type 0
IsFew t k = IsGraph t.origin t.lists × (k < 2147483648)

abbrev IsNearer : TableView → ℕ → ℕ → Type 0
IsNearer t k u = (n : ℕ) × (n ≤ k) × IsBest t.origin t.lists u n

module _ (t : TableView) (k : ℕ) (front : List ℕ) (seen now : List Call) (notes : List ℕ) (few : IsFew t k) (r : IsBeforeRound t k front seen) (w : IsWorked t k front seen now notes) where
  -- a number to which a move of the round led was nearer, or it was noted
  nearer_or_noted : (fuel p u : ℕ) → p < fuel → Reaches t.origin t.lists k p → HasTarget t.lists p u → IsNearer t k u ⊎ Has notes u
  nearer_or_noted zero p u lt walk edge = absurd (omega (arith, lt))
  nearer_or_noted (suc fuel) p u lt walk edge =
      let b = r.near p k (omega arith) walk in
      elim (cases_lt b.0 k) [
        | inl less ↦ inl (shorter (b.0 + 1) (omega (arith, less)) (longer b.0 (b.2).walk))
        | inr ge ↦ (let le = b.1 in let same : b.0 ≡ k = omega (arith, ge, le) in
            let best = subst (λ n. IsBest t.origin t.lists p n) same b.2 in
            let x = w.moves p u (r.frontier.all p (source_below t.lists p u edge) best) edge in
            ⊎_elim (λ less. by x.2 less x.4 (λ q small walk' edge'. nearer_or_noted fuel q u (omega (arith, small, lt)) walk' edge')) (λ (has : Has notes u). inr has) x.5)
      ]
    where
      shorter : (j : ℕ) → j ≤ k → Reaches t.origin t.lists j u → IsNearer t k u
      shorter j le walk' = let b = r.near u j le walk' in let l = b.1 in (b.0, omega (arith, l, le), b.2)

      longer : (n : ℕ) → Reaches t.origin t.lists n p → Reaches t.origin t.lists (n + 1) u
      longer n walk' = rw add-one (p, walk', edge)

      by : (reply : ℕ) → reply < moved k p → Stands t.origin t.lists u reply → ((q : ℕ) → q < p → Reaches t.origin t.lists k q → HasTarget t.lists q u → IsNearer t k u ⊎ Has notes u) → IsNearer t k u ⊎ Has notes u
      by reply less (inl none) again = absurd (let f = (few.0).few in let g = few.1 in let s = source_below t.lists p u edge in omega (arith, none, less, f, g, s))
      by reply less (inr (inl start)) again = inl (0, omega arith, record { walk = start.1; least = λ m walk'. omega arith })
      by reply less (inr (inr h)) again = elim (cases_lt h.0 k) [
        | inl lt' ↦ inl (shorter (suc h.0) (omega (arith, lt')) (h.1, h.4, h.5))
        | inr ge ↦ (let is = h.2 in let s = h.3 in
            let f = (few.0).few in let below = source_below t.lists p u edge in
            let same : h.0 ≡ k = omega (arith, is, less, ge, s, f, below) in
            again h.1 (omega (arith, is, less, same)) (subst (λ n. Reaches t.origin t.lists n h.1) same h.4) h.5)
      ]

  -- what was noted is one move farther
  noted_best : (u : ℕ) → Has notes u → IsBest t.origin t.lists u (suc k)
  noted_best u has =
      let f = w.adds u has in
      let s = f.0 in
      let in_front = r.frontier.best s f.1 in
      record {
        walk = (s, (in_front.1).walk, f.2.0);
        least = λ m walk. (elim (cases_lt k m) [
          | inl lt ↦ omega (arith, lt)
          | inr ge ↦ absurd (let b = r.near u m ge walk in let l = b.1 in by b.0 (omega (arith, l, ge)) b.2)
        ]);
      }
    where
      f : Found t k front seen now u
      f = w.adds u has

      by : (n : ℕ) → n ≤ k → IsBest t.origin t.lists u n → ⊥
      by zero le best =
          let x = f.2.1 in
          let a = reply_below (opening_words t.origin (length t.lists)) now x.0 (call x.1 true u (moved k f.0) x.2) w.legal x.4 in
          let z = opens_zero t.origin (length t.lists) in
          let b = subst (λ y. x.2 ≤ get_or (opening_words t.origin (length t.lists)) y 0) best.walk a in
          let c = x.5 in
          omega (arith, b, z, c)
      by (suc n) le best =
          let x = f.2.1 in
          let p = back t.origin t.lists u n best in
          let m = r.before p.0 n u p.1 (omega (arith, le)) p.2 in
          let at = slice_get_within seen m.0 _ m.3 in
          let later = x.3 in
          let a = later_less (opening_words t.origin (length t.lists)) now m.0 x.0 m.1 x.1 u (moved n p.0) m.2 (moved k f.0) x.2 true w.legal (omega (arith, at, later)) (prefix_get seen now m.0 _ w.grows m.3) x.4 in
          let c = x.5 in let few' = (few.0).few in let s = source_below t.lists p.0 u p.2 in
          omega (arith, a, c, le, few', s)

  pub next_ready : (next : List ℕ) → ((u : ℕ) → Has next u → Has notes u) → ((u : ℕ) → Has notes u → Has next u) → AreRisingNumbers next → (s : ℕ) → Has front s → IsBeforeRound t (suc k) next now
  next_ready next fresh all rising s here = record {
    legal = w.legal;
    near = near;
    frontier = record {
      best = λ u has. (let n = fresh u has in (target_below u n, noted_best u n));
      all = λ u below best. all u (let p = back t.origin t.lists u k best in
          elim (nearer_or_noted (suc p.0) p.0 u (omega arith) (p.1).walk p.2) [
            | inl h ↦ absurd (let l = best.least h.0 (h.2).walk in let m = h.1 in omega (arith, l, m))
            | inr h ↦ h
          ]);
    };
    rising = rising;
    before = λ p n u best lt edge. elim (cases_lt n k) [
      | inl less ↦ (let m = r.before p n u best less edge in (m.0, m.1, m.2, prefix_get seen now m.0 _ w.grows m.3))
      | inr ge ↦ (let same : n ≡ k = omega (arith, lt, ge) in
          let best' = subst (λ m. IsBest t.origin t.lists p m) same best in
          let x = w.moves p u (r.frontier.all p (source_below t.lists p u edge) best') edge in
          subst (λ m. HasMove now m p u) (sym same) (x.0, x.1, x.2, x.3))
    ];
    met = inr (s, k, (r.frontier.best s here).0, (r.frontier.best s here).1, omega arith);
  }
    where
      target_below : (u : ℕ) → Has notes u → u < length t.lists
      target_below u has = (let f = w.adds u has in (few.0).targets f.0 u f.2.0)

      near : (u j : ℕ) → j ≤ suc k → Reaches t.origin t.lists j u → (n : ℕ) × (n ≤ j) × IsBest t.origin t.lists u n
      near u zero le walk = r.near u 0 (omega arith) walk
      near u (suc j) le walk = elim (cases_lt j k) [
        | inl lt ↦ r.near u (suc j) (omega (arith, lt)) walk
        | inr ge ↦ (let same : j ≡ k = omega (arith, le, ge) in
            elim (nearer_or_noted (suc walk.0) walk.0 u (omega arith) (subst (λ m. Reaches t.origin t.lists m walk.0) same walk.1) walk.2) [
              | inl h ↦ (let m = h.1 in (h.0, omega (arith, m, same), h.2))
              | inr h ↦ (suc k, omega (arith, same), noted_best u h)
            ])
      ]

abbrev pub OriginBelow : TableView → Type 0
OriginBelow t = t.origin < length t.lists

-- before the first round
pub first_ready : (t : TableView) → IsGraph t.origin t.lists → IsBeforeRound t 0 (t.origin ∷ []) []
first_ready t graph = record {
  legal = tt;
  near = λ u j le walk. (0, omega arith, record { walk = at_origin u j le walk; least = λ m walk'. omega arith });
  frontier = record {
    best = λ s has. elim (has_cons t.origin [] s has) [
      | inl is ↦ (subst (λ x. x < length t.lists) is graph.start, record { walk = sym is; least = λ m walk. omega arith })
      | inr none ↦ absurd (has_none s none)
    ];
    all = λ s below best. (0, ap Some (sym best.walk));
  };
  rising = ((λ y has. absurd (has_none y has)), tt);
  before = λ s n u best lt edge. absurd (omega (arith, lt));
  met = inl refl;
}
  where
    at_origin : (u j : ℕ) → j ≤ 0 → Reaches t.origin t.lists j u → u ≡ t.origin
    at_origin u zero le walk = walk
    at_origin u (suc j) le walk = absurd (omega (arith, le))

-- of a number at least k away some number on the way is k away
ancestor : (o : ℕ) (ls : List (List ℕ)) (k n s : ℕ) → k ≤ n → s < length ls → IsBest o ls s n → (p : ℕ) × (p < length ls) × IsBest o ls p k
ancestor o ls k zero s le below best = (s, below, subst (λ m. IsBest o ls s m) (omega (arith, le)) best)
ancestor o ls k (suc n) s le below best = by (λ p lt b less. ancestor o ls k n p less lt b)
  where
    by : ((p : ℕ) → p < length ls → IsBest o ls p n → k ≤ n → (q : ℕ) × (q < length ls) × IsBest o ls q k) → (q : ℕ) × (q < length ls) × IsBest o ls q k
    by again = elim (cases_lt n k) [
      | inl lt ↦ (s, below, subst (λ m. IsBest o ls s m) (omega (arith, le, lt)) best)
      | inr ge ↦ (let p = back o ls s n best in again p.0 (source_below ls p.0 s p.2) p.1 ge)
    ]

-- where the frontier is empty, no number is farther
pub all_nearer : (t : TableView) (k : ℕ) (seen : List Call) → IsBeforeRound t k [] seen → (n s : ℕ) → s < length t.lists → IsBest t.origin t.lists s n → n < k
all_nearer t k seen r n s below best = elim (cases_lt n k) [
  | inl lt ↦ lt
  | inr ge ↦ absurd (let p = ancestor t.origin t.lists k n s ge below best in has_none p.0 (r.frontier.all p.0 p.1 p.2))
]

pub has_moves : (t : TableView) (k : ℕ) (seen : List Call) → IsBeforeRound t k [] seen → HasMoves t seen
has_moves t k seen r s n u best edge = r.before s n u best (all_nearer t k seen r n s (source_below t.lists s u edge) best) edge

pub are_rounds : (t : TableView) (k : ℕ) (seen : List Call) → IsGraph t.origin t.lists → IsBeforeRound t k [] seen → IsRounds t.origin t.lists k
are_rounds t k seen graph r = record {
  most = λ s n below best. all_nearer t k seen r n s below best;
  met = ⊎_elim (λ (zero : k ≡ 0). absurd (has_none t.origin (r.frontier.all t.origin graph.start (subst (λ m. IsBest t.origin t.lists t.origin m) (sym zero) (record { walk = refl; least = λ m walk. omega arith })))))
      (λ (h : (s : ℕ) × (n : ℕ) × (s < length t.lists) × IsBest t.origin t.lists s n × (n + 1 ≡ k)). h) r.met;
}
