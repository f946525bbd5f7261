-- The listed hits of a pair are its hits with their least distances, and each listed state leads on.
use Rattle.std.proofs.Common.{◌≡◌, ℕ, suc, ◌+◌, ◌<◌, ◌≤◌, List, length, filter, refl, sym, ap, subst, arith, Bool, true, true≢false, Option, Some, None, ◌∙◌, Contains}
use Rattle.std.specs.Prelude.{◌&&◌, ◌==◌, nat_le, option_and_then, is_some}
use Rattle.std.proofs.lemmas.Bool.{eqb-true, eq-eqb, le-leb}
use Rattle.graph_rules.specs.Graphs.{AreSettled, HasTarget, IsBest, most_numbers}
use Rattle.graph_rules.proofs.Rows.{HasTarget-Contains, best_of_walk}
use Rattle.graph_rules.proofs.SettledLemmas.{settled-kept, best-kept}
use Rattle.steno_rules.specs.Outlines.{AreEntries, AreWords, flagged_entries}
use Rattle.steno_rules.specs.States.{State, IsHit, targets, kept_targets}
use Rattle.steno_rules.specs.StateNumbers.{number_count, state_number, state_of_number}
use Rattle.steno_rules.specs.ClosureGraphs.{all_lists, kept_lists, numbers_by}
use Rattle.steno_rules.proofs.FlaggedWords.{flagged-are}
use Rattle.steno_rules.proofs.Lists.{in_filter, in_map, in_map_of}
use Rattle.closure_laws.specs.NumberedHits.{IsHitNumber}
use Rattle.closure_laws.proofs.GraphLemmas.{kept_trims, length-lists, row_of_number, walk_of_numbers}
use Rattle.closure_laws.proofs.NumberStateLemmas.{state_of_number-is, state_of_number-there}
use Rattle.closure_laws.proofs.StateLemmas.{IsState-Walk, IsState-target}
use Rattle.closure_laws.proofs.TargetLemmas.{targets-Contains}
use Rattle.closure_laws.proofs.StateNumberLemmas.{shape_of_state, shaped-below}
use Rattle.certificate.specs.CertTexts.{Listed}
use Rattle.certificate_laws.specs.Closures.{Pair, closure_of, hit_pair}
use Rattle.certificate_laws.specs.Validity.{hit_distances, is_listed_within, is_pair, leads_on_by}
use Rattle.certificate_laws.proofs.HitLemmas.{hit_pair-there, hit_pair-hit}
use Rattle.certificate_laws.proofs.HoldLemmas.{both, both_back}
use Rattle.audit_certificate.specs.OwnCertificates.{reached_states}
use Rattle.audit_certificate.proofs.PassingAll.{all_pass, one_passes}
use Rattle.audit_certificate.proofs.ReachedStates.{listed_best, best_listed}

pair_same : (p q : Pair) → is_pair p (Some q) ≡ true → p ≡ q
pair_same p q e =
    let two = both (p.entry == q.entry) (p.place == q.place) e in
    ap (λ n. record { entry = n; place = p.place }) (eqb-true p.entry q.entry two.0) ∙ ap (λ n. record { entry = q.entry; place = n }) (eqb-true p.place q.place two.1)

-- a hit that is this pair's
record IsHitOf (entries : List (List ℕ)) (o : Option State) (p : Pair) : Type 0 where
  state : State
  is : o ≡ Some state
  hit : IsHit entries state p.entry p.place

hit_of : (entries : List (List ℕ)) (o : Option State) (p : Pair) → is_pair p (option_and_then (hit_pair entries) o) ≡ true → IsHitOf entries o p
hit_of entries None p e = absurd (true≢false (sym e))
hit_of entries (Some s) p e = by (hit_pair entries s) refl e
  where
    by : (q : Option Pair) → hit_pair entries s ≡ q → is_pair p q ≡ true → IsHitOf entries (Some s) p
    by None is e' = absurd (true≢false (sym e'))
    by (Some q) is e' = record { state = s; is = refl; hit = hit_pair-hit entries s p (is ∙ ap Some (sym (pair_same p q e'))) }

module _ (entries : List (List ℕ)) (flags : List Bool) (table : List ℕ) (are : AreEntries entries) (few : number_count entries ≤ most_numbers) (settled : AreSettled 0 (kept_lists entries (flagged_entries entries flags)) table) where
  abbrev words : List (List ℕ)
  words = flagged_entries entries flags

  abbrev graph : List (List ℕ)
  graph = kept_lists entries words

  are_words : AreWords entries words
  are_words = flagged-are entries flags are

  as_many : length graph ≡ number_count entries
  as_many = length-lists entries words (kept_targets entries words)

  few_lists : length graph ≤ most_numbers
  few_lists = subst (λ n. n ≤ most_numbers) (sym as_many) few

  -- A listed state has a state and its least distance;
  pub of_listed : (s : Listed) → Contains (reached_states table) s → (s.state < number_count entries) × IsBest 0 graph s.state s.distance × (s.distance < number_count entries)
  of_listed s has = subst (λ n. (s.state < n) × IsBest 0 graph s.state s.distance × (s.distance < n)) as_many (listed_best 0 graph table few_lists settled s has)

  pub to_listed : (n d : ℕ) → n < number_count entries → IsBest 0 graph n d → Contains (reached_states table) (record { state = n; distance = d })
  to_listed n d below best = best_listed 0 graph table few_lists settled n d (subst (λ k. n < k) (sym as_many) below) best

  -- each is a state's number;
  pub is_known : (s : Listed) → Contains (reached_states table) s → is_some (state_of_number entries words s.state) ≡ true
  is_known s has =
      let all = (best-kept 0 (all_lists entries words) graph s.state s.distance (kept_trims entries words are_words)).1 (of_listed s has).1 in
      let walk = walk_of_numbers entries words s.distance s.state are_words all.walk in
      let is = IsState-Walk entries words s.distance walk.0 walk.1 in
      ap (λ n. is_some (state_of_number entries words n)) (sym walk.2) ∙ ap is_some (state_of_number-there entries words walk.0 are_words is)

  -- its targets are listed with at most one more.
  pub leads_on : (s : Listed) → Contains (reached_states table) s → leads_on_by ((closure_of entries flags).targets) (reached_states table) s ≡ true
  leads_on s has =
      let trims = kept_trims entries words are_words in
      let at = of_listed s has in
      let all_settled = (settled-kept 0 (all_lists entries words) graph table trims).1 settled in
      let best = (best-kept 0 (all_lists entries words) graph s.state s.distance trims).1 at.1 in
      let row_is = row_of_number entries words (targets entries words) s.state at.0 in
      let many = length-lists entries words (targets entries words) in
      all_pass (is_listed_within (reached_states table) (s.distance + 1)) ((closure_of entries flags).targets s.state) (λ t there.
      let target : HasTarget (all_lists entries words) s.state t = (HasTarget-Contains (all_lists entries words) s.state t).1 (subst (λ xs. Contains xs t) (sym row_is) there) in
      let below : t < number_count entries = target_below s.state t target at.0 there in
      let next = best_of_walk 0 (all_lists entries words) table t (suc s.distance) all_settled (omega (arith, many, below)) (s.state, best.walk, target) in
      let kept = (best-kept 0 (all_lists entries words) graph t next.0 trims).0 next.2 in
      one_passes (λ x. (x.state == t) && nat_le x.distance (s.distance + 1)) (reached_states table) (record { state = t; distance = next.0 }) (to_listed t next.0 below kept)
      (both_back (t == t) (nat_le next.0 (s.distance + 1)) (eq-eqb t t refl) (le-leb next.0 (s.distance + 1) (let l = next.1 in omega (arith, l)))))
    where
      target_below : (n t : ℕ) → HasTarget (all_lists entries words) n t → n < number_count entries → Contains ((closure_of entries flags).targets n) t → t < number_count entries
      target_below n t target below there = of_state (state_of_number entries words n) refl there
        where
          of_state : (o : Option State) → state_of_number entries words n ≡ o → Contains (numbers_by entries (targets entries words) o) t → t < number_count entries
          of_state None is has = absurd (let k = has.1 in omega (arith, k))
          of_state (Some st) is has =
              let x = in_map (state_number entries) (targets entries words st) t has in
              let is_state = (state_of_number-is entries words n st is).0 in
              let move = IsState-target entries words st x.0 is_state ((targets-Contains entries words st x.0).0 x.1) in
              subst (λ k. k < number_count entries) x.2 (shaped-below entries x.0 (shape_of_state entries words x.0 are_words move))

  -- A hit's distance is among those of its pair,
  pub hit_there : (e place number d : ℕ) → IsHitNumber entries words e place number d → Contains (hit_distances (closure_of entries flags) (reached_states table) (record { entry = e; place = place })) d
  hit_there e place number d h =
      let state = state_of_number-is entries words number h.state h.is in
      let below : number < number_count entries = subst (λ n. n < number_count entries) state.1 (shaped-below entries h.state (shape_of_state entries words h.state are_words state.0)) in
      let p : Pair = record { entry = e; place = place } in
      let s : Listed = record { state = number; distance = d } in
      let hit_is : (closure_of entries flags).hit number ≡ Some p = ap (option_and_then (hit_pair entries)) h.is ∙ hit_pair-there entries h.state e place are.rising h.hit in
      let test : is_pair p ((closure_of entries flags).hit number) ≡ true = ap (is_pair p) hit_is ∙ both_back (e == e) (place == place) (eq-eqb e e refl) (eq-eqb place place refl) in
      in_map_of (λ x. x.distance) (filter (λ x. is_pair p ((closure_of entries flags).hit x.state)) (reached_states table)) s
      ((in_filter (λ x. is_pair p ((closure_of entries flags).hit x.state)) (reached_states table) s).1 (to_listed number d below h.best, test))

  -- and each of them is a hit's.
  pub hit_among : (p : Pair) (d : ℕ) → Contains (hit_distances (closure_of entries flags) (reached_states table) p) d → (number : ℕ) × IsHitNumber entries words p.entry p.place number d
  hit_among p d has =
      let x = in_map (λ y. y.distance) (filter (λ y. is_pair p ((closure_of entries flags).hit y.state)) (reached_states table)) d has in
      let two = (in_filter (λ y. is_pair p ((closure_of entries flags).hit y.state)) (reached_states table) x.0).0 x.1 in
      let h = hit_of entries (state_of_number entries words x.0.state) p two.1 in
      (x.0.state, record { state = h.state; is = h.is; hit = h.hit; best = subst (IsBest 0 graph x.0.state) x.2 (of_listed x.0 two.0).1 })
