-- A valid certificate's listing is one that the moves keep.
use Rattle.std.proofs.Common.{◌≡◌, ℕ, ◌+◌, ◌-◌, ◌≤◌, List, [], ◌∷◌, ◌++◌, map, filter, refl, sym, ap, subst, arith, Bool, true, Some, ◌∙◌, Contains}
use Rattle.std.specs.Prelude.{◌&&◌, ◌==◌, nat_le, option_and_then}
use Rattle.std.specs.List.{list_all}
use Rattle.std.proofs.lemmas.List.{map-append}
use Rattle.std.proofs.lemmas.Bool.{eqb-true, eq-eqb, leb-true}
use Rattle.steno_rules.specs.Outlines.{AreWords, flagged_entries}
use Rattle.steno_rules.specs.States.{State, IsState, targets, kept_targets}
use Rattle.steno_rules.specs.StateNumbers.{state_number}
use Rattle.steno_rules.specs.ClosureGraphs.{numbers_by}
use Rattle.steno_rules.proofs.Lists.{in_map, in_map_of, in_filter}
use Rattle.closure_laws.specs.Listings.{IsListedState, IsListing, IsListedHit}
use Rattle.closure_laws.proofs.StateNumberLemmas.{number_of_fresh}
use Rattle.closure_laws.proofs.NumberStateLemmas.{state_of_number-there}
use Rattle.certificate.specs.CertTexts.{Listed}
use Rattle.report.specs.declared.faults.Why.TheVariants as why
use Rattle.certificate_laws.specs.Checks.{Lines, then_check, listed_by, listed_in}
use Rattle.certificate_laws.specs.Closures.{Pair, closure_of, hit_pair}
use Rattle.certificate_laws.specs.Validity.{is_listed_within, leads_on_by, listed_on_lines, move_checks, is_pair, hit_distances}
use Rattle.certificate_laws.proofs.HoldLemmas.{both, both_back, holds_in, list_all_in, list_any_in}
use Rattle.certificate_laws.specs.inside.Holding.{AllHold}
use Rattle.certificate_laws.specs.inside.OnLines.{state_on_line}
use Rattle.certificate_laws.proofs.HitLemmas.{hit_pair-there}

-- the listed_in states with their distances, as the laws of listings have them
abbrev pub listing : List Listed → List (ℕ × ℕ)
listing all = map (λ s. (s.state, s.distance)) all

-- Without the numbers of lines the listed_on_lines states are the listed_in ones.
pub on_lines-listed : (first : ℕ) (lines : Lines) → map state_on_line (listed_on_lines first lines) ≡ listed_in lines
on_lines-listed first [] = refl
on_lines-listed first (l ∷ ls) =
    map-append state_on_line (map (λ s. (first, s)) (listed_by l)) (listed_on_lines (first + 1) ls)
    ∙ ap (λ xs. xs ++ map state_on_line (listed_on_lines (first + 1) ls)) (same first (listed_by l))
    ∙ ap (λ ys. listed_by l ++ ys) (on_lines-listed (first + 1) ls)
  where
    same : (n : ℕ) (xs : List Listed) → map state_on_line (map (λ s. (n, s)) xs) ≡ xs
    same n [] = refl
    same n (x ∷ xs) = ap (λ ys. x ∷ ys) (same n xs)

-- a state that is listed_in within a distance is in the listing
pub within_listing : (all : List Listed) (most n : ℕ) → is_listed_within all most n ≡ true → (k : ℕ) × Contains (listing all) (n, k) × (k ≤ most)
within_listing all most n e =
    let found = list_any_in (λ s. s.state == n && nat_le s.distance most) all e in
    let two = both (found.0.state == n) (nat_le found.0.distance most) found.2 in
    (found.0.distance, subst (λ m. Contains (listing all) (m, found.0.distance)) (eqb-true found.0.state n two.0) (in_map_of (λ s. (s.state, s.distance)) all found.0 found.1), leb-true found.0.distance most two.1)

-- the targets of a listed_in state
targets_at : (entries : List (List ℕ)) (flags : List Bool) (s : State) → AreWords entries (flagged_entries entries flags) → IsState entries (flagged_entries entries flags) s →
    (closure_of entries flags).targets (state_number entries s) ≡ map (state_number entries) (targets entries (flagged_entries entries flags) s)
targets_at entries flags s are is = ap (numbers_by entries (targets entries (flagged_entries entries flags))) (state_of_number-there entries (flagged_entries entries flags) s are is)

-- what the moves of a certificate say of one move
pub listed_move : (entries : List (List ℕ)) (flags : List Bool) (all : List Listed) (s t : State) (d : ℕ) → AreWords entries (flagged_entries entries flags) → IsState entries (flagged_entries entries flags) s →
    leads_on_by ((closure_of entries flags).targets) all (record { state = state_number entries s; distance = d }) ≡ true → Contains (targets entries (flagged_entries entries flags) s) t →
    (k : ℕ) × IsListedState entries (listing all) t k × (k ≤ d + 1)
listed_move entries flags all s t d are is leads there =
    let on : list_all (is_listed_within all (d + 1)) (map (state_number entries) (targets entries (flagged_entries entries flags) s)) ≡ true =
    subst (λ ts. list_all (is_listed_within all (d + 1)) ts ≡ true) (targets_at entries flags s are is) leads in
    within_listing all (d + 1) (state_number entries t) (list_all_in (is_listed_within all (d + 1)) (map (state_number entries) (targets entries (flagged_entries entries flags) s)) (state_number entries t) on
    (in_map_of (state_number entries) (targets entries (flagged_entries entries flags) s) t there))

-- each listed_in state leads on
pub leads_all : (f : ℕ → List ℕ) (at : ℕ) (before : Lines) (s : Listed) → AllHold (move_checks f at before) → Contains (listed_in before) s → leads_on_by f (listed_in before) s ≡ true
leads_all f at before s holds there =
    let from : Contains (map state_on_line (listed_on_lines 1 before)) s = subst (λ xs. Contains xs s) (sym (on_lines-listed 1 before)) there in
    let x = in_map state_on_line (listed_on_lines 1 before) s from in
    subst (λ y. leads_on_by f (listed_in before) y ≡ true) x.2 (holds_in (λ y. then_check at y.0 why.Move (leads_on_by f (listed_in before) y.1)) (listed_on_lines 1 before) x.0 holds x.1)

kept_in_targets : (entries words : List (List ℕ)) (s t : State) → Contains (kept_targets entries words s) t → Contains (targets entries words s) t
kept_in_targets entries words s t there = ((in_filter _ (targets entries words s) t).0 there).0

-- The listing of a certificate whose start and moves hold.
pub is_listing : (entries : List (List ℕ)) (flags : List Bool) (at : ℕ) (before : Lines) → AreWords entries (flagged_entries entries flags) →
    is_listed_within (listed_in before) 0 0 ≡ true → AllHold (move_checks ((closure_of entries flags).targets) at before) →
    IsListing entries (flagged_entries entries flags) (listing (listed_in before))
is_listing entries flags at before are start moves = record {
  start = (let found = within_listing (listed_in before) 0 0 start in
      let zero_is : found.0 ≡ 0 = omega (arith, found.2) in
      subst (λ n. Contains (listing (listed_in before)) (n, 0)) (sym (number_of_fresh entries)) (subst (λ k. Contains (listing (listed_in before)) (0, k)) zero_is found.1));
  moves = λ s t d is there kept.
      let x = in_map (λ y. (y.state, y.distance)) (listed_in before) (state_number entries s, d) there in
      let same : x.0 ≡ record { state = state_number entries s; distance = d } = pair_back x.0 (state_number entries s) d x.2 in
      let leads = leads_all ((closure_of entries flags).targets) at before x.0 moves x.1 in
      listed_move entries flags (listed_in before) s t d are is (subst (λ y. leads_on_by ((closure_of entries flags).targets) (listed_in before) y ≡ true) same leads) (kept_in_targets entries (flagged_entries entries flags) s t kept);
}
  where
    as_pair : Listed → ℕ × ℕ
    as_pair y = (y.state, y.distance)

    as_listed : ℕ × ℕ → Listed
    as_listed p = record { state = p.0; distance = p.1 }

    pair_back : (y : Listed) (n d : ℕ) → as_pair y ≡ (n, d) → y ≡ record { state = n; distance = d }
    pair_back y n d e = ap as_listed e

-- a hit's distance is among those of its pair
pub distance_there : (entries : List (List ℕ)) (flags : List Bool) (all : List Listed) (p : Pair) (d : ℕ) → AreWords entries (flagged_entries entries flags) →
    IsListedHit entries (flagged_entries entries flags) (listing all) p.entry p.place d → Contains (hit_distances (closure_of entries flags) all p) d
distance_there entries flags all p d are h =
    let n = state_number entries h.state in
    let x = in_map (λ y. (y.state, y.distance)) all (n, d) h.listed_with in
    let state_is : x.0.state ≡ n = ap (λ q. q.0) x.2 in
    let distance_is : x.0.distance ≡ d = ap (λ q. q.1) x.2 in
    let hit_is : (closure_of entries flags).hit n ≡ Some p =
    ap (option_and_then (hit_pair entries)) (state_of_number-there entries (flagged_entries entries flags) h.state are h.is_state)
    ∙ hit_pair-there entries h.state p.entry p.place are.are_entries.rising h.hit in
    let test : is_pair p ((closure_of entries flags).hit x.0.state) ≡ true =
    ap (λ m. is_pair p ((closure_of entries flags).hit m)) state_is ∙ (ap (is_pair p) hit_is ∙ both_back (p.entry == p.entry) (p.place == p.place) (eq-eqb p.entry p.entry refl) (eq-eqb p.place p.place refl)) in
    subst (λ k. Contains (hit_distances (closure_of entries flags) all p) k) distance_is
    (in_map_of (λ y. y.distance) (filter (λ y. is_pair p ((closure_of entries flags).hit y.state)) all) x.0 ((in_filter (λ y. is_pair p ((closure_of entries flags).hit y.state)) all x.0).1 (x.1, test)))
