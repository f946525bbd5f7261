-- The first listed state that doesn't lead on.
use Rattle.std.proofs.Common.{◌≡◌, ℕ, zero, suc, ◌+◌, ◌-◌, ◌<◌, ◌≤◌, List, [], ◌∷◌, ◌++◌, length, take, drop, map, refl, sym, ap, arith, Bool, true, false, not, cond, true≢false, ◌∙◌, get_or, append_assoc}
use Rattle.std.specs.Prelude.{◌&&◌, ◌||◌, ◌==◌, nat_le, slice_get}
use Rattle.std.specs.List.{list_all}
use Rattle.std.proofs.lemmas.Bool.{eqb-true, eq-eqb}
use Rattle.std.proofs.lemmas.List.{take_more, take_all, take-append-drop}
use Rattle.std.proofs.lemmas.List.Folds.{list_all-append}
use Rattle.certificate.specs.CertTexts.{Listed}
use Rattle.certificate_laws.specs.Validity.{is_listed_within}
use Rattle.certificate_laws.specs.inside.OnLines.{state_on_line}
use Rattle.certificate_laws.proofs.HoldLemmas.{both_back}
use Rattle.cert_check.specs.declared.places.Place.{Place}
use Rattle.cert_check.specs.inside.Moves.{steps_on, is_stuck_at, all_pass, IsFirstStuck}
use Rattle.cert_check.specs.inside.Places.{places_from, states_from, is_near_place, place_within}
use Rattle.cert_check.proofs.RunLemmas.{places_from-append}

-- what one place lists
abbrev pub listed_at : ℕ → Place → List (ℕ × Listed)
listed_at n p = places_from n (p ∷ [])

-- The places up to one more.
pub places_more : (ps : List Place) (i : ℕ) (p : Place) → i < length ps → p ≡ get_or ps i p → places_from 0 (take (i + 1) ps) ≡ places_from 0 (take i ps) ++ listed_at i p
places_more ps i p below is =
    let long : length (take i ps) ≡ i = take_long ps i below in
    let at : 0 + length (take i ps) ≡ i = omega (arith, long) in
    ap (places_from 0) (take_more ps i p below ∙ ap (λ x. take i ps ++ x ∷ []) (sym is))
    ∙ (places_from-append 0 (take i ps) (p ∷ []) ∙ ap (λ k. places_from 0 (take i ps) ++ listed_at k p) at)
  where
    take_long : (qs : List Place) (k : ℕ) → k < length qs → length (take k qs) ≡ k
    take_long [] k lt = absurd (omega (arith, lt))
    take_long (q ∷ qs) zero lt = refl
    take_long (q ∷ qs) (suc k) lt = ap suc (take_long qs k (omega (arith, lt)))

-- all places, by those up to one and those behind it
places_split : (ps : List Place) (i : ℕ) (p : Place) → i < length ps → p ≡ get_or ps i p → places_from 0 ps ≡ places_from 0 (take i ps) ++ (listed_at i p ++ places_from (0 + length (take (i + 1) ps)) (drop (i + 1) ps))
places_split ps i p below is =
    ap (places_from 0) (sym (take-append-drop (i + 1) ps))
    ∙ (places_from-append 0 (take (i + 1) ps) (drop (i + 1) ps)
    ∙ (ap (λ xs. xs ++ places_from (0 + length (take (i + 1) ps)) (drop (i + 1) ps)) (places_more ps i p below is)
    ∙ append_assoc (places_from 0 (take i ps)) (listed_at i p) (places_from (0 + length (take (i + 1) ps)) (drop (i + 1) ps))))

-- A place that isn't stuck is passed.
pub stuck_next : (lists : List (List ℕ)) (places : List Place) (i : ℕ) (p : Place) → i < length places → p ≡ get_or places i p → is_stuck_at lists places i p ≡ false →
    all_pass (steps_on lists places) (places_from 0 (take i places)) ≡ true → all_pass (steps_on lists places) (places_from 0 (take (i + 1) places)) ≡ true
stuck_next lists places i p below is free before =
    let test = λ (x : ℕ × Listed). steps_on lists places x.1 in
    ap (list_all test) (places_more places i p below is) ∙ (list_all-append test (places_from 0 (take i places)) (listed_at i p)
    ∙ both_back _ _ before (by (p.line == 0) (steps_on lists places (record { state = i; distance = p.distance })) refl free))
  where
    by : (a b : Bool) → steps_on lists places (record { state = i; distance = p.distance }) ≡ b → (not a && not b) ≡ false → list_all (λ (x : ℕ × Listed). steps_on lists places x.1) (cond a [] ((p.line, record { state = i; distance = p.distance }) ∷ [])) ≡ true
    by true b is_b e = refl
    by false true is_b e = rw is_b refl
    by false false is_b e = absurd (true≢false e)

-- A place that is stuck is the first.
pub stuck_here : (lists : List (List ℕ)) (places : List Place) (i : ℕ) (p : Place) → i < length places → p ≡ get_or places i p → is_stuck_at lists places i p ≡ true →
    all_pass (steps_on lists places) (places_from 0 (take i places)) ≡ true → IsFirstStuck (steps_on lists places) (places_from 0 places) p.line
stuck_here lists places i p below is stuck before =
    by (p.line == 0) (steps_on lists places s) refl stuck (places_split places i p below is)
  where
    s : Listed
    s = record { state = i; distance = p.distance }

    rest : List (ℕ × Listed)
    rest = places_from (0 + length (take (i + 1) places)) (drop (i + 1) places)

    by : (a b : Bool) → steps_on lists places s ≡ b → (not a && not b) ≡ true → places_from 0 places ≡ places_from 0 (take i places) ++ (cond a [] ((p.line, s) ∷ []) ++ rest) → IsFirstStuck (steps_on lists places) (places_from 0 places) p.line
    by true b is_b e split = absurd (true≢false (sym e))
    by false true is_b e split = absurd (true≢false (sym e))
    by false false is_b e split = record { before = places_from 0 (take i places); stuck = s; after = rest; split = split; pass = before; fails = is_b }

-- ---- within a distance

-- a state before all places isn't listed
none_before : (k n most : ℕ) (ps : List Place) → n < k → is_listed_within (states_from k ps) most n ≡ false
none_before k n most [] lt = refl
none_before k n most (p ∷ ps) lt = by (p.line == 0) (none_before (k + 1) n most ps (omega (arith, lt)))
  where
    other : (k == n) ≡ false
    other = differs (k == n) refl
      where
        differs : (b : Bool) → (k == n) ≡ b → b ≡ false
        differs true e = absurd (let same = eqb-true k n e in omega (arith, same, lt))
        differs false e = refl

    by : (a : Bool) → is_listed_within (states_from (k + 1) ps) most n ≡ false → is_listed_within (map state_on_line (cond a (places_from (k + 1) ps) ((p.line, record { state = k; distance = p.distance }) ∷ places_from (k + 1) ps))) most n ≡ false
    by true rest = rest
    by false rest = rw (other, rest) refl

within_from : (k d most : ℕ) (ps : List Place) → is_listed_within (states_from k ps) most (k + d) ≡ is_near_place most (slice_get ps d)
within_from k d most [] = refl
within_from k zero most (p ∷ ps) =
    let here : k + 0 ≡ k = omega arith in
    ap (is_listed_within (states_from k (p ∷ ps)) most) here ∙ by (p.line == 0) (none_before (k + 1) k most ps (omega arith)) (eq-eqb k k refl)
  where
    by : (a : Bool) → is_listed_within (states_from (k + 1) ps) most k ≡ false → (k == k) ≡ true →
        is_listed_within (map state_on_line (cond a (places_from (k + 1) ps) ((p.line, record { state = k; distance = p.distance }) ∷ places_from (k + 1) ps))) most k ≡ cond a false (nat_le p.distance most)
    by true rest same = rest
    by false rest same = rw (same, rest) (last (nat_le p.distance most))
      where
        last : (b : Bool) → (true && b || false) ≡ b
        last true = refl
        last false = refl
within_from k (suc d) most (p ∷ ps) =
    let there : k + suc d ≡ k + 1 + d = omega arith in
    ap (is_listed_within (states_from k (p ∷ ps)) most) there ∙ by (p.line == 0) (within_from (k + 1) d most ps) (differs (k == k + 1 + d) refl)
  where
    differs : (b : Bool) → (k == k + 1 + d) ≡ b → b ≡ false
    differs true e = absurd (let same = eqb-true k (k + 1 + d) e in omega (arith, same))
    differs false e = refl

    by : (a : Bool) → is_listed_within (states_from (k + 1) ps) most (k + 1 + d) ≡ is_near_place most (slice_get ps d) → (k == k + 1 + d) ≡ false →
        is_listed_within (map state_on_line (cond a (places_from (k + 1) ps) ((p.line, record { state = k; distance = p.distance }) ∷ places_from (k + 1) ps))) most (k + 1 + d) ≡ is_near_place most (slice_get ps d)
    by true rest other = rest
    by false rest other = ap (λ b. b && nat_le p.distance most || is_listed_within (states_from (k + 1) ps) most (k + 1 + d)) other ∙ rest

-- A state is listed within a distance where its place says so.
pub within_places : (places : List Place) (most n : ℕ) → place_within places most n ≡ is_listed_within (states_from 0 places) most n
within_places places most n = let e : 0 + n ≡ n = omega arith in sym (ap (is_listed_within (states_from 0 places) most) (sym e) ∙ within_from 0 n most places)

-- No place is stuck.
pub pass_all : (lists : List (List ℕ)) (places : List Place) (i : ℕ) → length places ≤ i → all_pass (steps_on lists places) (places_from 0 (take i places)) ≡ true → all_pass (steps_on lists places) (places_from 0 places) ≡ true
pass_all lists places i le pass = ap (λ ps. all_pass (steps_on lists places) (places_from 0 ps)) (sym (take_all i places le)) ∙ pass
