-- Listing a run of states in the places.
use Rattle.std.proofs.Common.{◌≡◌, ℕ, zero, suc, ◌+◌, ◌-◌, ◌<◌, ◌≤◌, List, [], ◌∷◌, ◌++◌, map, length, take, replicate, refl, sym, ap, arith, Bool, true, false, cond, true≢false, inl, inr, ◌∙◌, append_assoc, append-nil, Option, Some, None}
use Rattle.std.specs.Prelude.{◌&&◌, ◌==◌, nat_lt, is_some, MatchOption}
use Rattle.std.specs.List.{list_all}
use Rattle.std.proofs.lemmas.Bool.{lt-ltb, ltb-true, eqb-true, cases_lt}
use Rattle.std.proofs.lemmas.List.{map-append, length_push, take_all, length-append, length-replicate}
use Rattle.std.proofs.lemmas.List.FromFn.{map-range_with_len_more}
use Rattle.std.proofs.lemmas.List.Folds.{list_all-append}
use Rattle.steno_rules.specs.States.{State}
use Rattle.steno_rules.specs.StateNumbers.{number_count, state_number, state_of_number}
use Rattle.steno_rules.specs.Outlines.{AreWords}
use Rattle.closure_laws.proofs.NumberStateLemmas.{state_of_number-is}
use Rattle.closure_laws.proofs.StateNumberLemmas.{shape_of_state, shaped-below}
use Rattle.cert_check.specs.inside.Places.{places_from, ends_listed, run_states, on_line, states_at}
use Rattle.cert_check.specs.inside.Runs.{ListsRun}
use Rattle.closure_state.specs.declared.state.State as nodes
use Rattle.state_numbering.specs.ByNumber.{IsStateOf}
use Rattle.state_numbering.specs.Numberings.{NumberingView}
use Rattle.certificate.specs.CertTexts.{Listed}
use Rattle.certificate_laws.specs.Checks.{rise_above, may_be_listed}
use Rattle.certificate_laws.specs.inside.OnLines.{state_on_line}
use Rattle.std.proofs.Math.Bool.{and-false}
use Rattle.cert_check.specs.declared.places.Place.{Place}

pub places_from-append : (n : ℕ) (ps qs : List Place) → places_from n (ps ++ qs) ≡ places_from n ps ++ places_from (n + length ps) qs
places_from-append n [] qs = let e : n + 0 ≡ n = omega arith in ap (λ k. places_from k qs) (sym e)
places_from-append n (p ∷ ps) qs =
    let e : n + 1 + length ps ≡ n + suc (length ps) = omega arith in
    by (p.line == 0) (places_from-append (n + 1) ps qs ∙ ap (λ k. places_from (n + 1) ps ++ places_from k qs) e)
  where
    by : (b : Bool) → places_from (n + 1) (ps ++ qs) ≡ places_from (n + 1) ps ++ places_from (n + suc (length ps)) qs →
        cond b (places_from (n + 1) (ps ++ qs)) ((p.line, record { state = n; distance = p.distance }) ∷ places_from (n + 1) (ps ++ qs))
        ≡ cond b (places_from (n + 1) ps) ((p.line, record { state = n; distance = p.distance }) ∷ places_from (n + 1) ps) ++ places_from (n + suc (length ps)) qs
    by true e' = e'
    by false e' = ap (λ xs. (p.line, record { state = n; distance = p.distance }) ∷ xs) e'

empties : (n k : ℕ) → places_from n (replicate k (record { line = 0; distance = 0 })) ≡ []
empties n zero = refl
empties n (suc k) = empties (n + 1) k

not_zero : (n : ℕ) → 0 < n → (n == 0) ≡ false
not_zero n lt = by (n == 0) refl
  where
    by : (b : Bool) → (n == 0) ≡ b → b ≡ false
    by true is = absurd (let z = eqb-true n 0 is in omega (arith, z, lt))
    by false is = refl

-- one place more, that isn't empty
pub places_from-push : (ps : List Place) (line distance : ℕ) → 0 < line → places_from 0 (ps ++ record { line = line; distance = distance } ∷ []) ≡ places_from 0 ps ++ (line, record { state = length ps; distance = distance }) ∷ []
places_from-push ps line distance some =
    let e : 0 + length ps ≡ length ps = omega arith in
    places_from-append 0 ps (record { line = line; distance = distance } ∷ [])
    ∙ (ap (λ b. places_from 0 ps ++ cond b [] ((line, record { state = 0 + length ps; distance = distance }) ∷ [])) (not_zero line some)
    ∙ ap (λ k. places_from 0 ps ++ (line, record { state = k; distance = distance }) ∷ []) e)

-- and the last place isn't empty then
pub ends-push : (ps : List Place) (line distance : ℕ) → 0 < line → ends_listed (ps ++ record { line = line; distance = distance } ∷ []) ≡ true
ends-push [] line distance some = ap (λ b. cond b false true) (not_zero line some)
ends-push (p ∷ []) line distance some = ends-push [] line distance some
ends-push (p ∷ q ∷ ps) line distance some = ends-push (q ∷ ps) line distance some

-- filling up with empty places lists nothing
pub filled : (ps : List Place) (n : ℕ) → length ps ≤ n → places_from 0 (take n ps ++ replicate (n - length ps) (record { line = 0; distance = 0 })) ≡ places_from 0 ps
filled ps n le =
    ap (λ qs. places_from 0 (qs ++ replicate (n - length ps) (record { line = 0; distance = 0 }))) (take_all n ps le)
    ∙ (places_from-append 0 ps (replicate (n - length ps) (record { line = 0; distance = 0 }))
    ∙ (ap (λ xs. places_from 0 ps ++ xs) (empties (0 + length ps) (n - length ps)) ∙ append-nil (places_from 0 ps)))

-- The answer for a number says whether it has a state.
pub state_told : (v : NumberingView) (n : ℕ) (o : Option nodes.State) → MatchOption o (state_of_number v.entries v.words n ≡ None) (IsStateOf v n) → is_some o ≡ is_some (state_of_number v.entries v.words n)
state_told v n None h = sym (ap is_some h)
state_told v n (Some s) h = sym (ap is_some h.number_is)

-- ---- which numbers may follow

below_all : (n s : ℕ) (ps : List Place) → n + length ps ≤ s → list_all (λ o. nat_lt o.state s) (map state_on_line (places_from n ps)) ≡ true
below_all n s [] le = refl
below_all n s (p ∷ ps) le = by (p.line == 0) (below_all (n + 1) s ps (omega (arith, le)))
  where
    by : (b : Bool) → list_all (λ o. nat_lt o.state s) (map state_on_line (places_from (n + 1) ps)) ≡ true →
        list_all (λ o. nat_lt o.state s) (map state_on_line (cond b (places_from (n + 1) ps) ((p.line, record { state = n; distance = p.distance }) ∷ places_from (n + 1) ps))) ≡ true
    by true rest = rest
    by false rest = rw (lt-ltb n s (omega (arith, le)), rest) refl

not_below : (n s : ℕ) → s ≤ n → nat_lt n s ≡ false
not_below n s le = by (nat_lt n s) refl
  where
    by : (b : Bool) → nat_lt n s ≡ b → b ≡ false
    by true is = absurd (let l = ltb-true n s is in omega (arith, l, le))
    by false is = refl

not_below_all : (n s : ℕ) (ps : List Place) → ends_listed ps ≡ true → n ≤ s → s < n + length ps → list_all (λ o. nat_lt o.state s) (map state_on_line (places_from n ps)) ≡ false
not_below_all n s [] ends le lt = absurd (omega (arith, le, lt))
not_below_all n s (p ∷ []) ends le lt = by (p.line == 0) ends
  where
    by : (b : Bool) → cond b false true ≡ true → list_all (λ o. nat_lt o.state s) (map state_on_line (cond b [] ((p.line, record { state = n; distance = p.distance }) ∷ []))) ≡ false
    by true e = absurd (true≢false (sym e))
    by false e = rw (not_below n s (omega (arith, lt))) refl
not_below_all n s (p ∷ q ∷ ps) ends le lt = elim (cases_lt n s) [
  | inl later ↦ by (p.line == 0) (not_below_all (n + 1) s (q ∷ ps) ends (omega (arith, later)) (omega (arith, lt)))
  | inr here ↦ again (p.line == 0) (above (n + 1) s (q ∷ ps) ends (omega (arith, here, le)) (omega arith)) (not_below n s here)
]
  where
    by : (b : Bool) → list_all (λ o. nat_lt o.state s) (map state_on_line (places_from (n + 1) (q ∷ ps))) ≡ false →
        list_all (λ o. nat_lt o.state s) (map state_on_line (cond b (places_from (n + 1) (q ∷ ps)) ((p.line, record { state = n; distance = p.distance }) ∷ places_from (n + 1) (q ∷ ps)))) ≡ false
    by true rest = rest
    by false rest = ap (λ c. nat_lt n s && c) rest ∙ and-false (nat_lt n s)

    -- some place from n on isn't empty
    above : (n s : ℕ) (ps : List Place) → ends_listed ps ≡ true → s ≤ n → 0 < length ps → list_all (λ o. nat_lt o.state s) (map state_on_line (places_from n ps)) ≡ false
    above n s [] ends le some = absurd (omega arith)
    above n s (p ∷ []) ends le some = last (p.line == 0) ends
      where
        last : (b : Bool) → cond b false true ≡ true → list_all (λ o. nat_lt o.state s) (map state_on_line (cond b [] ((p.line, record { state = n; distance = p.distance }) ∷ []))) ≡ false
        last true e = absurd (true≢false (sym e))
        last false e = rw (not_below n s le) refl
    above n s (p ∷ q ∷ ps) ends le some = more (p.line == 0) (above (n + 1) s (q ∷ ps) ends (omega (arith, le)) (omega arith))
      where
        more : (b : Bool) → list_all (λ o. nat_lt o.state s) (map state_on_line (places_from (n + 1) (q ∷ ps))) ≡ false →
            list_all (λ o. nat_lt o.state s) (map state_on_line (cond b (places_from (n + 1) (q ∷ ps)) ((p.line, record { state = n; distance = p.distance }) ∷ places_from (n + 1) (q ∷ ps)))) ≡ false
        more true rest = rest
        more false rest = ap (λ c. nat_lt n s && c) rest ∙ and-false (nat_lt n s)

    again : (b : Bool) → list_all (λ o. nat_lt o.state s) (map state_on_line (places_from (n + 1) (q ∷ ps))) ≡ false → nat_lt n s ≡ false →
        list_all (λ o. nat_lt o.state s) (map state_on_line (cond b (places_from (n + 1) (q ∷ ps)) ((p.line, record { state = n; distance = p.distance }) ∷ places_from (n + 1) (q ∷ ps)))) ≡ false
    again true rest e = rest
    again false rest e = ap (λ c. c && list_all (λ o. nat_lt o.state s) (map state_on_line (places_from (n + 1) (q ∷ ps)))) e

-- a number with a state is below the count
pub known_below : (entries words : List (List ℕ)) (n : ℕ) → AreWords entries words → number_count entries ≤ n → is_some (state_of_number entries words n) ≡ false
known_below entries words n are le = by (state_of_number entries words n) refl
  where
    by : (o : Option State) → state_of_number entries words n ≡ o → is_some o ≡ false
    by None is = refl
    by (Some s) is = absurd (
        let r = state_of_number-is entries words n s is in
        let below : state_number entries s < number_count entries = shaped-below entries s (shape_of_state entries words s are r.0) in
        let same : state_number entries s ≡ n = r.1 in
        omega (arith, below, same, le))

abbrev pub Known : List (List ℕ) → List (List ℕ) → ℕ → Bool
Known entries words n = is_some (state_of_number entries words n)

first_state : (s n d : ℕ) → 0 < n → (rest : List Listed) × (run_states s n d ≡ record { state = s; distance = d } ∷ rest)
first_state s zero d lt = absurd (omega arith)
first_state s (suc n) d lt = (run_states (s + 1) n d, refl)

rises_run : (before : List Listed) (s n d : ℕ) → 0 < n → rise_above before (run_states s n d) ≡ list_all (λ o. nat_lt o.state s) before
rises_run before s n d lt = let f = first_state s n d lt in ap (rise_above before) f.1

-- the run isn't content_check where the first may not follow
pub run_first : (entries words : List (List ℕ)) (ps : List Place) (first last d : ℕ) → ends_listed ps ≡ true → first ≤ last → first < length ps →
    may_be_listed (Known entries words) (states_at ps) (run_states first (last + 1 - first) d) ≡ false
run_first entries words ps first last d ends le lt =
    ap (λ b. b && list_all (λ s. Known entries words s.state) (run_states first (last + 1 - first) d)) (rises_run (states_at ps) first (last + 1 - first) d (omega arith) ∙ not_below_all 0 first ps ends (omega arith) (omega (arith, lt)))

run_known : (entries words : List (List ℕ)) (s n k d : ℕ) → s ≤ k → k < s + n → Known entries words k ≡ false → list_all (λ x. Known entries words x.state) (run_states s n d) ≡ false
run_known entries words s zero k d le lt e = absurd (omega (arith, le, lt))
run_known entries words s (suc n) k d le lt e = elim (cases_lt s k) [
  | inl later ↦ ap (λ b. Known entries words s && b) (run_known entries words (s + 1) n k d (omega (arith, later)) (omega (arith, lt)) e) ∙ and-false (Known entries words s)
  | inr here ↦ (let same : s ≡ k = omega (arith, le, here) in ap (λ b. b && list_all (λ x. Known entries words x.state) (run_states (s + 1) n d)) (ap (Known entries words) same ∙ e))
]

-- nor where one of its numbers has no state
pub run_unknown : (entries words : List (List ℕ)) (before : List Listed) (first last k d : ℕ) → first ≤ k → k ≤ last → Known entries words k ≡ false →
    may_be_listed (Known entries words) before (run_states first (last + 1 - first) d) ≡ false
run_unknown entries words before first last k d le most e =
    ap (λ b. rise_above before (run_states first (last + 1 - first) d) && b) (run_known entries words first (last + 1 - first) k d le (omega (arith, le, most)) e) ∙ and-false (rise_above before (run_states first (last + 1 - first) d))

-- and it is where neither is so
pub run_right : (entries words : List (List ℕ)) (ps : List Place) (first last d : ℕ) → first ≤ last → length ps ≤ first → list_all (λ x. Known entries words x.state) (run_states first (last + 1 - first) d) ≡ true →
    may_be_listed (Known entries words) (states_at ps) (run_states first (last + 1 - first) d) ≡ true
run_right entries words ps first last d le after all = rw (rises_run (states_at ps) first (last + 1 - first) d (omega arith) ∙ below_all 0 first ps (omega (arith, after)), all) refl

-- ---- the loop

pub record IsRun (entries words : List (List ℕ)) (line first state distance : ℕ) (old now : List Place) : Type 0 where
  pub items : places_from 0 now ≡ places_from 0 old ++ on_line line (run_states first (state - first) distance)
  pub long : length now ≡ state
  pub known : list_all (λ x. Known entries words x.state) (run_states first (state - first) distance) ≡ true
  pub ends : first < state → ends_listed now ≡ true

run_more : (s n d : ℕ) → run_states s (n + 1) d ≡ run_states s n d ++ record { state = s + n; distance = d } ∷ []
run_more s n d = map-range_with_len_more (λ state. record { state = state; distance = d }) s n (s + n) refl

pub run_begin : (entries words : List (List ℕ)) (line first distance : ℕ) (old : List Place) → length old ≤ first →
    IsRun entries words line first first distance old (take first old ++ replicate (first - length old) (record { line = 0; distance = 0 }))
run_begin entries words line first distance old le =
    let none : first - first ≡ 0 = omega arith in
    record {
      items = filled old first le ∙ (sym (append-nil (places_from 0 old)) ∙ ap (λ k. places_from 0 old ++ on_line line (run_states first k distance)) (sym none));
      long = ap (λ qs. length (qs ++ replicate (first - length old) (record { line = 0; distance = 0 }))) (take_all first old le) ∙ (let a = length-append old (replicate (first - length old) (record { line = 0; distance = 0 })) in let b = length-replicate {A = Place} (first - length old) (record { line = 0; distance = 0 }) in omega (arith, a, b, le));
      known = ap (λ k. list_all (λ x. Known entries words x.state) (run_states first k distance)) none;
      ends = λ lt. absurd (omega (arith, lt));
    }

pub run_next : (entries words : List (List ℕ)) (line first state distance : ℕ) (old now : List Place) → 0 < line → first ≤ state → Known entries words state ≡ true → IsRun entries words line first state distance old now →
    IsRun entries words line first (state + 1) distance old (now ++ record { line = line; distance = distance } ∷ [])
run_next entries words line first state distance old now some le known is =
    let n = state - first in
    let more : state + 1 - first ≡ n + 1 = omega (arith, le) in
    let back : first + n ≡ state = omega (arith, le) in
    let states : run_states first (state + 1 - first) distance ≡ run_states first n distance ++ record { state = state; distance = distance } ∷ [] =
    ap (λ k. run_states first k distance) more ∙ (run_more first n distance ∙ ap (λ k. run_states first n distance ++ record { state = k; distance = distance } ∷ []) back) in
    record {
      items =
          places_from-push now line distance some
          ∙ (ap (λ k. places_from 0 now ++ (line, record { state = k; distance = distance }) ∷ []) is.long
          ∙ (ap (λ xs. xs ++ (line, record { state = state; distance = distance }) ∷ []) is.items
          ∙ (append_assoc (places_from 0 old) (on_line line (run_states first n distance)) ((line, record { state = state; distance = distance }) ∷ [])
          ∙ ap (λ xs. places_from 0 old ++ xs) (sym (map-append (λ s. (line, s)) (run_states first n distance) (record { state = state; distance = distance } ∷ [])) ∙ ap (on_line line) (sym states)))));
      long = length_push now (record { line = line; distance = distance }) ∙ ap (λ k. k + 1) is.long;
      known = ap (list_all (λ x. Known entries words x.state)) states ∙ (list_all-append (λ x. Known entries words x.state) (run_states first n distance) (record { state = state; distance = distance } ∷ []) ∙ rw (is.known, known) refl);
      ends = λ lt. ends-push now line distance some;
    }

-- the whole run is listed_in
pub run_done : (entries words : List (List ℕ)) (line first last distance : ℕ) (old now : List Place) → first ≤ last → length old ≤ first → last < number_count entries → IsRun entries words line first (last + 1) distance old now →
    ListsRun entries words line first last distance old now true
run_done entries words line first last distance old now le after below is = record {
  answers = λ are ends. sym (run_right entries words old first last distance le after is.known);
  adds = λ e. is.items;
  ends = λ e. is.ends (omega (arith, le));
  more = λ e. (let l = is.long in omega (arith, l, le, after));
  few = λ e. (let l = is.long in omega (arith, l, below));
}

-- the run isn't content_check
pub run_refused : (entries words : List (List ℕ)) (line first last distance : ℕ) (old now : List Place) → (AreWords entries words → ends_listed old ≡ true → may_be_listed (Known entries words) (states_at old) (run_states first (last + 1 - first) distance) ≡ false) →
    ListsRun entries words line first last distance old now false
run_refused entries words line first last distance old now e = record {
  answers = λ are ends. sym (e are ends);
  adds = λ e. absurd (true≢false (sym e));
  ends = λ e. absurd (true≢false (sym e));
  more = λ e. absurd (true≢false (sym e));
  few = λ e. absurd (true≢false (sym e));
}
