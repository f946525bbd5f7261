-- The checks at the conflicts line, by what the program finds.
use Rattle.std.proofs.Common.{◌≡◌, ℕ, zero, suc, ◌+◌, ◌-◌, ◌≤◌, List, [], ◌∷◌, ◌++◌, length, map, refl, sym, ap, subst, arith, Bool, true, false, cond, true≢false, ◌∙◌, Option, Some, None, inl, inr, append_assoc}
use Rattle.std.specs.Prelude.{◌&&◌, ◌==◌, nat_le, is_some}
use Rattle.std.specs.List.{list_all, list_any}
use Rattle.std.proofs.lemmas.Bool.{eqb-true, eq-eqb, leb-true, cases_lt}
use Rattle.std.proofs.lemmas.List.{map-append}
use Rattle.graph_rules.specs.Graphs.{row}
use Rattle.steno_rules.specs.Outlines.{AreEntries, flagged_entries}
use Rattle.steno_rules.specs.States.{State, kept_targets}
use Rattle.steno_rules.specs.StateNumbers.{number_count, state_of_number}
use Rattle.steno_rules.specs.ClosureGraphs.{kept_lists, numbers_by}
use Rattle.steno_rules.proofs.FlaggedWords.{flagged-are}
use Rattle.closure_laws.specs.Listings.{IsListing}
use Rattle.closure_laws.proofs.GraphLemmas.{row_of_number, length-lists}
use Rattle.closure_laws.proofs.ListingLemmas.{least_of_row}
use Rattle.longest_match.specs.Rows.{Row}
use Rattle.certificate.specs.declared.lines.CertLine.TheVariants as of
use Rattle.certificate.specs.CertTexts.{Listed}
use Rattle.report.specs.declared.faults.Why.TheVariants as why
use Rattle.certificate_laws.specs.Checks.{Lines, Check, then_check, listed_in}
use Rattle.certificate_laws.specs.Closures.{Closure, closure_of, kept_numbers}
use Rattle.certificate_laws.specs.Validity.{is_listed_within, leads_on_by, listed_on_lines, move_checks_of, move_checks, hit_distances, is_row_of, listed_pairs, listing_checks}
use Rattle.certificate_laws.specs.inside.Holding.{AllHold}
use Rattle.certificate_laws.specs.inside.OnLines.{state_on_line}
use Rattle.certificate_laws.proofs.HoldLemmas.{both, list_all_in, list_any_in, AllHold-join}
use Rattle.certificate_laws.proofs.KeptMoves.{leads_by_kept, fresh_by_kept}
use Rattle.certificate_laws.proofs.ListingLemmas.{on_lines-listed, is_listing, listing}
use Rattle.certificate_laws.proofs.ConflictRows.{row_says, listed_row}
use Rattle.certificate_laws.proofs.NearLemmas.{least_below}
use Rattle.dict_stack.specs.Stacks.{StackView}
use Rattle.state_numbering.specs.Numberings.{NumberingView}
use Rattle.cert_check.specs.Verdicts.{numbering_at}
use Rattle.cert_check.specs.declared.places.Place.{Place}
use Rattle.cert_check.specs.declared.upper.Upper.{Upper}
use Rattle.cert_check.specs.declared.founds.Found.{Found}
use Rattle.cert_check.specs.inside.Founds.{AreFound, HasNoFarRow, IsFoundListing}
use Rattle.cert_check.specs.inside.Left.{FailsWith}
use Rattle.cert_check.specs.inside.Moves.{steps_on, all_pass, IsFirstStuck}
use Rattle.cert_check.specs.inside.Places.{places_from, states_at, place_within}
use Rattle.cert_check.specs.inside.Uppers.{Represents}
use Rattle.cert_check.proofs.MoveLemmas.{within_places}
use Rattle.cert_check.proofs.FoundLemmas.{found_count}
use Rattle.cert_check.proofs.RunLemmas.{known_below}
use Rattle.cert_check.proofs.AnswerLemmas.{not_same}

all_same : {A : Type 0} (f g : A → Bool) (xs : List A) → ((x : A) → f x ≡ g x) → list_all f xs ≡ list_all g xs
all_same f g [] e = refl
all_same f g (x ∷ xs) e = ap (λ b. b && list_all f xs) (e x) ∙ ap (λ b. g x && b) (all_same f g xs e)

-- The listed states, by their places.
pub listed_at_places : (u : Upper) (before : Lines) → Represents u before → states_at u.places.items ≡ listed_in before
listed_at_places u before is = ap (map state_on_line) is.states ∙ on_lines-listed 1 before

-- a state that is fresh, at distance 0
abbrev fresh_listed : Listed
fresh_listed = record { state = 0; distance = 0 }

-- where the start holds fresh comes first
fresh_comes_first : (places : List Place) → place_within places 0 0 ≡ true → (line : ℕ) × (others : List (ℕ × Listed)) × (places_from 0 places ≡ (line, fresh_listed) ∷ others)
fresh_comes_first [] is = absurd (true≢false (sym is))
fresh_comes_first (p ∷ ps) is = by (p.line == 0) is
  where
    by : (a : Bool) → cond a false (nat_le p.distance 0) ≡ true → (line : ℕ) × (others : List (ℕ × Listed)) × (cond a (places_from (0 + 1) ps) ((p.line, record { state = 0; distance = p.distance }) ∷ places_from (0 + 1) ps) ≡ (line, fresh_listed) ∷ others)
    by true e = absurd (true≢false (sym e))
    by false e =
        let le = leb-true p.distance 0 e in
        let zero_is : p.distance ≡ 0 = omega (arith, le) in
        (p.line, places_from (0 + 1) ps, ap (λ d. (p.line, record { state = 0; distance = d }) ∷ places_from (0 + 1) ps) zero_is)

row_past : (lists : List (List ℕ)) (n : ℕ) → length lists ≤ n → row lists n ≡ []
row_past [] n le = refl
row_past (x ∷ xs) zero le = absurd (omega (arith, le))
row_past (x ∷ xs) (suc n) le = row_past xs n (omega (arith, le))

module _ (entries : List (List ℕ)) (flags : List Bool) (places : List Place) (all : List Listed) where
  abbrev words : List (List ℕ)
  words = flagged_entries entries flags

  abbrev targets_all : ℕ → List ℕ
  targets_all = (closure_of entries flags).targets

  abbrev kept_pass : List (ℕ × Listed) → Bool
  kept_pass xs = all_pass (leads_on_by (kept_numbers entries flags) all) xs

  -- the rows of the graph are the kept targets
  row_kept : (n : ℕ) → AreEntries entries → row (kept_lists entries words) n ≡ kept_numbers entries flags n
  row_kept n are = elim (cases_lt n (number_count entries)) [
    | inl below ↦ row_of_number entries words (kept_targets entries words) n below
    | inr past ↦
        row_past (kept_lists entries words) n (let l = length-lists entries words (kept_targets entries words) in omega (arith, l, past))
        ∙ none (state_of_number entries words n) (known_below entries words n (flagged-are entries flags are) past)
  ]
    where
      none : (o : Option State) → is_some o ≡ false → [] ≡ numbers_by entries (kept_targets entries words) o
      none None e = refl
      none (Some s) e = absurd (true≢false e)

  -- what the program asks of a listed state is what the kept targets say
  steps_kept : (s : Listed) → AreEntries entries → states_at places ≡ all → steps_on (kept_lists entries words) places s ≡ leads_on_by (kept_numbers entries flags) all s
  steps_kept s are same =
      ap (list_all (place_within places (s.distance + 1))) (row_kept s.state are)
      ∙ all_same (place_within places (s.distance + 1)) (is_listed_within all (s.distance + 1)) (kept_numbers entries flags s.state) (λ n. within_places places (s.distance + 1) n ∙ ap (λ xs. is_listed_within xs (s.distance + 1) n) same)

  pass_kept : (xs : List (ℕ × Listed)) → AreEntries entries → states_at places ≡ all → all_pass (steps_on (kept_lists entries words) places) xs ≡ kept_pass xs
  pass_kept xs are same = all_same (λ (x : ℕ × Listed). steps_on (kept_lists entries words) places x.1) (λ (x : ℕ × Listed). leads_on_by (kept_numbers entries flags) all x.1) xs (λ x. steps_kept x.1 are same)

  -- states that pass lead on by all targets, once fresh does
  pass_hold : (at : ℕ) (xs : List (ℕ × Listed)) → AreEntries entries → leads_on_by targets_all all fresh_listed ≡ true → kept_pass xs ≡ true → AllHold (move_checks_of targets_all at all xs)
  pass_hold at [] are fresh pass = tt
  pass_hold at (x ∷ xs) are fresh pass =
      let two = both (leads_on_by (kept_numbers entries flags) all x.1) (kept_pass xs) pass in
      (leads_by_kept entries flags all x.1 are fresh ∙ two.0, pass_hold at xs are fresh two.1)

  -- All listed states lead on.
  pub moves_hold : (at : ℕ) → AreEntries entries → states_at places ≡ all → place_within places 0 0 ≡ true → all_pass (steps_on (kept_lists entries words) places) (places_from 0 places) ≡ true → AllHold (move_checks_of targets_all at all (places_from 0 places))
  moves_hold at are same start pass =
      let first = fresh_comes_first places start in
      let kept = sym (pass_kept (places_from 0 places) are same) ∙ pass in
      let head = both (leads_on_by (kept_numbers entries flags) all fresh_listed) (kept_pass first.1) (subst (λ xs. kept_pass xs ≡ true) first.2 kept) in
      pass_hold at (places_from 0 places) are (fresh_by_kept entries flags all are ∙ head.0) kept

  -- what is said of the first state that doesn't
  stuck_says : (at : ℕ) (before after : List (ℕ × Listed)) (x : ℕ × Listed) → AreEntries entries → (line : ℕ) (others : List (ℕ × Listed)) → before ++ x ∷ after ≡ (line, fresh_listed) ∷ others →
      kept_pass before ≡ true → leads_on_by (kept_numbers entries flags) all x.1 ≡ false → AllHold (move_checks_of targets_all at all before) × (leads_on_by targets_all all x.1 ≡ false)
  stuck_says at [] after x are line others first pass fails =
      let same : x ≡ (line, fresh_listed) = cc in
      let fresh : x.1 ≡ fresh_listed = ap (λ (y : ℕ × Listed). y.1) same in
      let kept = subst (λ s. leads_on_by (kept_numbers entries flags) all s ≡ false) fresh fails in
      (tt, subst (λ s. leads_on_by targets_all all s ≡ false) (sym fresh) (fresh_by_kept entries flags all are ∙ kept))
  stuck_says at (b ∷ bs) after x are line others first pass fails =
      let same : b ≡ (line, fresh_listed) = cc in
      let fresh : b.1 ≡ fresh_listed = ap (λ (y : ℕ × Listed). y.1) same in
      let head = (both (leads_on_by (kept_numbers entries flags) all b.1) (kept_pass bs) pass).0 in
      let leads = fresh_by_kept entries flags all are ∙ subst (λ s. leads_on_by (kept_numbers entries flags) all s ≡ true) fresh head in
      (pass_hold at (b ∷ bs) are leads pass, leads_by_kept entries flags all x.1 are leads ∙ fails)

  -- A listed state that doesn't lead on fails.
  pub moves_fail : (at n line : ℕ) (before : Lines) → AreEntries entries → states_at places ≡ all → listed_in before ≡ all → places_from 0 places ≡ listed_on_lines 1 before → place_within places 0 0 ≡ true →
      IsFirstStuck (steps_on (kept_lists entries words) places) (places_from 0 places) line → FailsWith line why.Move (listing_checks (closure_of entries flags) targets_all at before n)
  moves_fail at n line before are same listed on_lines start stuck =
      let first = fresh_comes_first places start in
      let says = stuck_says at stuck.before stuck.after (line, stuck.stuck) are first.0 first.1 (sym stuck.split ∙ first.2) (sym (pass_kept stuck.before are same) ∙ stuck.pass) (sym (steps_kept stuck.stuck are same) ∙ stuck.fails) in
      let move : ℕ × Listed → Check = λ s. then_check at s.0 why.Move (leads_on_by targets_all all s.1) in
      let count : Check = then_check at at why.Count (n == length (listed_pairs (closure_of entries flags) (listed_in before))) in
      let checks : move_checks targets_all at before ≡ map move stuck.before ++ (then_check at line why.Move (leads_on_by targets_all all stuck.stuck) ∷ map move stuck.after) =
      ap (λ ls. move_checks_of targets_all at ls (listed_on_lines 1 before)) listed
      ∙ (ap (map move) (sym on_lines ∙ stuck.split) ∙ map-append move stuck.before ((line, stuck.stuck) ∷ stuck.after)) in
      record {
        before = then_check at at why.Start (is_listed_within (listed_in before) 0 0) ∷ map move stuck.before;
        check = then_check at line why.Move (leads_on_by targets_all all stuck.stuck);
        after = map move stuck.after ++ count ∷ [];
        split =
            ap (λ cs. then_check at at why.Start (is_listed_within (listed_in before) 0 0) ∷ (cs ++ count ∷ [])) checks
            ∙ ap (λ cs. then_check at at why.Start (is_listed_within (listed_in before) 0 0) ∷ cs) (append_assoc (map move stuck.before) (then_check at line why.Move (leads_on_by targets_all all stuck.stuck) ∷ map move stuck.after) (count ∷ []));
        hold = (ap (λ ls. is_listed_within ls 0 0) (listed ∙ sym same) ∙ (sym (within_places places 0 0) ∙ start), says.0);
        fails = says.1;
        tells_line = refl;
        tells_reason = refl;
      }

-- There are no more places than numbers.
pub few_places : (graph : NumberingView) (stack : StackView) (ps items : List Place) → graph ≡ numbering_at stack → ps ≡ items → length items ≤ number_count stack.outlines → length ps ≤ length (kept_lists graph.entries graph.words)
few_places graph stack ps items is same few =
    let long = length-lists graph.entries graph.words (kept_targets graph.entries graph.words) in
    let count : number_count graph.entries ≡ number_count stack.outlines = ap (λ (v : NumberingView). number_count v.entries) is in
    omega (arith, long, count, few, ap length same)

-- ---- far rows

-- Over a listing that the moves keep no row is right whose pair is so far away.
pub listing_near : (entries : List (List ℕ)) (flags : List Bool) (all : List Listed) → AreEntries entries → IsListing entries (flagged_entries entries flags) (listing all) → number_count entries ≤ 33554432 → HasNoFarRow (closure_of entries flags) all
listing_near entries flags all are is few p d r least far = by (is_row_of (closure_of entries flags) all p (Some (of.Row r))) refl
  where
    ds : List ℕ
    ds = hit_distances (closure_of entries flags) all p

    by : (b : Bool) → is_row_of (closure_of entries flags) all p (Some (of.Row r)) ≡ b → b ≡ false
    by false e = refl
    by true e =
        let says = row_says (closure_of entries flags) all p r e in
        let words = flagged-are entries flags are in
        let n = least_of_row entries (flagged_entries entries flags) (listing all) r.entry r.place r.strokes r.words words is (listed_row entries flags all p r are says) in
        let below = least_below entries (flagged_entries entries flags) r.entry r.place r.strokes words n in
        let found = list_any_in (λ k. k == r.strokes) ds (both (list_any (λ k. k == r.strokes) ds) (list_all (nat_le r.strokes) ds) says.least).0 in
        let same : found.0 ≡ r.strokes = eqb-true found.0 r.strokes found.2 in
        let le = leb-true d found.0 (list_all_in (nat_le d) ds found.0 (both (list_any (λ k. k == d) ds) (list_all (nat_le d) ds) least).1 found.1) in
        absurd (omega (arith, below, same, le, few, far))

-- ---- what the program says

module _ (entries : List (List ℕ)) (flags : List Bool) (u : Upper) (before : Lines) (n : ℕ) where
  abbrev closure : Closure
  closure = closure_of entries flags

  abbrev at : ℕ
  at = length before + 1

  start_is : Represents u before → is_listed_within (listed_in before) 0 0 ≡ place_within u.places.items 0 0
  start_is is = ap (λ ls. is_listed_within ls 0 0) (sym (listed_at_places u before is)) ∙ sym (within_places u.places.items 0 0)

  -- The start fails.
  pub start_fails : Represents u before → place_within u.places.items 0 0 ≡ false → (line : ℕ) → line ≡ u.lines + 1 → FailsWith line why.Start (listing_checks closure closure.targets at before n)
  start_fails is fails line e = record {
    before = [];
    check = then_check at at why.Start (is_listed_within (listed_in before) 0 0);
    after = move_checks closure.targets at before ++ then_check at at why.Count (n == length (listed_pairs closure (listed_in before))) ∷ [];
    split = refl;
    hold = tt;
    fails = start_is is ∙ fails;
    tells_line = (let c = is.count in omega (arith, c, e));
    tells_reason = refl;
  }

  -- A move fails.
  pub move_fails : AreEntries entries → Represents u before → place_within u.places.items 0 0 ≡ true → (line : ℕ) → IsFirstStuck (steps_on (kept_lists entries (flagged_entries entries flags)) u.places.items) (places_from 0 u.places.items) line →
      FailsWith line why.Move (listing_checks closure closure.targets at before n)
  move_fails are is start line stuck = moves_fail entries flags u.places.items (listed_in before) at n line before are (listed_at_places u before is) refl is.states start stuck

  checks_hold : AreEntries entries → Represents u before → place_within u.places.items 0 0 ≡ true → all_pass (steps_on (kept_lists entries (flagged_entries entries flags)) u.places.items) (places_from 0 u.places.items) ≡ true →
      AllHold (move_checks closure.targets at before)
  checks_hold are is start pass =
      subst (λ xs. AllHold (move_checks_of closure.targets at (listed_in before) xs)) is.states (moves_hold entries flags u.places.items (listed_in before) at are (listed_at_places u before is) start pass)

  -- The number of pairs fails.
  pub count_fails : AreEntries entries → Represents u before → place_within u.places.items 0 0 ≡ true → all_pass (steps_on (kept_lists entries (flagged_entries entries flags)) u.places.items) (places_from 0 u.places.items) ≡ true →
      (founds : List Found) → AreFound closure (states_at u.places.items) (listed_pairs closure (states_at u.places.items)) founds → (length founds ≡ n → ⊥) → (line : ℕ) → line ≡ u.lines + 1 → FailsWith line why.Count (listing_checks closure closure.targets at before n)
  count_fails are is start pass founds found differ line e = record {
    before = then_check at at why.Start (is_listed_within (listed_in before) 0 0) ∷ move_checks closure.targets at before;
    check = then_check at at why.Count (n == length (listed_pairs closure (listed_in before)));
    after = [];
    split = refl;
    hold = (start_is is ∙ start, checks_hold are is start pass);
    fails = not_same n (length (listed_pairs closure (listed_in before))) (λ same. differ (found_count closure (listed_in before) (listed_pairs closure (listed_in before)) founds (subst (λ ls. AreFound closure ls (listed_pairs closure ls) founds) (listed_at_places u before is) found) ∙ sym same));
    tells_line = (let c = is.count in omega (arith, c, e));
    tells_reason = refl;
  }

  -- All checks hold.
  pub listing_found : AreEntries entries → number_count entries ≤ 33554432 → Represents u before → place_within u.places.items 0 0 ≡ true → all_pass (steps_on (kept_lists entries (flagged_entries entries flags)) u.places.items) (places_from 0 u.places.items) ≡ true →
      (founds : List Found) → AreFound closure (states_at u.places.items) (listed_pairs closure (states_at u.places.items)) founds → length founds ≡ n → IsFoundListing closure before n founds
  listing_found are few is start pass founds found same =
      let here = subst (λ ls. AreFound closure ls (listed_pairs closure ls) founds) (listed_at_places u before is) found in
      let holds = checks_hold are is start pass in
      let start_holds = start_is is ∙ start in
      record {
        hold = (
          start_holds,
          AllHold-join (move_checks closure.targets at before) (then_check at at why.Count (n == length (listed_pairs closure (listed_in before))) ∷ []) holds
              (eq-eqb n (length (listed_pairs closure (listed_in before))) (sym same ∙ found_count closure (listed_in before) (listed_pairs closure (listed_in before)) founds here), tt),
        );
        are = here;
        near = listing_near entries flags (listed_in before) are (is_listing entries flags at before (flagged-are entries flags are) start_holds holds) few;
      }
