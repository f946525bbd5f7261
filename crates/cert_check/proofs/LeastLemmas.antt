-- The least distance of each pair, one place after another.
use Rattle.std.proofs.Common.{◌≡◌, ◌≢◌, ℕ, zero, suc, ◌+◌, ◌-◌, ◌<◌, ◌≤◌, List, [], ◌∷◌, ◌++◌, length, map, filter, refl, sym, ap, subst, arith, Bool, true, false, cond, ◌∙◌, Option, Some, None, get_or, inl, inr, append-nil, min, take, replicate}
use Rattle.std.specs.Prelude.{◌&&◌, ◌||◌, ◌==◌, nat_le, option_and_then, slice_set}
use Rattle.std.specs.List.{list_all, list_any}
use Rattle.std.proofs.lemmas.Bool.{eqb-true, eq-eqb, le-leb, leb-true, cases_lt, cases_eq}
use Rattle.std.proofs.lemmas.List.{map-append, length-set, get_or-set_same, get_or-set_other, take_all}
use Rattle.std.proofs.lemmas.List.Elements.{filter-append}
use Rattle.std.proofs.lemmas.List.Folds.{list_all-append, list_any-append}
use Rattle.steno_rules.specs.Outlines.{AreEntries}
use Rattle.steno_rules.specs.States.{State}
use Rattle.steno_rules.specs.StateNumbers.{state_of_number}
use Rattle.pair_slots.specs.Slots.{IsInside, first_slot, slot_of}
use Rattle.pair_slots.proofs.Slots.{slots_apart, slot_below, hit_inside}
use Rattle.closure_state.specs.declared.state.Hit.{Hit}
use Rattle.state_numbering.specs.ByNumber.{IsHitOf, HasNoHit}
use Rattle.state_numbering.specs.Numberings.{NumberingView}
use Rattle.certificate.specs.CertTexts.{Listed}
use Rattle.certificate_laws.specs.Closures.{Closure, Pair, closure_of, hit_pair}
use Rattle.certificate_laws.specs.Validity.{hit_distances, is_least_of, is_pair}
use Rattle.certificate_laws.proofs.HitLemmas.{hit_pair-there, hit_pair-hit}
use Rattle.certificate_laws.proofs.HoldLemmas.{both, both_back}
use Rattle.certificate_laws.specs.inside.OnLines.{state_on_line}
use Rattle.cert_check.specs.declared.places.Place.{Place}
use Rattle.cert_check.specs.inside.Places.{places_from, states_from, states_at}
use Rattle.cert_check.proofs.MoveLemmas.{listed_at, places_more}
use Rattle.cert_check.specs.inside.LeastDistances.{AreLeast, ForClosures, IsLeastOf, least_with, slot_distance}

-- ---- one slot

any_last : (n d : ℕ) (ds : List ℕ) → d ≡ n → list_any (λ k. k == n) (ds ++ d ∷ []) ≡ true
any_last n d ds same = list_any-append (λ k. k == n) ds (d ∷ []) ∙ by (list_any (λ k. k == n) ds) (d == n) (eq-eqb d n same)
  where
    by : (a b : Bool) → b ≡ true → (a || (b || false)) ≡ true
    by true b e = refl
    by false b e = rw e refl

any_more : (n d : ℕ) (ds : List ℕ) → list_any (λ k. k == n) ds ≡ true → list_any (λ k. k == n) (ds ++ d ∷ []) ≡ true
any_more n d ds is = list_any-append (λ k. k == n) ds (d ∷ []) ∙ ap (λ b. b || list_any (λ k. k == n) (d ∷ [])) is

all_less : (m n : ℕ) (ds : List ℕ) → m ≤ n → list_all (nat_le n) ds ≡ true → list_all (nat_le m) ds ≡ true
all_less m n [] le h = refl
all_less m n (d ∷ ds) le h =
    let two = both (nat_le n d) (list_all (nat_le n) ds) h in
    let l = leb-true n d two.0 in
    both_back (nat_le m d) (list_all (nat_le m) ds) (le-leb m d (omega (arith, l, le))) (all_less m n ds le two.1)

all_more : (n d : ℕ) (ds : List ℕ) → n ≤ d → list_all (nat_le n) ds ≡ true → list_all (nat_le n) (ds ++ d ∷ []) ≡ true
all_more n d ds le h = list_all-append (nat_le n) ds (d ∷ []) ∙ both_back (list_all (nat_le n) ds) (list_all (nat_le n) (d ∷ [])) h (both_back (nat_le n d) true (le-leb n d le) refl)

-- With one distance more.
pub least_more : (o : Option ℕ) (d : ℕ) (ds : List ℕ) → IsLeastOf o ds → IsLeastOf (Some (least_with o d)) (ds ++ d ∷ [])
least_more None d ds none =
    subst (λ xs. is_least_of d (xs ++ d ∷ []) ≡ true) (sym none)
    (both_back (list_any (λ k. k == d) (d ∷ [])) (list_all (nat_le d) (d ∷ [])) (any_last d d [] refl) (all_more d d [] (omega arith) refl))
least_more (Some k) d ds is =
    let two = both (list_any (λ x. x == k) ds) (list_all (nat_le k) ds) is in
    elim (cases_lt d k) [
      | inl lt ↦
          let m : min k d ≡ d = omega arith in
          subst (λ n. is_least_of n (ds ++ d ∷ []) ≡ true) (sym m)
          (both_back (list_any (λ x. x == d) (ds ++ d ∷ [])) (list_all (nat_le d) (ds ++ d ∷ [])) (any_last d d ds refl) (all_more d d ds (omega arith) (all_less d k ds (omega (arith, lt)) two.1)))
      | inr ge ↦
          let m : min k d ≡ k = omega arith in
          subst (λ n. is_least_of n (ds ++ d ∷ []) ≡ true) (sym m)
          (both_back (list_any (λ x. x == k) (ds ++ d ∷ [])) (list_all (nat_le k) (ds ++ d ∷ [])) (any_more k d ds two.0) (all_more k d ds ge two.1))
    ]

-- ---- one listed state more

-- the distances of a pair
pub distances_more : (closure : Closure) (all : List Listed) (s : Listed) (p : Pair) →
    hit_distances closure (all ++ s ∷ []) p ≡ hit_distances closure all p ++ cond (is_pair p (closure.hit s.state)) (s.distance ∷ []) []
distances_more closure all s p =
    ap (map (λ (x : Listed). x.distance)) (filter-append (λ (x : Listed). is_pair p (closure.hit x.state)) all (s ∷ []))
    ∙ (map-append (λ (x : Listed). x.distance) (filter (λ (x : Listed). is_pair p (closure.hit x.state)) all) (filter (λ (x : Listed). is_pair p (closure.hit x.state)) (s ∷ []))
    ∙ ap (λ xs. hit_distances closure all p ++ xs) (by (is_pair p (closure.hit s.state))))
  where
    by : (b : Bool) → map (λ (x : Listed). x.distance) (cond b (s ∷ []) []) ≡ cond b (s.distance ∷ []) []
    by true = refl
    by false = refl

-- a state that isn't one of its hits
distances_same : (closure : Closure) (all : List Listed) (s : Listed) (p : Pair) → is_pair p (closure.hit s.state) ≡ false → hit_distances closure (all ++ s ∷ []) p ≡ hit_distances closure all p
distances_same closure all s p other =
    distances_more closure all s p ∙ (ap (λ b. hit_distances closure all p ++ cond b (s.distance ∷ []) []) other ∙ append-nil (hit_distances closure all p))

-- No place is noted.
pub least_none : (closure : Closure) (slots : List (Option ℕ)) → length slots ≡ first_slot closure.outlines (length closure.outlines) → ((k : ℕ) → k < length slots → get_or slots k None ≡ None) → AreLeast closure [] slots
least_none closure slots count all = record {
  count = count;
  each = λ e place inside. subst (λ o. IsLeastOf o []) (sym (all (slot_of closure.outlines e place) (omega (arith, count, slot_below closure.outlines e place inside)))) refl;
}

-- The state is no hit.
pub least_without : (v : NumberingView) (state distance : ℕ) (slots : List (Option ℕ)) → HasNoHit v state → ForClosures v (λ closure. (all : List Listed) → AreLeast closure all slots → AreLeast closure (all ++ record { state = state; distance = distance } ∷ []) slots)
least_without v state distance slots none flags words all least = record {
  count = least.count;
  each = λ e place inside.
      subst (IsLeastOf (slot_distance v.entries slots e place)) (sym (distances_same (closure_of v.entries flags) all (record { state = state; distance = distance }) (record { entry = e; place = place })
      (ap (is_pair (record { entry = e; place = place })) no_pair))) (least.each e place inside);
}
  where
    by : (o : Option State) → state_of_number v.entries v.words state ≡ o → option_and_then (hit_pair v.entries) o ≡ None
    by None is = refl
    by (Some s) is = test (hit_pair v.entries s) refl
      where
        test : (o : Option Pair) → hit_pair v.entries s ≡ o → o ≡ None
        test None e = refl
        test (Some p) e = absurd (none s p.entry p.place is (hit_pair-hit v.entries s p e))

    no_pair : (closure_of v.entries flags).hit state ≡ None
    no_pair = ap (λ ws. option_and_then (hit_pair v.entries) (state_of_number v.entries ws state)) (sym words) ∙ by (state_of_number v.entries v.words state) refl

pair_differs : (p q : Pair) → ((p.entry ≡ q.entry) → (p.place ≡ q.place) → ⊥) → is_pair p (Some q) ≡ false
pair_differs p q apart = by (p.entry == q.entry) refl (p.place == q.place) refl
  where
    by : (a : Bool) → (p.entry == q.entry) ≡ a → (b : Bool) → (p.place == q.place) ≡ b → (a && b) ≡ false
    by true e true f = absurd (apart (eqb-true p.entry q.entry e) (eqb-true p.place q.place f))
    by true e false f = refl
    by false e b f = refl

-- The state is a hit, whose pair's slot gets the lesser distance.
pub least_hit : (v : NumberingView) (state distance slot : ℕ) (h : Hit) (slots new : List (Option ℕ)) → AreEntries v.entries → IsHitOf v state h → slot ≡ slot_of v.entries h.entry h.place →
    length new ≡ length slots → get_or new slot None ≡ Some (least_with (get_or slots slot None) distance) → ((k : ℕ) → k ≢ slot → get_or new k None ≡ get_or slots k None) →
    ForClosures v (λ closure. (all : List Listed) → AreLeast closure all slots → AreLeast closure (all ++ record { state = state; distance = distance } ∷ []) new)
least_hit v state distance slot h slots new are hit at long here others flags words all least = record {
  count = long ∙ least.count;
  each = λ e place inside. elim (cases_eq (slot_of v.entries e place) slot) [
    | inl same ↦
        let pair = slots_apart v.entries e place h.entry h.place inside it_inside (same ∙ at) in
        subst (λ f. IsLeastOf (slot_distance v.entries new f place) (hit_distances closure (all ++ s ∷ []) (record { entry = f; place = place }))) (sym pair.0)
        (subst (λ j. IsLeastOf (slot_distance v.entries new h.entry j) (hit_distances closure (all ++ s ∷ []) (record { entry = h.entry; place = j }))) (sym pair.1) noted)
    | inr other ↦
        subst (λ o. IsLeastOf o (hit_distances closure (all ++ s ∷ []) (record { entry = e; place = place }))) (sym (others (slot_of v.entries e place) other))
        (subst (IsLeastOf (slot_distance v.entries slots e place)) (sym (distances_same closure all s (record { entry = e; place = place })
        (ap (is_pair (record { entry = e; place = place })) its_pair ∙ pair_differs (record { entry = e; place = place }) p (λ a b. other (ap (λ k. slot_of v.entries k place) a ∙ (ap (slot_of v.entries h.entry) b ∙ sym at))))))
        (least.each e place inside))
  ];
}
  where
    closure : Closure
    closure = closure_of v.entries flags

    s : Listed
    s = record { state = state; distance = distance }

    p : Pair
    p = record { entry = h.entry; place = h.place }

    it_inside : IsInside v.entries h.entry h.place
    it_inside = hit_inside v.entries hit.state h.entry h.place hit.entry hit.hit

    its_pair : (closure_of v.entries flags).hit state ≡ Some p
    its_pair =
        ap (λ ws. option_and_then (hit_pair v.entries) (state_of_number v.entries ws state)) (sym words)
        ∙ (ap (option_and_then (hit_pair v.entries)) hit.number_is ∙ hit_pair-there v.entries hit.state h.entry h.place are.rising hit.hit)

    is_its : is_pair p ((closure_of v.entries flags).hit state) ≡ true
    is_its = ap (is_pair p) its_pair ∙ both_back (p.entry == p.entry) (p.place == p.place) (eq-eqb p.entry p.entry refl) (eq-eqb p.place p.place refl)

    noted : IsLeastOf (slot_distance v.entries new h.entry h.place) (hit_distances (closure_of v.entries flags) (all ++ record { state = state; distance = distance } ∷ []) p)
    noted =
        let now : slot_distance v.entries new h.entry h.place ≡ Some (least_with (slot_distance v.entries slots h.entry h.place) distance) =
        ap (λ k. get_or new k None) (sym at) ∙ (here ∙ ap (λ k. Some (least_with (get_or slots k None) distance)) at) in
        let more = distances_more (closure_of v.entries flags) all (record { state = state; distance = distance }) p ∙ ap (λ b. hit_distances (closure_of v.entries flags) all p ++ cond b (distance ∷ []) []) is_its in
        subst (λ o. IsLeastOf o (hit_distances (closure_of v.entries flags) (all ++ record { state = state; distance = distance } ∷ []) p)) (sym now)
        (subst (IsLeastOf (Some (least_with (slot_distance v.entries slots h.entry h.place) distance))) (sym more)
        (least_more (slot_distance v.entries slots h.entry h.place) distance (hit_distances (closure_of v.entries flags) all p) (least.each h.entry h.place it_inside)))

-- ---- one place more

not_zero : (n : ℕ) → (n ≡ 0 → ⊥) → (n == 0) ≡ false
not_zero n some = by (n == 0) refl
  where
    by : (b : Bool) → (n == 0) ≡ b → b ≡ false
    by true is = absurd (some (eqb-true n 0 is))
    by false is = refl

-- An empty place lists nothing.
pub note_empty : (v : NumberingView) (state : ℕ) (p : Place) (slots : List (Option ℕ)) → p.line ≡ 0 → ForClosures v (λ closure. (all : List Listed) → AreLeast closure all slots → AreLeast closure (all ++ states_from state (p ∷ [])) slots)
note_empty v state p slots none flags words all least =
    subst (λ b. AreLeast (closure_of v.entries flags) (all ++ map state_on_line (cond b [] ((p.line, record { state = state; distance = p.distance }) ∷ []))) slots) (sym (eq-eqb p.line 0 none))
    (subst (λ xs. AreLeast (closure_of v.entries flags) xs slots) (sym (append-nil all)) least)

listed_place : (closure : Closure) (state : ℕ) (p : Place) (all : List Listed) (slots : List (Option ℕ)) → (p.line ≡ 0 → ⊥) → AreLeast closure (all ++ record { state = state; distance = p.distance } ∷ []) slots → AreLeast closure (all ++ states_from state (p ∷ [])) slots
listed_place closure state p all slots some least =
    subst (λ b. AreLeast closure (all ++ map state_on_line (cond b [] ((p.line, record { state = state; distance = p.distance }) ∷ []))) slots) (sym (not_zero p.line some)) least

-- A listed state that is no hit.
pub note_none : (v : NumberingView) (state : ℕ) (p : Place) (slots : List (Option ℕ)) → (p.line ≡ 0 → ⊥) → HasNoHit v state → ForClosures v (λ closure. (all : List Listed) → AreLeast closure all slots → AreLeast closure (all ++ states_from state (p ∷ [])) slots)
note_none v state p slots some none flags words all least = listed_place (closure_of v.entries flags) state p all slots some (least_without v state p.distance slots none flags words all least)

-- A listed state that is a hit.
pub note_hit : (v : NumberingView) (state slot : ℕ) (p : Place) (h : Hit) (slots new : List (Option ℕ)) → AreEntries v.entries → (p.line ≡ 0 → ⊥) → IsHitOf v state h → slot ≡ slot_of v.entries h.entry h.place → slot < length slots →
    new ≡ slice_set slots slot (Some (least_with (get_or slots slot None) p.distance)) → ForClosures v (λ closure. (all : List Listed) → AreLeast closure all slots → AreLeast closure (all ++ states_from state (p ∷ [])) new)
note_hit v state slot p h slots new are some hit at fits is flags words all least =
    listed_place (closure_of v.entries flags) state p all new some
    (least_hit v state p.distance slot h slots new are hit at
    (ap length is ∙ length-set slots slot (Some (least_with (get_or slots slot None) p.distance)))
    (ap (λ l. get_or l slot None) is ∙ get_or-set_same slots slot (Some (least_with (get_or slots slot None) p.distance)) None fits)
    (λ k other. ap (λ l. get_or l k None) is ∙ get_or-set_other slots slot k (Some (least_with (get_or slots slot None) p.distance)) None other) flags words all least)

-- One place more is noted.
pub note_next : (v : NumberingView) (places : List Place) (i : ℕ) (p : Place) (slots new : List (Option ℕ)) → i < length places → p ≡ get_or places i p →
    ForClosures v (λ closure. (all : List Listed) → AreLeast closure all slots → AreLeast closure (all ++ states_from i (p ∷ [])) new) → ForClosures v (λ closure. AreLeast closure (states_at (take i places)) slots) → ForClosures v (λ closure. AreLeast closure (states_at (take (i + 1) places)) new)
note_next v places i p slots new below is noted so_far flags words =
    subst (λ xs. AreLeast (closure_of v.entries flags) xs new) (sym (ap (map state_on_line) (places_more places i p below is) ∙ map-append state_on_line (places_from 0 (take i places)) (listed_at i p)))
    (noted flags words (states_at (take i places)) (so_far flags words))

-- All are.
pub note_all : (v : NumberingView) (places : List Place) (i : ℕ) (slots : List (Option ℕ)) → length places ≤ i → ForClosures v (λ closure. AreLeast closure (states_at (take i places)) slots) → ForClosures v (λ closure. AreLeast closure (states_at places) slots)
note_all v places i slots le so_far flags words = subst (λ ps. AreLeast (closure_of v.entries flags) (states_at ps) slots) (take_all i places le) (so_far flags words)

none_everywhere : (n k : ℕ) → get_or {A = Option ℕ} (replicate n None) k None ≡ None
none_everywhere zero k = refl
none_everywhere (suc n) zero = refl
none_everywhere (suc n) (suc k) = none_everywhere n k

-- Before all places nothing is noted.
pub note_begin : (v : NumberingView) (slots : List (Option ℕ)) (n : ℕ) → slots ≡ replicate n None → length slots ≡ first_slot v.entries (length v.entries) → ForClosures v (λ closure. AreLeast closure [] slots)
note_begin v slots n is count flags words = least_none (closure_of v.entries flags) slots count (λ k below. ap (λ l. get_or l k None) is ∙ none_everywhere n k)
