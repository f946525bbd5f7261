-- The pairs that have a least distance, one entry after another.
use Rattle.std.proofs.Common.{◌≡◌, ℕ, zero, suc, ◌+◌, ◌-◌, ◌<◌, ◌≤◌, List, [], ◌∷◌, ◌++◌, length, take, map, filter, flat_map, refl, sym, ap, subst, arith, true, false, cond, true≢false, ◌∙◌, Option, Some, None, inl, inr, append_assoc, append-nil, Contains, Vec, Global}
use Rattle.std.specs.Prelude.{nat_lt, All, Result, Ok, Err, IfOk}
use Rattle.std.specs.declared.alloc.AllocError.{AllocError}
use Rattle.std.specs.List.{range_with_len, enumerate_from}
use Rattle.std.proofs.lemmas.Bool.{lt-ltb}
use Rattle.std.proofs.lemmas.List.{take_more, take_all}
use Rattle.std.proofs.lemmas.List.FromFn.{map-range_with_len_more}
use Rattle.std.proofs.lemmas.Grind.{flat_map-append}
use Rattle.steno_rules.specs.Outlines.{outline_of}
use Rattle.steno_rules.proofs.Lists.{in_cons, in_first, in_later, none_in_nil, all_of}
use Rattle.pair_slots.specs.Slots.{IsInside}
use Rattle.certificate.specs.CertTexts.{Listed}
use Rattle.certificate_laws.specs.Closures.{Closure, Pair}
use Rattle.certificate_laws.specs.Validity.{entry_pairs, inner_pairs, hit_distances, is_least_of, listed_pairs}
use Rattle.certificate_laws.proofs.PairLemmas.{inner_pairs-inside}
use Rattle.dict_stack.specs.Stacks.{StackView}
use Rattle.state_numbering.specs.Numberings.{NumberingView}
use Rattle.cert_check.specs.Verdicts.{closure_at, numbering_at}
use Rattle.cert_check.specs.declared.places.Place.{Place}
use Rattle.cert_check.specs.inside.Places.{states_at}
use Rattle.cert_check.specs.declared.founds.Found.{Found}
use Rattle.cert_check.specs.inside.Founds.{AreFound}
use Rattle.cert_check.specs.inside.LeastDistances.{AreLeast, ForClosures, IsLeastOf, found_if, founds_in, slot_distance}

-- the pair of a place
abbrev pub pair_at_place : ℕ → ℕ → Pair
pair_at_place e place = record { entry = e; place = place }

-- the pairs of an entry at its first so many places
abbrev pub first_pairs : ℕ → ℕ → List Pair
first_pairs e n = map (pair_at_place e) (range_with_len 1 n)

pub founds-append : (entries : List (List ℕ)) (slots : List (Option ℕ)) (ps qs : List Pair) → founds_in entries slots (ps ++ qs) ≡ founds_in entries slots ps ++ founds_in entries slots qs
founds-append entries slots ps qs = flat_map-append (λ p. found_if p (slot_distance entries slots p.entry p.place)) ps qs

-- One place more.
pub founds_place : (entries : List (List ℕ)) (slots : List (Option ℕ)) (e place : ℕ) (before now : List Found) → 1 ≤ place → now ≡ before ++ found_if (pair_at_place e place) (slot_distance entries slots e place) →
    (old : List Found) → before ≡ old ++ founds_in entries slots (first_pairs e (place - 1)) → now ≡ old ++ founds_in entries slots (first_pairs e (place + 1 - 1))
founds_place entries slots e place before now some is old so_far =
    let n = place - 1 in
    let here : 1 + n ≡ place = omega (arith, some) in
    let more : place + 1 - 1 ≡ n + 1 = omega (arith, some) in
    let pairs : first_pairs e (place + 1 - 1) ≡ first_pairs e n ++ pair_at_place e place ∷ [] =
    ap (first_pairs e) more ∙ (map-range_with_len_more (pair_at_place e) 1 n (1 + n) refl ∙ ap (λ k. first_pairs e n ++ pair_at_place e k ∷ []) here) in
    is ∙ (ap (λ fs. fs ++ found_if (pair_at_place e place) (slot_distance entries slots e place)) so_far
    ∙ (append_assoc old (founds_in entries slots (first_pairs e n)) (found_if (pair_at_place e place) (slot_distance entries slots e place))
    ∙ ap (λ fs. old ++ fs)
    (ap (λ fs. founds_in entries slots (first_pairs e n) ++ fs) (sym (append-nil (found_if (pair_at_place e place) (slot_distance entries slots e place))))
    ∙ (sym (founds-append entries slots (first_pairs e n) (pair_at_place e place ∷ [])) ∙ ap (founds_in entries slots) (sym pairs)))))

-- ---- entries

-- the pairs of the first so many entries
abbrev pub pairs_before : List (List ℕ) → ℕ → List Pair
pairs_before entries n = flat_map entry_pairs (enumerate_from 0 (take n entries))

enumerate_push : (k : ℕ) (xs : List (List ℕ)) (x : List ℕ) → enumerate_from k (xs ++ x ∷ []) ≡ enumerate_from k xs ++ (k + length xs, x) ∷ []
enumerate_push k [] x = let e : k + 0 ≡ k = omega arith in ap (λ n. (n, x) ∷ []) (sym e)
enumerate_push k (y ∷ ys) x = let e : k + 1 + length ys ≡ k + suc (length ys) = omega arith in ap (λ rest. (k, y) ∷ rest) (enumerate_push (k + 1) ys x ∙ ap (λ n. enumerate_from (k + 1) ys ++ (n, x) ∷ []) e)

pub take_length : {A : Type 0} (xs : List A) (k : ℕ) → k ≤ length xs → length (take k xs) ≡ k
take_length [] zero le = refl
take_length [] (suc k) le = absurd (omega (arith, le))
take_length (x ∷ xs) zero le = refl
take_length (x ∷ xs) (suc k) le = ap suc (take_length xs k (omega (arith, le)))

-- One entry more.
pub pairs_more : (entries : List (List ℕ)) (n : ℕ) → n < length entries → pairs_before entries (n + 1) ≡ pairs_before entries n ++ entry_pairs (n, outline_of entries n)
pairs_more entries n below =
    let at : 0 + length (take n entries) ≡ n = (let l = take_length entries n (omega (arith, below)) in omega (arith, l)) in
    ap (λ xs. flat_map entry_pairs (enumerate_from 0 xs)) (take_more entries n [] below)
    ∙ (ap (flat_map entry_pairs) (enumerate_push 0 (take n entries) (outline_of entries n) ∙ ap (λ k. enumerate_from 0 (take n entries) ++ (k, outline_of entries n) ∷ []) at)
    ∙ (flat_map-append entry_pairs (enumerate_from 0 (take n entries)) ((n, outline_of entries n) ∷ [])
    ∙ ap (λ ps. pairs_before entries n ++ ps) (append-nil (entry_pairs (n, outline_of entries n)))))

pub founds_entry : (entries : List (List ℕ)) (slots : List (Option ℕ)) (n : ℕ) (before now : List Found) → n < length entries → now ≡ before ++ founds_in entries slots (entry_pairs (n, outline_of entries n)) →
    before ≡ founds_in entries slots (pairs_before entries n) → now ≡ founds_in entries slots (pairs_before entries (n + 1))
founds_entry entries slots n before now below is so_far =
    is ∙ (ap (λ fs. fs ++ founds_in entries slots (entry_pairs (n, outline_of entries n))) so_far
    ∙ (sym (founds-append entries slots (pairs_before entries n) (entry_pairs (n, outline_of entries n))) ∙ ap (founds_in entries slots) (sym (pairs_more entries n below))))

-- ---- what was found

-- each of these pairs lies inside an entry
abbrev pub AreInside : List (List ℕ) → List Pair → Type 0
AreInside entries ps = (p : Pair) → Contains ps p → IsInside entries p.entry p.place

some_distances : (d : ℕ) (ds : List ℕ) → is_least_of d ds ≡ true → nat_lt 0 (length ds) ≡ true
some_distances d [] is = absurd (true≢false (sym is))
some_distances d (x ∷ ds) is = lt-ltb 0 (suc (length ds)) (omega arith)

-- The pairs that have a distance are the listed ones.
pub found_all : (closure : Closure) (all : List Listed) (slots : List (Option ℕ)) (ps : List Pair) → AreLeast closure all slots → AreInside closure.outlines ps →
    AreFound closure all (filter (λ p. nat_lt 0 (length (hit_distances closure all p))) ps) (founds_in closure.outlines slots ps)
found_all closure all slots [] least inside = tt
found_all closure all slots (p ∷ ps) least inside = by (slot_distance closure.outlines slots p.entry p.place) (least.each p.entry p.place (inside p (in_first p ps))) (found_all closure all slots ps least (λ q has. inside q (in_later p ps q has)))
  where
    by : (o : Option ℕ) → IsLeastOf o (hit_distances closure all p) → AreFound closure all (filter (λ q. nat_lt 0 (length (hit_distances closure all q))) ps) (founds_in closure.outlines slots ps) →
        AreFound closure all (cond (nat_lt 0 (length (hit_distances closure all p))) (p ∷ filter (λ q. nat_lt 0 (length (hit_distances closure all q))) ps) (filter (λ q. nat_lt 0 (length (hit_distances closure all q))) ps)) (found_if p o ++ founds_in closure.outlines slots ps)
    by None none rest = subst (λ ds. AreFound closure all (cond (nat_lt 0 (length ds)) (p ∷ filter (λ q. nat_lt 0 (length (hit_distances closure all q))) ps) (filter (λ q. nat_lt 0 (length (hit_distances closure all q))) ps)) (founds_in closure.outlines slots ps)) (sym none) rest
    by (Some d) is rest = subst (λ b. AreFound closure all (cond b (p ∷ filter (λ q. nat_lt 0 (length (hit_distances closure all q))) ps) (filter (λ q. nat_lt 0 (length (hit_distances closure all q))) ps)) (record { entry = p.entry; place = p.place; distance = d } ∷ founds_in closure.outlines slots ps)) (sym (some_distances d (hit_distances closure all p) is)) (refl, refl, is, rest)

-- And each is one of an entry.
pub founds_below : (entries : List (List ℕ)) (slots : List (Option ℕ)) (ps : List Pair) → AreInside entries ps → (f : Found) → Contains (founds_in entries slots ps) f → f.entry < length entries
founds_below entries slots [] inside f has = absurd (none_in_nil f has)
founds_below entries slots (p ∷ ps) inside f has = by (slot_distance entries slots p.entry p.place) has (founds_below entries slots ps (λ q there. inside q (in_later p ps q there)) f)
  where
    by : (o : Option ℕ) → Contains (found_if p o ++ founds_in entries slots ps) f → (Contains (founds_in entries slots ps) f → f.entry < length entries) → f.entry < length entries
    by None there rest = rest there
    by (Some d) there rest = elim (in_cons (record { entry = p.entry; place = p.place; distance = d }) (founds_in entries slots ps) f there) [
      | inl is ↦ subst (λ (x : Found). x.entry < length entries) is (inside p (in_first p ps)).entry
      | inr later ↦ rest later
    ]

-- As many pairs as were found.
pub found_count : (closure : Closure) (all : List Listed) (ps : List Pair) (fs : List Found) → AreFound closure all ps fs → length fs ≡ length ps
found_count closure all [] [] are = refl
found_count closure all [] (f ∷ fs) are = absurd are
found_count closure all (p ∷ ps) [] are = absurd are
found_count closure all (p ∷ ps) (f ∷ fs) are = ap suc (found_count closure all ps fs are.3)

-- The pairs of all entries.
pub pairs_all : (entries : List (List ℕ)) (n : ℕ) → length entries ≤ n → pairs_before entries n ≡ inner_pairs entries
pairs_all entries n le = ap (λ xs. flat_map entry_pairs (enumerate_from 0 xs)) (take_all n entries le)

-- An entry's pairs lie inside it.
pub pairs_inside : (entries : List (List ℕ)) → AreInside entries (inner_pairs entries)
pairs_inside entries p has = let r = inner_pairs-inside entries p has in record { entry = r.0; after_start = r.1; before_end = r.2 }

-- ---- at a stack

-- What holds for each closure of a stack's numbering holds for that of the stack.
pub at_stack : (v : NumberingView) (stack : StackView) (P : Closure → Type 0) → v ≡ numbering_at stack → ForClosures v P → P (closure_at stack)
at_stack v stack P e f = subst (λ w. ForClosures w P) e f stack.words refl

-- What was found are the listed pairs.
pub found_listed : (stack : StackView) (places : List Place) (slots : List (Option ℕ)) (r : Result (Vec Found Global) AllocError) → AreLeast (closure_at stack) (states_at places) slots → IfOk r (λ v. v.items ≡ founds_in stack.outlines slots (inner_pairs stack.outlines)) →
    IfOk r (λ v. AreFound (closure_at stack) (states_at places) (listed_pairs (closure_at stack) (states_at places)) v.items)
found_listed stack places slots (Ok v) least is = subst (AreFound (closure_at stack) (states_at places) (listed_pairs (closure_at stack) (states_at places))) (sym is) (found_all (closure_at stack) (states_at places) slots (inner_pairs stack.outlines) least (pairs_inside stack.outlines))
found_listed stack places slots (Err x) least is = tt

pub found_entries : (stack : StackView) (slots : List (Option ℕ)) (r : Result (Vec Found Global) AllocError) → IfOk r (λ v. v.items ≡ founds_in stack.outlines slots (inner_pairs stack.outlines)) → IfOk r (λ v. All (λ f. f.entry < length stack.outlines) v.items)
found_entries stack slots (Ok v) is = subst (All (λ (f : Found). f.entry < length stack.outlines)) (sym is) (all_of (λ (f : Found). f.entry < length stack.outlines) (founds_in stack.outlines slots (inner_pairs stack.outlines)) (founds_below stack.outlines slots (inner_pairs stack.outlines) (pairs_inside stack.outlines)))
found_entries stack slots (Err x) is = tt

-- What is said of a graph over these places is said of the stack's.
pub at_places : (P : NumberingView → List Place → Type 0) (graph v : NumberingView) (stack : StackView) (ps items : List Place) → graph ≡ v → v ≡ numbering_at stack → ps ≡ items → P graph ps → P (numbering_at stack) items
at_places P graph v stack ps items a b c h = subst (P (numbering_at stack)) c (subst (λ w. P w ps) (a ∙ b) h)
