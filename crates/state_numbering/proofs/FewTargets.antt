-- A state has fewer than 2^32 kept targets: each stroke with targets leads the open word to a node of its own, and has at
-- most three.
use Rattle.std.proofs.Common.{◌≡◌, ℕ, ◌+◌, ◌*◌, ◌<◌, ◌≤◌, List, [], ◌∷◌, ◌++◌, length, map, flat_map, refl, sym, ap, subst, ◌∙◌, arith, Bool, true, false, true≢false, cond, inl, inr, Option, Some, None, is_some, AllPairs, Contains, nat_lt, length-append, Less, Equal, Greater}
use Rattle.std.specs.Cmp.{nat_cmp_is}
use Rattle.std.specs.Ordering.{nat_cmp}
use Rattle.std.proofs.lemmas.Bool.{cases_order}
use Rattle.std.proofs.lemmas.List.{length-map, same_from_push}
use Rattle.std.proofs.lemmas.List.Sums.{length-filter, count_by-le-length}
use Rattle.steno_rules.specs.Outlines.{AreWords, is_word, entry_number, outline_cmp, outline_of}
use Rattle.steno_rules.specs.Nodes.{nodes}
use Rattle.steno_rules.specs.Windows.{window}
use Rattle.steno_rules.specs.States.{State, state_of, is_open, later_mark, new_mark, going_on, ending, targets_by, strokes_in, targets, is_kept, kept_targets}
use Rattle.steno_rules.specs.StateNumbers.{state_number}
use Rattle.steno_rules.specs.ClosureGraphs.{numbers_by}
use Rattle.steno_rules.proofs.Lists.{pairs_tail, pairs_first, in_first, in_later}
use Rattle.steno_rules.proofs.NodeLemmas.{nodes-rising}
use Rattle.steno_rules.proofs.Numbers.{entry_number-Some}
use Rattle.closure_laws.proofs.StrokeLemmas.{strokes_in-rising}
use Rattle.closure_laws.proofs.TargetLemmas.{move_begins}
use Rattle.outline_trie.proofs.LookLemmas.{node_test}

-- ---- one stroke

later_few : (mark : Option ℕ) (u : List ℕ) → length (later_mark mark u) ≤ 1
later_few None u = omega arith
later_few (Some m) u = by (nat_lt (m + 1) (length u))
  where
    by : (b : Bool) → length (cond b (Some (m + 1) ∷ []) []) ≤ 1
    by true = omega arith
    by false = omega arith

marks_few : (mark : Option ℕ) (u : List ℕ) → length (later_mark mark u ++ new_mark mark u) ≤ 2
marks_few None [] = omega arith
marks_few None (c ∷ u) = omega arith
marks_few (Some m) u = omega (arith, length-append (later_mark (Some m) u) [], later_few (Some m) u)

-- a list that a test may leave out
if_few : {A : Type 0} (b : Bool) (xs : List A) (n : ℕ) → length xs ≤ n → length (cond b xs []) ≤ n
if_few true xs n few = few
if_few false xs n few = omega arith

three_by : (entries words : List (List ℕ)) (s : State) (c : ℕ) → length (targets_by entries words s c) ≤ 3
three_by entries words s c =
    let u : List ℕ = window entries (s.u ++ c ∷ []) in
    let on : length (going_on entries words s c) ≤ 1 = if_few (is_open words (s.v ++ c ∷ [])) (map (state_of u (s.v ++ c ∷ [])) (later_mark s.mark u)) 1 (omega (arith, length-map (later_mark s.mark u) (state_of u (s.v ++ c ∷ [])), later_few s.mark u)) in
    let off : length (ending entries words s c) ≤ 2 = if_few (is_word words (s.v ++ c ∷ [])) (map (state_of u []) (later_mark s.mark u ++ new_mark s.mark u)) 2 (omega (arith, length-map (later_mark s.mark u ++ new_mark s.mark u) (state_of u []), marks_few s.mark u)) in
    omega (arith, length-append (going_on entries words s c) (ending entries words s c), on, off)

-- by a stroke that leads the open word to no node there is none
none_by : (entries words : List (List ℕ)) (s : State) (c : ℕ) → AreWords entries words → entry_number (nodes entries) (s.v ++ c ∷ []) ≡ None →
    targets_by entries words s c ≡ []
none_by entries words s c are none = by (targets_by entries words s c) refl
  where
    by : (ts : List State) → targets_by entries words s c ≡ ts → ts ≡ []
    by [] e = refl
    by (t ∷ ts) e =
        let begun = move_begins entries words s t c are (subst (λ l. Contains l t) (sym e) (in_first t ts)) in
        absurd (true≢false (sym begun ∙ sym (node_test entries (s.v ++ c ∷ [])) ∙ ap is_some none))

-- ---- all strokes

-- a greater stroke comes later
not_before : (v : List ℕ) (c d : ℕ) → c < d → outline_cmp (v ++ d ∷ []) (v ++ c ∷ []) ≡ Less → ⊥
not_before [] c d up h = let greater : nat_cmp d c ≡ Greater = sym (nat_cmp_is d c Greater up) in let wrong : Greater ≡ Less = rw greater at h in cc
not_before (x ∷ v) c d up h = let same : nat_cmp x x ≡ Equal = sym (nat_cmp_is x x Equal refl) in not_before v c d up (rw same at h)

later_node : (entries : List (List ℕ)) (v : List ℕ) (c d p q : ℕ) → c < d → entry_number (nodes entries) (v ++ c ∷ []) ≡ Some p →
    entry_number (nodes entries) (v ++ d ∷ []) ≡ Some q → p < q
later_node entries v c d p q up is k =
    let a = entry_number-Some (nodes entries) (v ++ c ∷ []) p is in
    let b = entry_number-Some (nodes entries) (v ++ d ∷ []) q k in
    elim (cases_order p q) [
      | inl same ↦
          let one : v ++ c ∷ [] ≡ v ++ d ∷ [] = sym a.1 ∙ ap (outline_of (nodes entries)) same ∙ b.1 in
          absurd (omega (arith, up, (same_from_push v v c d one).1))
      | inr (inl lt) ↦ lt
      | inr (inr gt) ↦
          let below : outline_cmp (outline_of (nodes entries) q) (outline_of (nodes entries) p) ≡ Less = nodes-rising entries q p [] gt a.0 in
          absurd (not_before v c d up (subst (λ x. outline_cmp x (v ++ c ∷ []) ≡ Less) b.1 (subst (λ x. outline_cmp (outline_of (nodes entries) q) x ≡ Less) a.1 below)))
    ]

-- the targets by rising strokes, whose nodes are past b
few_from : (entries words : List (List ℕ)) (s : State) (cs : List ℕ) (b : ℕ) → AreWords entries words → AllPairs (λ x y. x < y) cs →
    b ≤ length (nodes entries) → ((c p : ℕ) → Contains cs c → entry_number (nodes entries) (s.v ++ c ∷ []) ≡ Some p → b ≤ p) →
    length (flat_map (targets_by entries words s) cs) + 3 * b ≤ 3 * length (nodes entries)
few_from entries words s [] b are rising inside past = omega (arith, inside)
few_from entries words s (c ∷ cs) b are rising inside past = by (entry_number (nodes entries) (s.v ++ c ∷ [])) refl (λ low up. few_from entries words s cs low are (pairs_tail (λ x y. x < y) c cs rising) up)
  where
    by : (o : Option ℕ) → entry_number (nodes entries) (s.v ++ c ∷ []) ≡ o →
        ((low : ℕ) → low ≤ length (nodes entries) → ((d p : ℕ) → Contains cs d → entry_number (nodes entries) (s.v ++ d ∷ []) ≡ Some p → low ≤ p) → length (flat_map (targets_by entries words s) cs) + 3 * low ≤ 3 * length (nodes entries)) →
        length (flat_map (targets_by entries words s) (c ∷ cs)) + 3 * b ≤ 3 * length (nodes entries)
    by None e rest = omega (arith, length-append (targets_by entries words s c) (flat_map (targets_by entries words s) cs), ap length (none_by entries words s c are e), rest b inside (λ d p has. past d p (in_later c cs d has)))
    by (Some p) e rest =
        let at = entry_number-Some (nodes entries) (s.v ++ c ∷ []) p e in
        let low = past c p (in_first c cs) e in
        let more = rest (p + 1) (omega (arith, at.0)) (λ d q has k. (let up : p < q = later_node entries s.v c d p q (pairs_first (λ x y. x < y) c cs d rising has) e k in omega (arith, up))) in
        omega (arith, length-append (targets_by entries words s c) (flat_map (targets_by entries words s) cs), three_by entries words s c, low, more)

-- The kept targets are at most three for each node.
pub few_kept : (entries words : List (List ℕ)) (s : State) → AreWords entries words →
    length (kept_targets entries words s) ≤ 3 * length (nodes entries)
few_kept entries words s are =
    let all = few_from entries words s (strokes_in words) 0 are (strokes_in-rising words) (omega arith) (λ c p has k. omega arith) in
    omega (arith, all, length-filter (is_kept s) (targets entries words s), count_by-le-length (is_kept s) (targets entries words s))

-- So are their numbers.
pub few_numbers : (entries words : List (List ℕ)) (found : Option State) → AreWords entries words →
    length (numbers_by entries (kept_targets entries words) found) ≤ 3 * length (nodes entries)
few_numbers entries words None are = omega arith
few_numbers entries words (Some s) are = omega (arith, length-map (kept_targets entries words s) (state_number entries), few_kept entries words s are)
