-- A fork's number leads back to it, and walks over numbers are walks of forks.
use Rattle.std.proofs.Common.{◌≡◌, ◌≢◌, ℕ, zero, suc, ◌+◌, ◌<◌, ◌≤◌, List, [], ◌∷◌, ◌++◌, length, get_or, map, take, drop, flat_map, refl, sym, ap, subst, ◌∙◌, arith, true, ◌&&◌, if◌then◌else◌, Contains, AllPairs, inl, inr, length-append, take-append-drop, take_all, ◌↔◌}
use Rattle.std.specs.Bool.{⊤}
use Rattle.std.specs.List.{concat, sum_by}
use Rattle.std.proofs.lemmas.List.{get_or_append_left, length_push, length-map}
use Rattle.std.proofs.Math.Seq.{get_or-append_seam}
use Rattle.std.proofs.lemmas.List.Folds.{length-flat_map-take}
use Rattle.std.proofs.lemmas.List.Concat.{get_or-flat_map}
use Rattle.std.proofs.lemmas.List.FromFn.{length-map-range_with_len, get_or-map-range_with_len}
use Rattle.std.proofs.lemmas.List.Sums.{sum_by-cons}
use Rattle.std.proofs.lemmas.List.Elements.{Contains-append_cases, Contains-append_left, Contains-append_right}
use Rattle.graph_rules.specs.Graphs.{row, HasTarget, Reaches, IsBest}
use Rattle.graph_rules.proofs.Rows.{HasTarget-Contains}
use Rattle.steno_rules.specs.Outlines.{is_word, AreWords}
use Rattle.steno_rules.specs.Nodes.{nodes}
use Rattle.steno_rules.specs.States.{is_open, strokes_in}
use Rattle.steno_rules.specs.StateNumbers.{place_of, last_strokes}
use Rattle.steno_rules.proofs.Lists.{none_in_nil, in_first, in_map, in_map_of, in_if, in_if_true}
use Rattle.steno_rules.proofs.Entries.{is_entry-Decides}
use Rattle.steno_rules.proofs.NodeLemmas.{nodes-Contains, nodes-first}
use Rattle.steno_rules.proofs.Words.{is_prefix-open, open_word}
use Rattle.closure_laws.proofs.RisingMaps.{Agree, same_within, in_flat_map, in_flat_map_of}
use Rattle.closure_laws.proofs.StateLemmas.{drop_ends}
use Rattle.closure_laws.proofs.StateNumberLemmas.{place_inside, place_there}
use Rattle.closure_laws.proofs.StrokeLemmas.{strokes_in-there, strokes_in-rising}
use Rattle.reading_laws.specs.Forks.{Fork, Same, Differ, End, targets_of_same, targets_of_two, fork_targets_by, fork_targets, has_open_words, ForkWalk, IsLeastEnd}
use Rattle.reading_laws.specs.ForkNumbers.{forks_of, all_forks, fork_at, fork_start, end_number, fork_count, fork_number, fork_lists}
use Rattle.reading_laws.proofs.ForkLemmas.{Stands, stands_walk, both, both_true}

-- ---- places

-- a node of d strokes has d + 1 forks
pub length-forks_of : (z : List ℕ) → length (forks_of z) ≡ length z + 1
length-forks_of z = omega (arith, length-map-range_with_len (λ k. Differ z (last_strokes k z)) 0 (length z))

-- the forks of some nodes are as many as their parts have numbers
length-forks : (ns : List (List ℕ)) → length (flat_map forks_of ns) ≡ sum_by (λ z. length z + 1) ns
length-forks [] = refl
length-forks (z ∷ ns) = omega (arith, length-append (forks_of z) (flat_map forks_of ns), length-forks ns, length-forks_of z, sum_by-cons (λ (z : List ℕ). length z + 1) z ns)

-- The number of the end is the number of the forks of nodes
pub end_is : (entries : List (List ℕ)) → length (flat_map forks_of (nodes entries)) ≡ end_number entries
end_is entries = length-forks (nodes entries) ∙ sym (ap (sum_by (λ (z : List ℕ). length z + 1)) (take_all (length (nodes entries)) (nodes entries) (omega arith)))

-- There are as many forks as numbers.
pub length-all_forks : (entries : List (List ℕ)) → length (all_forks entries) ≡ fork_count entries
length-all_forks entries = omega (arith, length_push (flat_map forks_of (nodes entries)) End, end_is entries)

-- the forks in the part of a node are those of the node
in_part : (ns : List (List ℕ)) (k j : ℕ) → k < length ns → j < length (get_or ns k []) + 1 → get_or (flat_map forks_of ns ++ End ∷ []) (fork_start ns k + j) End ≡ get_or (forks_of (get_or ns k [])) j End
in_part ns k j inside below =
    let start : length (flat_map forks_of (take k ns)) ≡ fork_start ns k = length-forks (take k ns) in
    let fits : j < length (forks_of (get_or ns k [])) = omega (arith, length-forks_of (get_or ns k []), below) in
    let short : length (flat_map forks_of (take k ns)) + j < length (flat_map forks_of ns) = omega (arith, fits, length-flat_map-take forks_of ns k [] inside) in
    subst (λ n. get_or (flat_map forks_of ns ++ End ∷ []) (n + j) End ≡ get_or (forks_of (get_or ns k [])) j End) start
    (get_or_append_left (flat_map forks_of ns) (End ∷ []) End (length (flat_map forks_of (take k ns)) + j) short ∙ get_or-flat_map forks_of ns k j [] End inside fits)

-- The forks in the part of a node are those of the node.
pub fork_in_part : (entries : List (List ℕ)) (k j : ℕ) → k < length (nodes entries) → j < length (get_or (nodes entries) k []) + 1 →
    fork_at entries (fork_start (nodes entries) k + j) ≡ get_or (forks_of (get_or (nodes entries) k [])) j End
fork_in_part entries k j inside below = in_part (nodes entries) k j inside below

-- the end stands behind all others
end_behind : (xs : List Fork) (n : ℕ) → length xs ≡ n → get_or (xs ++ End ∷ []) n End ≡ End
end_behind xs n long = subst (λ k. get_or (xs ++ End ∷ []) k End ≡ End) long (get_or-append_seam xs End [] End)

-- The end has the last number.
pub fork_at-end : (entries : List (List ℕ)) → fork_at entries (end_number entries) ≡ End
fork_at-end entries = end_behind (flat_map forks_of (nodes entries)) (end_number entries) (end_is entries)

-- ---- numbers

-- The longer open word is a node, and the other a shorter end of it.
abbrev pub IsNodeFork : List (List ℕ) → Fork → Type 0
IsNodeFork entries (Same p) = Contains (nodes entries) p
IsNodeFork entries (Differ p q) = Contains (nodes entries) p × (length q < length p) × (last_strokes (length q) p ≡ q)
IsNodeFork entries End = ⊤

-- the fork at a place in the part of a node, where the node is known
fork_of_node : (ns : List (List ℕ)) (k j n : ℕ) (p : List ℕ) → get_or ns k [] ≡ p → k < length ns → j < length p + 1 → fork_start ns k + j ≡ n → get_or (flat_map forks_of ns ++ End ∷ []) n End ≡ get_or (forks_of p) j End
fork_of_node ns k j n p is inside below at =
    subst (λ m. get_or (flat_map forks_of ns ++ End ∷ []) m End ≡ get_or (forks_of p) j End) at
    (in_part ns k j inside (omega (arith, below, ap length is)) ∙ ap (λ z. get_or (forks_of z) j End) is)

-- A fork's number leads back to it.
pub fork_at-number : (entries : List (List ℕ)) (s : Fork) → IsNodeFork entries s → fork_at entries (fork_number entries s) ≡ s
fork_at-number entries (Same p) h = fork_of_node (nodes entries) (place_of (nodes entries) p) 0 (fork_number entries (Same p)) p (place_there (nodes entries) p h) (place_inside (nodes entries) p h) (omega arith) (omega arith)
fork_at-number entries (Differ p q) h =
    fork_of_node (nodes entries) (place_of (nodes entries) p) (suc (length q)) (fork_number entries (Differ p q)) p (place_there (nodes entries) p h.0) (place_inside (nodes entries) p h.0) (omega (arith, h.1)) (omega arith)
    ∙ get_or-map-range_with_len (λ k. Differ p (last_strokes k p)) 0 (length p) (length q) (length q) End h.1 (omega arith)
    ∙ ap (λ l. Differ p l) h.2
fork_at-number entries End h = fork_at-end entries

-- A part ends before the end's number
pub part_before_end : (ns : List (List ℕ)) (k : ℕ) → k < length ns → fork_start ns k + (length (get_or ns k []) + 1) ≤ fork_start ns (length ns)
part_before_end ns k inside =
    omega (arith, length-flat_map-take forks_of ns k [] inside, length-forks (take k ns), length-forks_of (get_or ns k []), length-forks ns, ap (sum_by (λ (z : List ℕ). length z + 1)) (take_all (length ns) ns (omega arith)))

-- It is below their count.
pub fork_number-below : (entries : List (List ℕ)) (s : Fork) → IsNodeFork entries s → fork_number entries s < fork_count entries
fork_number-below entries (Same p) h = omega (arith, part_before_end (nodes entries) (place_of (nodes entries) p) (place_inside (nodes entries) p h))
fork_number-below entries (Differ p q) h =
    omega (arith, part_before_end (nodes entries) (place_of (nodes entries) p) (place_inside (nodes entries) p h.0), ap length (place_there (nodes entries) p h.0), h.1)
fork_number-below entries End h = omega arith

-- the start has the number 0
pub start-number : (entries : List (List ℕ)) → fork_number entries (Same []) ≡ 0
start-number entries = let first = nodes-first entries in rw first.1 refl

-- ---- targets

-- The stroke with which an open word ends is one of the words',
pub stroke_of_word : (words : List (List ℕ)) (p : List ℕ) (c : ℕ) → is_word words (p ++ c ∷ []) ≡ true → Contains (strokes_in words) c
stroke_of_word words p c h = strokes_in-there words (p ++ c ∷ []) c ((is_entry-Decides words (p ++ c ∷ [])).0 h) (Contains-append_right p (c ∷ []) c (in_first c []))

-- and so is one with which it goes on
stroke_of_open : (words : List (List ℕ)) (p : List ℕ) (c : ℕ) → is_open words (p ++ c ∷ []) ≡ true → Contains (strokes_in words) c
stroke_of_open words p c h = elim (open_word words (p ++ c ∷ []) h) [
  | inl none ↦ absurd (omega (arith, length_push p c, ap length none))
  | inr found ↦
      let k : ℕ = length (p ++ c ∷ []) in
      let front : Contains (take k found.0) c = subst (λ l. Contains l c) found.2 (Contains-append_right p (c ∷ []) c (in_first c [])) in
      strokes_in-there words found.0 c found.1 (subst (λ l. Contains l c) (take-append-drop k found.0) (Contains-append_left (take k found.0) (drop k found.0) c front))
]

-- a stroke that leads anywhere is one of the words'
stroke_of_same : (words : List (List ℕ)) (p : List ℕ) (c : ℕ) (t : Fork) → Contains (targets_of_same words (p ++ c ∷ [])) t → Contains (strokes_in words) c
stroke_of_same words p c t h =
    let w : List ℕ = p ++ c ∷ [] in
    elim (Contains-append_cases (if is_open words w then (Same w ∷ []) else []) _ t h) [
      | inl on ↦ stroke_of_open words p c (in_if (is_open words w) _ t on).0
      | inr rest ↦ elim (Contains-append_cases (if is_word words w then (Same [] ∷ []) else []) _ t rest) [
        | inl off ↦ stroke_of_word words p c (in_if (is_word words w) _ t off).0
        | inr two ↦ stroke_of_open words p c (both (is_open words w) (is_word words w) (in_if (is_open words w && is_word words w) _ t two).0).0
      ]
    ]

stroke_of_two : (words : List (List ℕ)) (p q : List ℕ) (c : ℕ) (t : Fork) → Contains (targets_of_two words (p ++ c ∷ []) (q ++ c ∷ [])) t → Contains (strokes_in words) c
stroke_of_two words p q c t h =
    let v : List ℕ = p ++ c ∷ [] in
    let w : List ℕ = q ++ c ∷ [] in
    elim (Contains-append_cases (if is_open words v && is_open words w then (Differ v w ∷ []) else []) _ t h) [
      | inl on ↦ stroke_of_open words p c (both (is_open words v) (is_open words w) (in_if (is_open words v && is_open words w) _ t on).0).0
      | inr rest ↦ elim (Contains-append_cases (if is_open words v && is_word words w then (Differ v [] ∷ []) else []) _ t rest) [
        | inl second ↦ stroke_of_open words p c (both (is_open words v) (is_word words w) (in_if (is_open words v && is_word words w) _ t second).0).0
        | inr last ↦ elim (Contains-append_cases (if is_open words w && is_word words v then (Differ w [] ∷ []) else []) _ t last) [
          | inl first ↦ stroke_of_open words q c (both (is_open words w) (is_word words v) (in_if (is_open words w && is_word words v) _ t first).0).0
          | inr end ↦ stroke_of_word words p c (both (is_word words v) (is_word words w) (in_if (is_word words v && is_word words w) _ t end).0).0
        ]
      ]
    ]

-- The stroke of a move is one of the words'.
pub fork_stroke : (words : List (List ℕ)) (s t : Fork) (c : ℕ) → Contains (fork_targets_by words s c) t → Contains (strokes_in words) c
fork_stroke words (Same p) t c h = stroke_of_same words p c t h
fork_stroke words (Differ p q) t c h = stroke_of_two words p q c t h
fork_stroke words End t c h = absurd (none_in_nil t h)

-- ---- the same list from other strokes

some_target : (words : List (List ℕ)) (s : Fork) (c : ℕ) → fork_targets_by words s c ≢ [] → (t : Fork) × Contains (fork_targets_by words s c) t
some_target words s c some = by (fork_targets_by words s c) some
  where
    by : (ts : List Fork) → ts ≢ [] → (t : Fork) × Contains ts t
    by [] some = absurd (some refl)
    by (t ∷ ts) some = (t, in_first t ts)

-- The targets may be listed by any rising strokes that have each stroke of a move.
pub fork_targets-over : (words : List (List ℕ)) (s : Fork) (cs : List ℕ) → AllPairs (λ a b. a < b) cs → ((c : ℕ) (t : Fork) → Contains (fork_targets_by words s c) t → Contains cs c) →
    flat_map (fork_targets_by words s) cs ≡ flat_map (fork_targets_by words s) (strokes_in words)
unfolding Agree
fork_targets-over words s cs rising covers =
    same_within (length cs + length (strokes_in words)) (fork_targets_by words s) cs (strokes_in words) (omega arith) rising (strokes_in-rising words)
    (λ c some. let found = some_target words s c some in (λ h. fork_stroke words s found.0 c found.1, λ h. covers c found.0 found.1))

-- ---- all targets

-- A target is one by some stroke,
pub fork_target-by : (words : List (List ℕ)) (s t : Fork) → Contains (fork_targets words s) t → (c : ℕ) × Contains (fork_targets_by words s c) t
fork_target-by words s t h =
    let k = in_if (has_open_words words s) (flat_map (fork_targets_by words s) (strokes_in words)) t h in
    let found = in_flat_map (fork_targets_by words s) (strokes_in words) t k.1 in
    (found.0, found.2)

-- and of a fork with open words each such target is listed.
pub fork_target-there : (words : List (List ℕ)) (s t : Fork) (c : ℕ) → has_open_words words s ≡ true → Contains (fork_targets_by words s c) t → Contains (fork_targets words s) t
fork_target-there words s t c opens h =
    in_if_true (has_open_words words s) (flat_map (fork_targets_by words s) (strokes_in words)) t opens
    (in_flat_map_of (fork_targets_by words s) (strokes_in words) c t (fork_stroke words s t c h) h)

-- The listed targets are the moves of a fork with open words.
pub fork_targets-Contains : (words : List (List ℕ)) (s t : Fork) → Contains (fork_targets words s) t ↔ ((has_open_words words s ≡ true) × ((c : ℕ) × Contains (fork_targets_by words s c) t))
fork_targets-Contains words s t =
    (λ h. ((in_if (has_open_words words s) (flat_map (fork_targets_by words s) (strokes_in words)) t h).0, fork_target-by words s t h), λ h. fork_target-there words s t h.1.0 h.0 h.1.1)

-- ---- the forks of walks

stands_node : (entries words : List (List ℕ)) (n : ℕ) (s : Fork) → AreWords entries words → Stands words n s → IsNodeFork entries s × (has_open_words words s ≡ true)
unfolding Stands
stands_node entries words n (Same p) are h = ((nodes-Contains entries p).1 (is_prefix-open entries words p are h.2.1.open_word), h.2.1.open_word)
stands_node entries words n (Differ p q) are h = (
  (
    (nodes-Contains entries p).1 (is_prefix-open entries words p are h.3.1.open_word),
    h.2,
    drop_ends (concat h.3.0) (concat h.4.0) p q (h.3.1.joined ∙ sym h.4.1.joined) (omega (arith, h.2)),
  ),
  both_true (is_open words p) (is_open words q) h.3.1.open_word h.4.1.open_word,
)
stands_node entries words n End are h = (tt, refl)

-- A walk leads to a fork of nodes with open words.
pub walk-node : (entries words : List (List ℕ)) (n : ℕ) (s : Fork) → AreWords entries words → ForkWalk words n s → IsNodeFork entries s × (has_open_words words s ≡ true)
walk-node entries words n s are walk = stands_node entries words n s are (stands_walk words n s walk)

-- ---- the graph

-- The end has no targets.
pub no_targets : (words : List (List ℕ)) (xs : List ℕ) → flat_map (fork_targets_by words End) xs ≡ []
no_targets words [] = refl
no_targets words (x ∷ xs) = no_targets words xs

-- a mapped list at a place, where what is behind it is mapped to nothing
map_at : (g : Fork → List ℕ) (xs : List Fork) (n : ℕ) → g End ≡ [] → get_or (map g xs) n [] ≡ g (get_or xs n End)
map_at g [] n none = sym none
map_at g (x ∷ xs) zero none = refl
map_at g (x ∷ xs) (suc n) none = map_at g xs n none

-- The targets of a number are the numbers of its fork's targets.
pub row_of_fork : (entries words : List (List ℕ)) (n : ℕ) → row (fork_lists entries words) n ≡ map (fork_number entries) (fork_targets words (fork_at entries n))
row_of_fork entries words n =
    map_at (λ s. map (fork_number entries) (fork_targets words s)) (all_forks entries) n (ap (map (fork_number entries)) (no_targets words (strokes_in words)))

-- The graph has as many numbers as there are.
pub length-fork_lists : (entries words : List (List ℕ)) → length (fork_lists entries words) ≡ fork_count entries
length-fork_lists entries words = length-map (all_forks entries) (λ s. map (fork_number entries) (fork_targets words s)) ∙ length-all_forks entries

-- a target of a number, from its fork
pub target_of_number : (entries words : List (List ℕ)) (n m : ℕ) → HasTarget (fork_lists entries words) n m →
    (t : Fork) × Contains (fork_targets words (fork_at entries n)) t × (fork_number entries t ≡ m)
target_of_number entries words n m h =
    in_map (fork_number entries) (fork_targets words (fork_at entries n)) m (subst (λ l. Contains l m) (row_of_fork entries words n) ((HasTarget-Contains (fork_lists entries words) n m).0 h))

-- a walk over numbers is one of forks
pub walk_of_numbers : (entries words : List (List ℕ)) (n m : ℕ) → AreWords entries words → Reaches 0 (fork_lists entries words) n m → (s : Fork) × ForkWalk words n s × (fork_number entries s ≡ m)
walk_of_numbers entries words zero m are walk = (Same [], refl, start-number entries ∙ sym walk)
walk_of_numbers entries words (suc n) m are walk =
    let before = walk_of_numbers entries words n walk.0 are walk.1 in
    let s : Fork = before.0 in
    let at : fork_at entries walk.0 ≡ s = ap (fork_at entries) (sym before.2) ∙ fork_at-number entries s (walk-node entries words n s are before.1).0 in
    let found = target_of_number entries words walk.0 m walk.2 in
    let by = fork_target-by words s found.0 (subst (λ r. Contains (fork_targets words r) found.0) at found.1) in
    (found.0, (s, before.1, by), found.2)

-- and a walk of forks one over their numbers
pub numbers_of_walk : (entries words : List (List ℕ)) (n : ℕ) (t : Fork) → AreWords entries words → ForkWalk words n t → Reaches 0 (fork_lists entries words) n (fork_number entries t)
numbers_of_walk entries words zero t are walk = rw walk (start-number entries)
numbers_of_walk entries words (suc n) t are walk =
    let s : Fork = walk.0 in
    let node = walk-node entries words n s are walk.1 in
    let listed = fork_target-there words s t walk.2.0 node.1 walk.2.1 in
    let at : row (fork_lists entries words) (fork_number entries s) ≡ map (fork_number entries) (fork_targets words s) =
    row_of_fork entries words (fork_number entries s) ∙ ap (λ r. map (fork_number entries) (fork_targets words r)) (fork_at-number entries s node.0) in (
      fork_number entries s,
      numbers_of_walk entries words n s are walk.1,
      (HasTarget-Contains (fork_lists entries words) (fork_number entries s) (fork_number entries t)).1
          (subst (λ l. Contains l (fork_number entries t)) (sym at) (in_map_of (fork_number entries) (fork_targets words s) t listed)),
    )

-- Walks over numbers are those of forks.
pub Reaches-ForkWalk : (entries words : List (List ℕ)) (n m : ℕ) → AreWords entries words → Reaches 0 (fork_lists entries words) n m ↔ ((s : Fork) × ForkWalk words n s × (fork_number entries s ≡ m))
Reaches-ForkWalk entries words n m are =
    (walk_of_numbers entries words n m are, λ h. subst (Reaches 0 (fork_lists entries words) n) h.2 (numbers_of_walk entries words n h.0 are h.1))

-- a walk to the end's number is one to the end
pub end_of_number : (entries words : List (List ℕ)) (n : ℕ) → AreWords entries words → Reaches 0 (fork_lists entries words) n (end_number entries) → ForkWalk words n End
end_of_number entries words n are walk =
    let found = walk_of_numbers entries words n (end_number entries) are walk in
    let is : found.0 ≡ End = sym (fork_at-number entries found.0 (walk-node entries words n found.0 are found.1).0) ∙ ap (fork_at entries) found.2 ∙ fork_at-end entries in
    subst (ForkWalk words n) is found.1

-- The least distance of the end's number is that of the end.
pub IsLeastEnd-number : (entries words : List (List ℕ)) (n : ℕ) → AreWords entries words → IsLeastEnd words n ↔ IsBest 0 (fork_lists entries words) (end_number entries) n
IsLeastEnd-number entries words n are = (
  λ h. record { walk = numbers_of_walk entries words n End are h.walk; least = λ m walk. h.least m (end_of_number entries words m are walk) },
  λ h. record { walk = end_of_number entries words n are h.walk; least = λ k walk. h.least k (numbers_of_walk entries words k End are walk) },
)
