-- What the targets of a fork are: their longer open words are nodes, and their numbers are below the count.
use Rattle.std.proofs.Common.{◌≡◌, ℕ, zero, suc, ◌+◌, ◌-◌, ◌<◌, List, [], ◌∷◌, ◌++◌, length, map, flat_map, sym, ap, subst, arith, true, ◌&&◌, if◌then◌else◌, Contains, ◌⊎◌, inl, inr}
use Rattle.std.specs.Bool.{⊤}
use Rattle.std.specs.List.{range_with_len}
use Rattle.std.proofs.lemmas.Bool.{cases_lt}
use Rattle.std.proofs.lemmas.List.{get_or_past, length-drop, length_push}
use Rattle.std.proofs.lemmas.List.Elements.{Contains-append_cases, Contains-get_or}
use Rattle.graph_rules.specs.Graphs.{HasTarget}
use Rattle.steno_rules.specs.Outlines.{is_word, AreWords}
use Rattle.steno_rules.specs.Nodes.{nodes}
use Rattle.steno_rules.specs.States.{is_open}
use Rattle.steno_rules.specs.StateNumbers.{last_strokes, place_of}
use Rattle.steno_rules.specs.Windows.{is_prefix}
use Rattle.steno_rules.proofs.Lists.{none_in_nil, in_cons, in_one, in_map, in_if}
use Rattle.steno_rules.proofs.NodeLemmas.{nodes-Contains}
use Rattle.steno_rules.proofs.Prefixes.{is_prefix-entry}
use Rattle.steno_rules.proofs.Words.{is_prefix-open, word_is_entry}
use Rattle.closure_laws.proofs.RisingMaps.{in_flat_map}
use Rattle.closure_laws.proofs.StateNumberLemmas.{place_inside, place_there}
use Rattle.reading_laws.specs.Forks.{Fork, Same, Differ, End, targets_of_same, targets_of_two, fork_targets_by}
use Rattle.reading_laws.specs.ForkNumbers.{forks_of, all_forks, fork_at, fork_count, fork_number, fork_lists}
use Rattle.reading_laws.proofs.ForkLemmas.{both}
use Rattle.reading_laws.proofs.ForkNumberLemmas.{part_before_end, start-number, target_of_number, fork_target-by, length-fork_lists}

-- ---- what goes on

-- the strokes are open or a word
Begun : List (List ℕ) → List ℕ → Type 0
Begun words w = (is_open words w ≡ true) ⊎ (is_word words w ≡ true)

begun_prefix : (entries words : List (List ℕ)) (w : List ℕ) → AreWords entries words → Begun words w → is_prefix entries w ≡ true
unfolding Begun
begun_prefix entries words w are (inl opens) = is_prefix-open entries words w are opens
begun_prefix entries words w are (inr word) = is_prefix-entry entries w (word_is_entry entries words w are word)

begun_same : (words : List (List ℕ)) (w : List ℕ) (t : Fork) → Contains (targets_of_same words w) t → Begun words w
unfolding Begun
begun_same words w t h = elim (Contains-append_cases (if is_open words w then (Same w ∷ []) else []) _ t h) [
  | inl on ↦ inl (in_if (is_open words w) _ t on).0
  | inr rest ↦ elim (Contains-append_cases (if is_word words w then (Same [] ∷ []) else []) _ t rest) [
    | inl off ↦ inr (in_if (is_word words w) _ t off).0
    | inr two ↦ inl (both (is_open words w) (is_word words w) (in_if (is_open words w && is_word words w) _ t two).0).0
  ]
]

begun_two : (words : List (List ℕ)) (v w : List ℕ) (t : Fork) → Contains (targets_of_two words v w) t → Begun words v
unfolding Begun
begun_two words v w t h = elim (Contains-append_cases (if is_open words v && is_open words w then (Differ v w ∷ []) else []) _ t h) [
  | inl on ↦ inl (both (is_open words v) (is_open words w) (in_if (is_open words v && is_open words w) _ t on).0).0
  | inr rest ↦ elim (Contains-append_cases (if is_open words v && is_word words w then (Differ v [] ∷ []) else []) _ t rest) [
    | inl second ↦ inl (both (is_open words v) (is_word words w) (in_if (is_open words v && is_word words w) _ t second).0).0
    | inr last ↦ elim (Contains-append_cases (if is_open words w && is_word words v then (Differ w [] ∷ []) else []) _ t last) [
      | inl first ↦ inr (both (is_open words w) (is_word words v) (in_if (is_open words w && is_word words v) _ t first).0).1
      | inr end ↦ inr (both (is_word words v) (is_word words w) (in_if (is_word words v && is_word words w) _ t end).0).0
    ]
  ]
]

-- The open word of a fork, or the longer one.
abbrev pub longer_word : Fork → List ℕ
longer_word (Same p) = p
longer_word (Differ p q) = p
longer_word End = []

-- With the stroke of a move it begins an entry.
pub fork_begins : (entries words : List (List ℕ)) (s t : Fork) (c : ℕ) → AreWords entries words → Contains (fork_targets_by words s c) t → is_prefix entries (longer_word s ++ c ∷ []) ≡ true
fork_begins entries words (Same p) t c are h = begun_prefix entries words (p ++ c ∷ []) are (begun_same words (p ++ c ∷ []) t h)
fork_begins entries words (Differ p q) t c are h = begun_prefix entries words (p ++ c ∷ []) are (begun_two words (p ++ c ∷ []) (q ++ c ∷ []) t h)
fork_begins entries words End t c are h = absurd (none_in_nil t h)

-- ---- bounds

same_below : (entries : List (List ℕ)) (p : List ℕ) → is_prefix entries p ≡ true → fork_number entries (Same p) < fork_count entries
same_below entries p begins = omega (arith, part_before_end (nodes entries) (place_of (nodes entries) p) (place_inside (nodes entries) p ((nodes-Contains entries p).1 begins)))

two_below : (entries : List (List ℕ)) (p q : List ℕ) → is_prefix entries p ≡ true → length q < length p → fork_number entries (Differ p q) < fork_count entries
two_below entries p q begins fewer =
    let has : Contains (nodes entries) p = (nodes-Contains entries p).1 begins in
    omega (arith, part_before_end (nodes entries) (place_of (nodes entries) p) (place_inside (nodes entries) p has), ap length (place_there (nodes entries) p has), fewer)

-- the other open word is shorter
abbrev pub IsShort : Fork → Type 0
IsShort (Same p) = ⊤
IsShort (Differ p q) = length q < length p
IsShort End = ⊤

below_same : (entries words : List (List ℕ)) (w : List ℕ) (t : Fork) → AreWords entries words → 0 < length w → Contains (targets_of_same words w) t → fork_number entries t < fork_count entries
below_same entries words w t are some h =
    let begins : is_prefix entries w ≡ true = begun_prefix entries words w are (begun_same words w t h) in
    elim (Contains-append_cases (if is_open words w then (Same w ∷ []) else []) _ t h) [
      | inl on ↦ subst (λ r. fork_number entries r < fork_count entries) (in_one (Same w) t (in_if (is_open words w) _ t on).1) (same_below entries w begins)
      | inr rest ↦ elim (Contains-append_cases (if is_word words w then (Same [] ∷ []) else []) _ t rest) [
        | inl off ↦ subst (λ r. fork_number entries r < fork_count entries) (in_one (Same []) t (in_if (is_word words w) _ t off).1) (omega (arith, start-number entries))
        | inr two ↦ subst (λ r. fork_number entries r < fork_count entries) (in_one (Differ w []) t (in_if (is_open words w && is_word words w) _ t two).1) (two_below entries w [] begins some)
      ]
    ]

below_two : (entries words : List (List ℕ)) (v w : List ℕ) (t : Fork) → AreWords entries words → length w < length v → 0 < length w → Contains (targets_of_two words v w) t → fork_number entries t < fork_count entries
below_two entries words v w t are fewer some h =
    let begins : is_prefix entries v ≡ true = begun_prefix entries words v are (begun_two words v w t h) in
    elim (Contains-append_cases (if is_open words v && is_open words w then (Differ v w ∷ []) else []) _ t h) [
      | inl on ↦ subst (λ r. fork_number entries r < fork_count entries) (in_one (Differ v w) t (in_if (is_open words v && is_open words w) _ t on).1) (two_below entries v w begins fewer)
      | inr rest ↦ elim (Contains-append_cases (if is_open words v && is_word words w then (Differ v [] ∷ []) else []) _ t rest) [
        | inl second ↦ subst (λ r. fork_number entries r < fork_count entries) (in_one (Differ v []) t (in_if (is_open words v && is_word words w) _ t second).1) (two_below entries v [] begins (omega (arith, fewer)))
        | inr last ↦ elim (Contains-append_cases (if is_open words w && is_word words v then (Differ w [] ∷ []) else []) _ t last) [
          | inl first ↦
              let k = in_if (is_open words w && is_word words v) _ t first in
              subst (λ r. fork_number entries r < fork_count entries) (in_one (Differ w []) t k.1)
              (two_below entries w [] (is_prefix-open entries words w are (both (is_open words w) (is_word words v) k.0).0) some)
          | inr end ↦ subst (λ r. fork_number entries r < fork_count entries) (in_one End t (in_if (is_word words v && is_word words w) _ t end).1) (omega arith)
        ]
      ]
    ]

target_by_below : (entries words : List (List ℕ)) (s t : Fork) (c : ℕ) → AreWords entries words → IsShort s → Contains (fork_targets_by words s c) t → fork_number entries t < fork_count entries
target_by_below entries words (Same p) t c are short h = below_same entries words (p ++ c ∷ []) t are (omega (arith, length_push p c)) h
target_by_below entries words (Differ p q) t c are short h = below_two entries words (p ++ c ∷ []) (q ++ c ∷ []) t are (omega (arith, length_push p c, length_push q c, short)) (omega (arith, length_push q c)) h
target_by_below entries words End t c are short h = absurd (none_in_nil t h)

-- the numbers of a range
in_range : (n a k : ℕ) → Contains (range_with_len a n) k → k < a + n
in_range zero a k h = absurd (none_in_nil k h)
in_range (suc n) a k h = elim (in_cons a (range_with_len (a + 1) n) k h) [
  | inl same ↦ omega (arith, same)
  | inr later ↦ let below = in_range n (a + 1) k later in omega (arith, below)
]

short_of_node : (z : List ℕ) (s : Fork) → Contains (forks_of z) s → IsShort s
short_of_node z s h = elim (in_cons (Same z) (map (λ k. Differ z (last_strokes k z)) (range_with_len 0 (length z))) s h) [
  | inl same ↦ subst IsShort same tt
  | inr later ↦
      let found = in_map (λ k. Differ z (last_strokes k z)) (range_with_len 0 (length z)) s later in
      let below : found.0 < 0 + length z = in_range (length z) 0 found.0 found.1 in
      subst IsShort found.2 (omega (arith, length-drop (length z - found.0) z, below))
]

short_at : (entries : List (List ℕ)) (n : ℕ) → IsShort (fork_at entries n)
short_at entries n = elim (cases_lt n (length (all_forks entries))) [
  | inr ge ↦ subst IsShort (sym (get_or_past (all_forks entries) n End ge)) tt
  | inl lt ↦ elim (Contains-append_cases (flat_map forks_of (nodes entries)) (End ∷ []) (fork_at entries n) (Contains-get_or (all_forks entries) n End lt)) [
    | inl here ↦ let found = in_flat_map forks_of (nodes entries) (fork_at entries n) here in short_of_node found.0 (fork_at entries n) found.2
    | inr last ↦ subst IsShort (in_one End (fork_at entries n) last) tt
  ]
]

-- Each target of a number is a number of the graph.
pub fork_target-below : (entries words : List (List ℕ)) → AreWords entries words → (s t : ℕ) → HasTarget (fork_lists entries words) s t → t < length (fork_lists entries words)
fork_target-below entries words are s t has =
    let found = target_of_number entries words s t has in
    let by = fork_target-by words (fork_at entries s) found.0 found.1 in
    let below = target_by_below entries words (fork_at entries s) found.0 by.0 are (short_at entries s) by.1 in
    omega (arith, below, found.2, length-fork_lists entries words)
