-- The flags of a node, by those of its children.
use Rattle.std.proofs.Common.{map, ap₂, set, get_or-set_other, get_or-set_same, length-set, ◌≡◌, ◌≢◌, ℕ, suc, ◌+◌, ◌<◌, ◌≤◌, List, [], ◌∷◌, ◌++◌, length, drop, get_or, refl, sym, ap, subst, ◌∙◌, arith, Bool, true, false, true≢false, inl, inr, ◌⊎◌, ◌↔◌, Some, None, Contains, IsTrue, Less, take-append-drop, append_assoc, append-nil, nat_eq}
use Rattle.std.specs.Prelude.{slice_index_or}
use Rattle.std.proofs.lemmas.Bool.{cases_lt, cases_order}
use Rattle.std.proofs.lemmas.Bool.Decides.{nat_tests}
use Rattle.std.proofs.lemmas.List.{length_push, get_or_default, length-drop, length-map, get_or-map}
use Rattle.steno_rules.specs.Outlines.{AreEntries, AreWords, is_word, outline_cmp, entry_number, outline_of, flagged_entries}
use Rattle.steno_rules.specs.Nodes.{nodes}
use Rattle.steno_rules.specs.Windows.{is_prefix}
use Rattle.steno_rules.specs.States.{is_open}
use Rattle.steno_rules.proofs.Entries.{is_entry-Decides}
use Rattle.steno_rules.proofs.Numbers.{entry_number-Some, entry_number-outline_of}
use Rattle.steno_rules.proofs.NodeLemmas.{nodes-Contains, nodes-rising}
use Rattle.steno_rules.proofs.Prefixes.{is_prefix-entry}
use Rattle.steno_rules.proofs.Words.{open_front, open_in_word, open_word, open_of_word, word_is_entry, is_prefix-open}
use Rattle.steno_rules.proofs.FlaggedWords.{flagged-found, flagged-flag}
use Rattle.steno_rules.specs.WordSets.{IsWordSet, words_in}
use Rattle.translation_laws.proofs.WordSetLemmas.{word_set-of}
use Rattle.outline_trie.specs.Tries.{IsNode, node_strokes, child_of, AreChildren}
use Rattle.outline_trie.proofs.LookLemmas.{root_is, number_there}
use Rattle.match_window.proofs.RowLemmas.{child_is, node_some}
use Rattle.outline_trie.proofs.OrderLemmas.{nat_cmp_same}
use Rattle.closure_state.specs.declared.word_set.Flags.{Flags}
use Rattle.closure_state.specs.inside.NodeFlags.{AreFlags, AreFlagsBehind, GoesOn, HasGoing, flags_at}
use Rattle.closure_state.proofs.WaitLemmas.{flag_of}

-- ---- words

-- what is no entry is no word
pub word_none : (entries : List (List ℕ)) (flags : List Bool) (x : List ℕ) → AreEntries entries → None ≡ entry_number entries x → false ≡ is_word (flagged_entries entries flags) x
word_none entries flags x are none = by (is_word (flagged_entries entries flags) x) refl
  where
    by : (b : Bool) → is_word (flagged_entries entries flags) x ≡ b → false ≡ b
    by false e = refl
    by true e =
        let found = flagged-found entries flags x ((is_entry-Decides (flagged_entries entries flags) x).0 e) in
        let number : entry_number entries x ≡ Some found.0 = ap (entry_number entries) (sym found.3) ∙ entry_number-outline_of entries found.0 are.rising found.2 in
        absurd (let wrong : None ≡ Some found.0 = none ∙ number in cc)

-- and an entry is one by its flag
pub word_some : (entries : List (List ℕ)) (flags : List Bool) (x : List ℕ) (e : ℕ) → AreEntries entries → Some e ≡ entry_number entries x → slice_index_or flags e false ≡ is_word (flagged_entries entries flags) x
word_some entries flags x e are some =
    let at = entry_number-Some entries x e (sym some) in
    flag_of (is_word (flagged_entries entries flags) (outline_of entries e)) flags e (flagged-flag entries flags e are.rising at.0) ∙ ap (is_word (flagged_entries entries flags)) at.1

-- ---- children

-- a longer list isn't below its front
not_below : (x : List ℕ) (c : ℕ) (r : List ℕ) → outline_cmp (x ++ c ∷ r) x ≡ Less → ⊥
not_below [] c r h = cc
not_below (d ∷ x) c r h = not_below x c r (rw (nat_cmp_same d) at h)

-- A child's number is greater.
pub child_later : (entries : List (List ℕ)) (node code child : ℕ) → IsNode entries node → child_of entries node code ≡ Some child → node < child
child_later entries node code child inside found =
    let at = child_is entries node code child found in
    elim (cases_order node child) [
      | inl same ↦ absurd (omega (arith, ap length at.is, length_push (node_strokes entries node) code, ap (λ n. length (node_strokes entries n)) same))
      | inr (inl lt) ↦ lt
      | inr (inr gt) ↦
          let below : outline_cmp (node_strokes entries child) (node_strokes entries node) ≡ Less = nodes-rising entries child node [] gt inside in
          absurd (not_below (node_strokes entries node) code [] (subst (λ x. outline_cmp x (node_strokes entries node) ≡ Less) at.is below))
    ]

-- A node whose child goes on opens a word.
pub opens_of_child : (entries words : List (List ℕ)) (node code child : ℕ) (flags : Flags) → child_of entries node code ≡ Some child → AreFlags entries words child flags → GoesOn flags → is_open words (node_strokes entries node) ≡ true
opens_of_child entries words node code child flags found are goes =
    let at = child_is entries node code child found in
    elim goes [
      | inl word ↦ open_in_word words (node_strokes entries node) code (subst (λ x. is_word words x ≡ true) at.is (sym are.word ∙ word))
      | inr open_ ↦ open_front words (node_strokes entries node) code (subst (λ x. is_open words x ≡ true) at.is (sym are.opens ∙ open_))
    ]

-- the first stroke of what is left
first_of : (z : List ℕ) → 0 < length z → (c : ℕ) × (r : List ℕ) × (z ≡ c ∷ r)
first_of [] h = absurd (omega arith)
first_of (c ∷ r) h = (c, r, refl)

-- whether some strokes are left
empty_or : (r : List ℕ) → (r ≡ []) ⊎ (0 < length r)
empty_or [] = inl refl
empty_or (c ∷ r) = inr (omega arith)

-- And a node that opens a word has such a child.
pub child_of_opens : (entries words : List (List ℕ)) (node : ℕ) → AreWords entries words → IsNode entries node → node_strokes entries node ≢ [] → is_open words (node_strokes entries node) ≡ true →
    (code : ℕ) × (child : ℕ) × (child_of entries node code ≡ Some child) × ((is_word words (node_strokes entries child) ≡ true) ⊎ (is_open words (node_strokes entries child) ≡ true))
child_of_opens entries words node are inside some opens = elim (open_word words (node_strokes entries node) opens) [
  | inl none ↦ absurd (some none)
  | inr found ↦
      let x : List ℕ = node_strokes entries node in
      let w : List ℕ = found.0 in
      let z = first_of (drop (length x) w) (omega (arith, length-drop (length x) w, found.3)) in
      let whole : w ≡ (x ++ z.0 ∷ []) ++ z.1 = sym (take-append-drop (length x) w) ∙ ap (λ l. l ++ drop (length x) w) (sym found.2) ∙ ap (λ l. x ++ l) z.2 ∙ sym (append_assoc x (z.0 ∷ []) z.1) in
      let word : is_word words ((x ++ z.0 ∷ []) ++ z.1) ≡ true = subst (λ y. is_word words y ≡ true) whole ((is_entry-Decides words w).1 found.1) in
      let goes : (is_word words (x ++ z.0 ∷ []) ≡ true) ⊎ (is_open words (x ++ z.0 ∷ []) ≡ true) = elim (empty_or z.1) [
        | inl none ↦ inl (subst (λ y. is_word words y ≡ true) (ap (λ r. (x ++ z.0 ∷ []) ++ r) none ∙ append-nil (x ++ z.0 ∷ [])) word)
        | inr more ↦ inr (open_of_word words (x ++ z.0 ∷ []) z.1 word more)
      ] in
      let begins : is_prefix entries (x ++ z.0 ∷ []) ≡ true = elim goes [ inl is ↦ is_prefix-entry entries (x ++ z.0 ∷ []) (word_is_entry entries words (x ++ z.0 ∷ []) are is) | inr on ↦ is_prefix-open entries words (x ++ z.0 ∷ []) are on ] in
      let there = (nodes-Contains entries (x ++ z.0 ∷ [])).1 begins in
      let same : node_strokes entries there.0 ≡ x ++ z.0 ∷ [] = get_or_default (nodes entries) there.0 [] (x ++ z.0 ∷ []) there.1 ∙ there.2 in
      (z.0, there.0, number_there entries (x ++ z.0 ∷ []) there.0 there.1 same, subst (λ y. (is_word words y ≡ true) ⊎ (is_open words y ≡ true)) (sym same) goes)
]

-- ---- the flags of a node

-- what is read of the flags, where they are right of the later nodes
module _ (entries words : List (List ℕ)) (node : ℕ) (flags : List Flags) (row : List (ℕ × ℕ)) (are : AreWords entries words) (inside : IsNode entries node) (other : node ≡ 0 → ⊥) (children : AreChildren entries node row)
    (later : AreFlagsBehind entries words node flags) where
  pub opens_told : (b : Bool) → IsTrue b ↔ HasGoing flags row → b ≡ is_open words (node_strokes entries node)
  opens_told b h = by b (is_open words (node_strokes entries node)) refl h
    where
      none : Flags
      none = record { is_word = false; opens = false }

      by : (b v : Bool) → is_open words (node_strokes entries node) ≡ v → IsTrue b ↔ HasGoing flags row → b ≡ v
      by true true e h = refl
      by false false e h = refl
      by true false e h =
          let found = h.0 refl in
          let child = (children.each found.0.0 found.0.1).0 found.1 in
          let at = later found.0.1 (child_later entries node found.0.0 found.0.1 inside child) (child_is entries node found.0.0 found.0.1 child).inside in
          absurd (true≢false (sym (opens_of_child entries words node found.0.0 found.0.1 (flags_at flags found.0.1) child at found.2) ∙ e))
      by false true e h =
          let found = child_of_opens entries words node are inside (node_some entries node inside other) e in
          let at = later found.1 (child_later entries node found.0 found.1 inside found.2) (child_is entries node found.0 found.1 found.2).inside in
          let goes : GoesOn (flags_at flags found.1) = elim found.3 [ inl word ↦ inl (at.word ∙ word) | inr on ↦ inr (at.opens ∙ on) ] in
          absurd (true≢false (sym (h.1 ((found.0, found.1), (children.each found.0 found.1).1 found.2, goes))))

-- The root opens a word.
pub opens_root : (entries words : List (List ℕ)) (node : ℕ) (b : Bool) → node ≡ 0 → b ≡ true → b ≡ is_open words (node_strokes entries node)
opens_root entries words node b root is = is ∙ sym (ap (is_open words) (ap (node_strokes entries) root ∙ root_is entries))

-- A child is below the count.
pub children_below : (entries : List (List ℕ)) (node n : ℕ) (row : List (ℕ × ℕ)) → AreChildren entries node row → n ≡ length (nodes entries) → (k : ℕ) (d : ℕ × ℕ) → k < length row → (get_or row k d).1 < n
children_below entries node n row children is k d inside =
    let has : Contains row (get_or row k d) = (k, inside, get_or_default row k _ d inside) in
    omega (arith, is, (child_is entries node (get_or row k d).0 (get_or row k d).1 ((children.each (get_or row k d).0 (get_or row k d).1).0 has)).inside)

pub is_zero : (n : ℕ) → n ≡ 0 → nat_eq n 0 ≡ true
is_zero n h = grind (arith, nat_tests)

-- ---- the flags of all nodes, from the last one on

no_flags : Flags
no_flags = record { is_word = false; opens = false }

pub record AreFlagsFrom (entries words : List (List ℕ)) (from : ℕ) (flags : List Flags) : Type 0 where
  pub long : length flags ≡ length (nodes entries)
  pub each : (k : ℕ) → from ≤ k → IsNode entries k → AreFlags entries words k (flags_at flags k)

-- at first there are none
pub flags_start : (entries words : List (List ℕ)) (from : ℕ) (flags : List Flags) → length flags ≡ length (nodes entries) → from ≡ length (nodes entries) → AreFlagsFrom entries words from flags
flags_start entries words from flags long at = record { long = long; each = λ k up inside. absurd (omega (arith, at, up, inside)) }

-- one node more
pub flags_more : (entries words : List (List ℕ)) (from node next : ℕ) (flags new : List Flags) (one : Flags) → AreFlagsFrom entries words from flags → from ≡ node + 1 → next ≡ node → IsNode entries node → AreFlags entries words node one → new ≡ set flags node one → AreFlagsFrom entries words next new
flags_more entries words from node next flags new one h at to inside are is = record {
  long = ap length is ∙ length-set flags node one ∙ h.long;
  each = λ k up there. elim (cases_lt node k) [
    | inl lt ↦
        let other : k ≢ node = λ e. omega (arith, lt, e) in
        subst (AreFlags entries words k) (sym (ap (λ l. flags_at l k) is ∙ get_or-set_other flags node k one (record { is_word = false; opens = false }) other)) (h.each k (omega (arith, at, lt)) there)
    | inr ge ↦
        let same : node ≡ k = omega (arith, up, to, ge) in
        subst (λ n. AreFlags entries words n (flags_at new n)) same
        (subst (AreFlags entries words node) (sym (ap (λ l. flags_at l node) is ∙ get_or-set_same flags node one (record { is_word = false; opens = false }) (omega (arith, h.long, inside)))) are)
  ];
}

-- lists that agree at each place are one
same_places : {X : Type 0} (xs ys : List X) → length xs ≡ length ys → ((k : ℕ) (d : X) → k < length ys → get_or xs k d ≡ get_or ys k d) → xs ≡ ys
same_places [] [] long h = refl
same_places [] (y ∷ ys) long h = absurd (omega (arith, long))
same_places (x ∷ xs) [] long h = absurd (omega (arith, long))
same_places (x ∷ xs) (y ∷ ys) long h = ap₂ (λ a l. a ∷ l) (h 0 x (omega arith)) (same_places xs ys (omega (arith, long)) (λ k d inside. h (suc k) d (omega (arith, inside))))

-- a column of the flags
column : (entries : List (List ℕ)) (f : Flags → Bool) (t : List ℕ → Bool) (flags : List Flags) → length flags ≡ length (nodes entries) → ((k : ℕ) → IsNode entries k → f (flags_at flags k) ≡ t (node_strokes entries k)) →
    map f flags ≡ map t (nodes entries)
column entries f t flags long h = same_places (map f flags) (map t (nodes entries)) (length-map flags f ∙ long ∙ sym (length-map (nodes entries) t)) (λ k d inside.
    let there : k < length (nodes entries) = omega (arith, inside, length-map (nodes entries) t) in
    get_or-map f flags k (record { is_word = false; opens = false }) d (omega (arith, there, long)) ∙ h k there ∙ sym (get_or-map t (nodes entries) k [] d there))

-- The flags of all nodes are those of the words.
pub set_of_flags : (entries : List (List ℕ)) (words : List Bool) (flags : List Flags) (from : ℕ) → AreEntries entries → from ≡ 0 → AreFlagsFrom entries (flagged_entries entries words) from flags →
    IsWordSet entries (record { is_words = map (λ (f : Flags). f.is_word) flags; opens = map (λ (f : Flags). f.opens) flags }) × (words_in entries (record { is_words = map (λ (f : Flags). f.is_word) flags; opens = map (λ (f : Flags). f.opens) flags }) ≡ flagged_entries entries words)
set_of_flags entries words flags from are at h =
    word_set-of entries words (record { is_words = map (λ (f : Flags). f.is_word) flags; opens = map (λ (f : Flags). f.opens) flags }) are
    (column entries (λ (f : Flags). f.is_word) (is_word (flagged_entries entries words)) flags h.long (λ k inside. (h.each k (omega (arith, at)) inside).word))
    (column entries (λ (f : Flags). f.opens) (is_open (flagged_entries entries words)) flags h.long (λ k inside. (h.each k (omega (arith, at)) inside).opens))
