-- The targets that wait are those by the stroke.
use Rattle.std.proofs.Common.{if◌then◌else◌, ◌≡◌, ℕ, zero, suc, List, [], ◌∷◌, ◌++◌, map, get_or, refl, sym, ap, ap₂, subst, ◌∙◌, arith, Bool, true, false, true≢false, inl, inr, Option, Some, None, Contains, ◌↔◌, slice_get}
use Rattle.std.specs.Prelude.{◌&&◌, is_some, unwrap_or, slice_index_or}
use Rattle.std.specs.List.{AllByRecursion}
use Rattle.std.proofs.lemmas.List.{map-append}
use Rattle.steno_rules.specs.Outlines.{is_word}
use Rattle.steno_rules.specs.Windows.{window}
use Rattle.steno_rules.specs.WordSets.{WordFlags, IsWordSet, words_in}
use Rattle.steno_rules.specs.States.{State as Abstract, IsState, IsMove, targets_by, later_mark, new_mark, is_open, state_of}
use Rattle.steno_rules.proofs.Lists.{none_in_nil, in_one, in_map_of, all_by_recursion}
use Rattle.std.proofs.lemmas.List.Elements.{Contains-append_cases}
use Rattle.std.proofs.lemmas.Bool.{cases_lt}
use Rattle.closure_laws.proofs.StateLemmas.{IsState-target}
use Rattle.translation_laws.proofs.WordSetLemmas.{word_set-flag, word_set-open}
use Rattle.outline_trie.specs.Tries.{IsNode, node_strokes}
use Rattle.outline_trie.proofs.LookLemmas.{root_is, root_inside}
use Rattle.match_window.proofs.RowLemmas.{node_some}
use Rattle.closure_state.specs.declared.state.State.{State}
use Rattle.closure_state.specs.NodeStates.{state_at, IsNodeState}
use Rattle.closure_state.specs.Waits.{some_listed, listed_if}

-- a state with the mark one stroke later, if there is one and the flag is set
abbrev pub later_if : Bool → ℕ → ℕ → Option (Option ℕ) → List State
later_if flag w y later = listed_if (flag && is_some later) (record { window = w; word = y; mark = unwrap_or later None })

-- a state with a new mark, if both flags are set
abbrev pub marked_if : Bool → ℕ → Bool → List State
marked_if flag w new = listed_if (flag && new) (record { window = w; word = 0; mark = Some 0 })

-- both of them with the mark, by what these are made of
abbrev pub made : Bool → Bool → ℕ → ℕ → Bool → Option ℕ → Bool → List State
made opens is w y stays mark new =
    listed_if (opens && stays) (record { window = w; word = y; mark = mark })
    ++ (listed_if (is && stays) (record { window = w; word = 0; mark = mark }) ++ marked_if is w new)

-- what they stand for
later_targets : (entries : List (List ℕ)) (flag : Bool) (w y : ℕ) (later : Option (Option ℕ)) →
    map (state_at entries) (later_if flag w y later) ≡ (if flag then (map (state_of (node_strokes entries w) (node_strokes entries y)) (some_listed later)) else [])
later_targets entries true w y None = refl
later_targets entries true w y (Some m) = refl
later_targets entries false w y later = refl

marked_targets : (entries : List (List ℕ)) (flag : Bool) (w : ℕ) (new : Bool) →
    map (state_at entries) (marked_if flag w new) ≡ (if flag then (map (state_of (node_strokes entries w) (node_strokes entries 0)) (listed_if new (Some 0))) else [])
marked_targets entries true w true = refl
marked_targets entries true w false = refl
marked_targets entries false w new = refl

-- two lists under one test
both_if : (b : Bool) (f : Option ℕ → Abstract) (xs ys : List (Option ℕ)) → (if b then (map f xs) else []) ++ (if b then (map f ys) else []) ≡ (if b then (map f (xs ++ ys)) else [])
both_if true f xs ys = sym (map-append f xs ys)
both_if false f xs ys = refl

-- a flag that is read
flag_read : (flags : List Bool) (k : ℕ) → (get_or flags k false ≡ true) ↔ (slice_get flags k ≡ Some true)
flag_read [] k = (λ h. absurd (true≢false (sym h)), λ h. absurd (true≢false cc))
flag_read (b ∷ flags) zero = (λ h. ap (λ v. Some v) h, λ h. cc)
flag_read (b ∷ flags) (suc k) = flag_read flags k

-- The flags of a node are the tests of its strokes.
pub flag_of : (b : Bool) (flags : List Bool) (k : ℕ) → (b ≡ true) ↔ (slice_get flags k ≡ Some true) → slice_index_or flags k false ≡ b
flag_of b flags k h = by b (get_or flags k false) h (flag_read flags k)
  where
    by : (b v : Bool) → (b ≡ true) ↔ (slice_get flags k ≡ Some true) → (v ≡ true) ↔ (slice_get flags k ≡ Some true) → v ≡ b
    by true v h r = r.1 (h.0 refl)
    by false true h r = absurd (true≢false (sym (h.1 (r.0 refl))))
    by false false h r = refl

pub is_word_flag : (entries : List (List ℕ)) (set : WordFlags) (y : ℕ) → IsNode entries y → slice_index_or set.is_words y false ≡ is_word (words_in entries set) (node_strokes entries y)
is_word_flag entries set y inside = flag_of (is_word (words_in entries set) (node_strokes entries y)) set.is_words y (word_set-flag entries set y inside)

-- the targets by a stroke, by what they are made of
abbrev targets_of : List ℕ → List ℕ → Bool → Bool → List (Option ℕ) → List (Option ℕ) → List Abstract
targets_of u v opens is_word later new = (if opens then (map (state_of u v) later) else []) ++ (if is_word then (map (state_of u []) (later ++ new)) else [])

-- What waits is what the stroke leads to.
pub waiting_is : (entries words : List (List ℕ)) (s : Abstract) (c w y : ℕ) (opens is : Bool) (later : Option (Option ℕ)) (new : Bool) → node_strokes entries w ≡ window entries (s.u ++ c ∷ []) → node_strokes entries y ≡ s.v ++ c ∷ [] →
    opens ≡ is_open words (node_strokes entries y) → is ≡ is_word words (node_strokes entries y) → some_listed later ≡ later_mark s.mark (node_strokes entries w) → new_mark s.mark (node_strokes entries w) ≡ listed_if new (Some 0) →
    map (state_at entries) (later_if opens w y later ++ (later_if is w 0 later ++ marked_if is w new)) ≡ targets_by entries words s c
waiting_is entries words s c w y opens is later new su sv so si sl sn =
    map-append (state_at entries) (later_if opens w y later) (later_if is w 0 later ++ marked_if is w new)
    ∙ ap₂ (λ l m. l ++ m) (later_targets entries opens w y later)
    (map-append (state_at entries) (later_if is w 0 later) (marked_if is w new) ∙ ap₂ (λ l m. l ++ m) (later_targets entries is w 0 later) (marked_targets entries is w new)
    ∙ both_if is (state_of (node_strokes entries w) (node_strokes entries 0)) (some_listed later) (listed_if new (Some 0))
    ∙ ap (λ v. if is then (map (state_of (node_strokes entries w) v) (some_listed later ++ listed_if new (Some 0))) else []) (root_is entries))
    ∙ (λ k. targets_of (su k) (sv k) ((so ∙ ap (is_open words) sv) k) ((si ∙ ap (is_word words) sv) k) ((sl ∙ ap (later_mark s.mark) su) k) ((sym sn ∙ ap (new_mark s.mark) su) k))

-- the nodes of what waits
in_listed : (flag : Bool) (s t : State) → Contains (listed_if flag s) t → s ≡ t
in_listed true s t has = in_one s t has
in_listed false s t has = absurd (none_in_nil t has)

in_nodes : (entries : List (List ℕ)) (flag : Bool) (s t : State) → IsNode entries s.window → IsNode entries s.word → Contains (listed_if flag s) t → IsNode entries t.window × IsNode entries t.word
in_nodes entries flag s t w y has = subst (λ (r : State). IsNode entries r.window × IsNode entries r.word) (in_listed flag s t has) (w, y)

-- What waits is a state each.
pub waiting_states : (entries words : List (List ℕ)) (s : Abstract) (c w y : ℕ) (opens is : Bool) (later : Option (Option ℕ)) (new : Bool) → IsState entries words s → IsNode entries w → IsNode entries y →
    map (state_at entries) (later_if opens w y later ++ (later_if is w 0 later ++ marked_if is w new)) ≡ targets_by entries words s c →
    AllByRecursion (IsNodeState entries words) (later_if opens w y later ++ (later_if is w 0 later ++ marked_if is w new))
waiting_states entries words s c w y opens is later new state at_w at_y targets =
    let all : List State = later_if opens w y later ++ (later_if is w 0 later ++ marked_if is w new) in
    all_by_recursion (IsNodeState entries words) all (λ t has.
    let move : IsMove entries words s (state_at entries t) = (c, subst (λ l. Contains l (state_at entries t)) targets (in_map_of (state_at entries) all t has)) in
    let nodes : IsNode entries t.window × IsNode entries t.word = elim (Contains-append_cases (later_if opens w y later) (later_if is w 0 later ++ marked_if is w new) t has) [
      | inl on ↦ in_nodes entries (opens && is_some later) _ t at_w at_y on
      | inr off ↦ elim (Contains-append_cases (later_if is w 0 later) (marked_if is w new) t off) [
        | inl old ↦ in_nodes entries (is && is_some later) _ t at_w (root_inside entries) old
        | inr fresh ↦ in_nodes entries (is && new) _ t at_w (root_inside entries) fresh
      ]
    ] in
    record { window = nodes.0; word = nodes.1; state = IsState-target entries words s (state_at entries t) state move })

-- whether a node is the root can be seen by its strokes
pub root_or_not : (entries : List (List ℕ)) (node : ℕ) → IsNode entries node → (node ≡ 0) ↔ (node_strokes entries node ≡ [])
root_or_not entries node inside = (
  λ root. ap (node_strokes entries) root ∙ root_is entries,
  λ none. elim (cases_lt 0 node) [
    | inl some ↦ absurd (node_some entries node inside (λ z. omega (arith, some, z)) none)
    | inr is ↦ omega arith
  ],
)

-- The same of the words that go on.
pub word_open_flag : (entries : List (List ℕ)) (set : WordFlags) (y : ℕ) → IsWordSet entries set → IsNode entries y → slice_index_or set.opens y false ≡ is_open (words_in entries set) (node_strokes entries y)
word_open_flag entries set y is inside = word_set-open entries set y is inside
