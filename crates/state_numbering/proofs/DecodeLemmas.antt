-- From a number's part, lengths and mark to its state.
use Rattle.std.proofs.Common.{◌≡◌, ℕ, ◌+◌, ◌-◌, ◌≤◌, max, List, [], length, take, drop, refl, sym, ap, subst, ◌∙◌, arith, true, false, true≢false, inl, inr, Option, Some, None, is_some, Contains, take-append-drop}
use Rattle.std.specs.Prelude.{MatchOption}
use Rattle.std.proofs.lemmas.List.{length-drop, get_or_default}
use Rattle.steno_rules.specs.Outlines.{AreWords, entry_number}
use Rattle.steno_rules.specs.Nodes.{nodes}
use Rattle.steno_rules.specs.Windows.{is_prefix}
use Rattle.steno_rules.specs.States as states
use Rattle.steno_rules.specs.States.{is_open, state_of, IsState}
use Rattle.steno_rules.specs.StateNumbers.{part_start, number_count, number_within, longer, state_number, state_of_number}
use Rattle.steno_rules.proofs.Numbers.{entry_number-Some}
use Rattle.steno_rules.proofs.NodeLemmas.{nodes-Contains}
use Rattle.steno_rules.proofs.Words.{is_prefix-open}
use Rattle.closure_laws.proofs.StateLemmas.{ends_of_one}
use Rattle.closure_laws.proofs.StateNumberLemmas.{longer_cases, shape_of_state, shaped-same, shaped-below, IsShaped}
use Rattle.closure_laws.proofs.NumberStateLemmas.{state_of_number-is, state_of_number-Some}
use Rattle.outline_trie.specs.Tries.{IsNode, node_strokes, suffix_of}
use Rattle.outline_trie.proofs.LookLemmas.{node_test, number_there}
use Rattle.closure_state.specs.declared.state.State.{State}
use Rattle.closure_state.specs.NodeStates.{state_at}
use Rattle.std.proofs.lemmas.Bool.{le-leb}
use Rattle.state_numbering.specs.declared.part.Part.{Part}
use Rattle.state_numbering.specs.declared.offset.Lengths.{Lengths}
use Rattle.state_numbering.specs.inside.Offsets.{HasOffset, IsMarked}
use Rattle.state_numbering.specs.inside.Parts.{IsInPart, IsNodePart}
use Rattle.state_numbering.specs.Numberings.{NumberingView}
use Rattle.state_numbering.specs.ByNumber.{IsOpenWordOf, IsStateOf}
use Rattle.state_numbering.proofs.NumberLemmas.{number_at}

-- ---- ends of a node

-- the last so many strokes of a list
abbrev pub end_of : List ℕ → ℕ → List ℕ
end_of z len = drop (length z - len) z

-- the node of a node's last strokes
suffix_at : (entries : List (List ℕ)) (node len : ℕ) → len ≤ length (node_strokes entries node) →
    suffix_of entries node len ≡ entry_number (nodes entries) (end_of (node_strokes entries node) len)
suffix_at entries node len short = rw (le-leb len (length (node_strokes entries node)) short) refl

-- The last strokes of a node that are all of them are the node.
pub suffix_whole : (entries : List (List ℕ)) (node len : ℕ) → IsNode entries node → len ≡ length (node_strokes entries node) →
    Some node ≡ suffix_of entries node len
suffix_whole entries node len inside all =
    let z : List ℕ = node_strokes entries node in
    let none : length z - len ≡ 0 = omega (arith, all) in
    sym (suffix_at entries node len (omega (arith, all)) ∙ number_there entries (end_of z len) node inside (sym (ap (λ k. drop k z) none)))

-- A node that was found is one.
pub suffix_inside : (entries : List (List ℕ)) (node len found : ℕ) → len ≤ length (node_strokes entries node) →
    Some found ≡ suffix_of entries node len → IsNode entries found
suffix_inside entries node len found short is = (entry_number-Some (nodes entries) (end_of (node_strokes entries node) len) found (sym (is ∙ suffix_at entries node len short))).0

-- ---- what a number stands for

-- the lists and the mark that an offset in a node's part stands for
abbrev pub candidate : List (List ℕ) → ℕ → Lengths → states.State
candidate entries node l = state_of (end_of (node_strokes entries node) l.window) (end_of (node_strokes entries node) l.word) l.mark

-- They are shaped like a state, and have the number.
pub record IsCandidate (entries : List (List ℕ)) (number : ℕ) (s : states.State) : Type 0 where
  pub shaped : IsShaped (nodes entries) s
  pub number_is : state_number entries s ≡ number

length-end : (z : List ℕ) (len : ℕ) → len ≤ length z → length (end_of z len) ≡ len
length-end z len short = length-drop (length z - len) z ∙ omega arith

whole_end : (z : List ℕ) (len : ℕ) → len ≡ length z → end_of z len ≡ z
whole_end z len all = let none : length z - len ≡ 0 = omega (arith, all) in ap (λ k. drop k z) none

-- the longer of two ends of which one is the whole list
longer_end : (z : List ℕ) (window word : ℕ) (mark : Option ℕ) → max window word ≡ length z →
    longer (state_of (end_of z window) (end_of z word) mark) ≡ z
longer_end z window word mark long =
    let wide = length-end z window (omega (arith, long)) in
    let deep = length-end z word (omega (arith, long)) in
    elim (longer_cases (state_of (end_of z window) (end_of z word) mark)) [
      | inl h ↦ h.1 ∙ whole_end z window (omega (arith, h.0, wide, deep, long))
      | inr h ↦ h.1 ∙ whole_end z word (omega (arith, h.0, wide, deep, long))
    ]

pub candidate_is : (entries : List (List ℕ)) (number node depth offset : ℕ) (lengths : Lengths) → IsInPart entries number node →
    depth ≡ length (node_strokes entries node) → number ≡ part_start (nodes entries) node + offset → HasOffset depth offset lengths →
    IsCandidate entries number (candidate entries node lengths)
candidate_is entries number node depth offset l part depth_is offset_is has =
    let z : List ℕ = node_strokes entries node in
    let long : max l.window l.word ≡ length z = has.longest ∙ depth_is in
    let wide : length (end_of z l.window) ≡ l.window = length-end z l.window (omega (arith, long)) in
    let deep : length (end_of z l.word) ≡ l.word = length-end z l.word (omega (arith, long)) in
    let whole : longer (candidate entries node l) ≡ z = longer_end z l.window l.word l.mark long in
    let inner : number_within (length (end_of z l.window)) (length (end_of z l.word)) l.mark ≡ offset = ap (λ u. number_within u (length (end_of z l.word)) l.mark) wide ∙ ap (λ v. number_within l.window v l.mark) deep ∙ has.offset_is in
    record {
      shaped = record {
        node = subst (Contains (nodes entries)) (sym whole) (node, part.inside, get_or_default (nodes entries) node z [] part.inside);
        ends = ends_of_one (take (length z - l.window) z) (take (length z - l.word) z) (end_of z l.window) (end_of z l.word) (take-append-drop (length z - l.window) z ∙ sym (take-append-drop (length z - l.word) z));
        marked = subst (λ u. IsMarked u (length (end_of z l.word)) l.mark) (sym wide) (subst (λ v. IsMarked l.window v l.mark) (sym deep) has.marked);
      };
      number_is = number_at entries (candidate entries node l) node whole part.inside ∙ ap (λ k. part_start (nodes entries) node + k) inner ∙ sym offset_is;
    }

-- What was found of a number.
pub found_candidate : (parts entries : List (List ℕ)) (number node : ℕ) (part : Part) (lengths : Lengths) → parts ≡ entries →
    IsInPart parts number node → IsNodePart parts node part → HasOffset part.depth (number - part.start) lengths →
    IsCandidate entries number (candidate entries node lengths) × (max lengths.window lengths.word ≡ length (node_strokes entries node))
found_candidate parts entries number node part lengths same inside is has =
    let inside' : IsInPart entries number node = subst (λ es. IsInPart es number node) same inside in
    let is' : IsNodePart entries node part = subst (λ es. IsNodePart es node part) same is in (
      candidate_is entries number node part.depth (number - part.start) lengths inside' is'.depth (omega (arith, inside'.from, is'.start)) has,
      has.longest ∙ is'.depth,
    )

-- ---- the answers

-- the state of the number, if there is one, is the candidate
only_candidate : (entries words : List (List ℕ)) (number : ℕ) (t s : states.State) → AreWords entries words → IsCandidate entries number t →
    state_of_number entries words number ≡ Some s → IsState entries words t
only_candidate entries words number t s are is found =
    let at = state_of_number-is entries words number s found in
    subst (IsState entries words) (shaped-same entries s t (shape_of_state entries words s are at.0) is.shaped (at.1 ∙ sym is.number_is)) at.0

-- Where the candidate is no state none has the number.
pub no_state : (entries words : List (List ℕ)) (number : ℕ) (t : states.State) → AreWords entries words → IsCandidate entries number t →
    (IsState entries words t → ⊥) → state_of_number entries words number ≡ None
no_state entries words number t are is fails = by (state_of_number entries words number) refl
  where
    by : (o : Option states.State) → state_of_number entries words number ≡ o → o ≡ None
    by None e = refl
    by (Some s) e = absurd (fails (only_candidate entries words number t s are is e))

-- The answer of a number without a state.
pub none_answered : (v : NumberingView) (number : ℕ) (found : Option State) → found ≡ None →
    state_of_number v.entries v.words number ≡ None →
    MatchOption found (state_of_number v.entries v.words number ≡ None) (IsStateOf v number)
none_answered v number found none is = subst (λ o. MatchOption o (state_of_number v.entries v.words number ≡ None) (IsStateOf v number)) (sym none) is

-- A number that isn't below the count has no state.
pub past_count : (entries words : List (List ℕ)) (number : ℕ) → AreWords entries words → number_count entries ≤ number →
    state_of_number entries words number ≡ None
past_count entries words number are past = by (state_of_number entries words number) refl
  where
    by : (o : Option states.State) → state_of_number entries words number ≡ o → o ≡ None
    by None e = refl
    by (Some s) e =
        let at = state_of_number-is entries words number s e in
        absurd (omega (arith, past, at.1, shaped-below entries s (shape_of_state entries words s are at.0)))

-- A window that is no node is none of a state,
pub no_window : (entries words : List (List ℕ)) (number node : ℕ) (l : Lengths) → AreWords entries words →
    IsCandidate entries number (candidate entries node l) → l.window ≤ length (node_strokes entries node) →
    None ≡ suffix_of entries node l.window → state_of_number entries words number ≡ None
no_window entries words number node l are is short none = no_state entries words number (candidate entries node l) are is (λ s.
    let x : List ℕ = end_of (node_strokes entries node) l.window in
    true≢false (sym s.window ∙ sym (node_test entries x) ∙ ap is_some (sym (none ∙ suffix_at entries node l.window short))))

-- nor is such an open word,
pub no_word : (entries words : List (List ℕ)) (number node : ℕ) (l : Lengths) → AreWords entries words →
    IsCandidate entries number (candidate entries node l) → l.word ≤ length (node_strokes entries node) →
    None ≡ suffix_of entries node l.word → state_of_number entries words number ≡ None
no_word entries words number node l are is short none = no_state entries words number (candidate entries node l) are is (λ s.
    let x : List ℕ = end_of (node_strokes entries node) l.word in
    let begun : is_prefix entries x ≡ true = is_prefix-open entries words x are s.word in
    true≢false (sym begun ∙ sym (node_test entries x) ∙ ap is_some (sym (none ∙ suffix_at entries node l.word short))))

-- nor one that doesn't open a word.
pub not_open : (entries words : List (List ℕ)) (number node word : ℕ) (l : Lengths) → AreWords entries words →
    IsCandidate entries number (candidate entries node l) → l.word ≤ length (node_strokes entries node) →
    Some word ≡ suffix_of entries node l.word → is_open words (node_strokes entries word) ≡ false →
    state_of_number entries words number ≡ None
not_open entries words number node word l are is short found shut = no_state entries words number (candidate entries node l) are is (λ s.
    let at = entry_number-Some (nodes entries) (end_of (node_strokes entries node) l.word) word (sym (found ∙ suffix_at entries node l.word short)) in
    true≢false (sym s.word ∙ ap (is_open words) (sym at.1) ∙ shut))

-- The open word of a number's state is the candidate's,
pub word_found : (v : NumberingView) (number node word : ℕ) (l : Lengths) → AreWords v.entries v.words →
    IsCandidate v.entries number (candidate v.entries node l) → l.word ≤ length (node_strokes v.entries node) →
    Some word ≡ suffix_of v.entries node l.word → IsOpenWordOf v number word
word_found seen number node word l are is short found s e =
    let entries : List (List ℕ) = seen.entries in
    let at = state_of_number-is entries seen.words number s e in
    let same : s ≡ candidate entries node l = shaped-same entries s (candidate entries node l) (shape_of_state entries seen.words s are at.0) is.shaped (at.1 ∙ sym is.number_is) in
    let there = entry_number-Some (nodes entries) (end_of (node_strokes entries node) l.word) word (sym (found ∙ suffix_at entries node l.word short)) in
    (there.0, there.1 ∙ ap (λ (t : states.State). t.v) (sym same))

-- and where that is no node, no state has the number.
pub no_word_found : (v : NumberingView) (number node word : ℕ) (l : Lengths) → AreWords v.entries v.words →
    IsCandidate v.entries number (candidate v.entries node l) → l.word ≤ length (node_strokes v.entries node) →
    None ≡ suffix_of v.entries node l.word → IsOpenWordOf v number word
no_word_found v number node word l are is short none s e =
    absurd (let never : None ≡ Some s = sym (no_word v.entries v.words number node l are is short none) ∙ e in cc never)

-- In all other cases the candidate is the state.
pub decoded : (v : NumberingView) (number node : ℕ) (l : Lengths) (s : State) → AreWords v.entries v.words →
    IsCandidate v.entries number (candidate v.entries node l) → max l.window l.word ≡ length (node_strokes v.entries node) →
    Some s.window ≡ suffix_of v.entries node l.window → Some s.word ≡ suffix_of v.entries node l.word → s.mark ≡ l.mark →
    is_open v.words (node_strokes v.entries s.word) ≡ true → IsStateOf v number s
decoded seen number node l s are is long window word mark opens =
    let entries : List (List ℕ) = seen.entries in
    let words : List (List ℕ) = seen.words in
    let z : List ℕ = node_strokes entries node in
    let u = entry_number-Some (nodes entries) (end_of z l.window) s.window (sym (window ∙ suffix_at entries node l.window (omega (arith, long)))) in
    let v = entry_number-Some (nodes entries) (end_of z l.word) s.word (sym (word ∙ suffix_at entries node l.word (omega (arith, long)))) in
    let same : candidate entries node l ≡ state_at entries s = λ k. record { u = (sym u.1) k; v = (sym v.1) k; mark = (sym mark) k } in
    let shape : IsShaped (nodes entries) (state_at entries s) = subst (IsShaped (nodes entries)) same is.shaped in
    let state : IsState entries words (state_at entries s) = record {
      window = (nodes-Contains entries (node_strokes entries s.window)).0 (s.window, u.0, get_or_default (nodes entries) s.window (node_strokes entries s.window) [] u.0);
      word = opens;
      ends = shape.ends;
      marked = shape.marked;
    } in
    record {
      state = record { window = u.0; word = v.0; state = state };
      number_is = (state_of_number-Some entries words number (state_at entries s) are).1 (state, ap (state_number entries) (sym same) ∙ is.number_is);
    }
