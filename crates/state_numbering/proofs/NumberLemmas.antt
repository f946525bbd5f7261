-- The number of a state by the part of its longer list.
use Rattle.std.proofs.Common.{◌≡◌, ℕ, ◌+◌, ◌<◌, ◌≤◌, List, [], length, sym, ap, ◌∙◌, arith, ◌⊎◌, inl, inr, Contains}
use Rattle.std.proofs.lemmas.List.{get_or_default}
use Rattle.steno_rules.specs.Outlines.{AreWords}
use Rattle.steno_rules.specs.Nodes.{nodes}
use Rattle.steno_rules.specs.StateNumbers.{part_start, place_of, number_within, longer, state_number, number_count}
use Rattle.steno_rules.specs.States as states
use Rattle.steno_rules.proofs.NodeLemmas.{nodes-rising}
use Rattle.steno_rules.proofs.Numbers.{outline_of-once}
use Rattle.closure_laws.proofs.StateNumberLemmas.{place_inside, place_there, longer_cases, shape_of_state, shaped-below}
use Rattle.outline_trie.specs.Tries.{IsNode, node_strokes}
use Rattle.closure_state.specs.declared.state.State.{State}
use Rattle.closure_state.specs.NodeStates.{state_at, IsNodeState}
use Rattle.state_numbering.specs.declared.part.Part.{Part}
use Rattle.state_numbering.specs.inside.Parts.{IsNodePart}

-- a node's place is its number
pub place_node : (entries : List (List ℕ)) (node : ℕ) → IsNode entries node → place_of (nodes entries) (node_strokes entries node) ≡ node
place_node entries node inside =
    let has : Contains (nodes entries) (node_strokes entries node) = (node, inside, get_or_default (nodes entries) node (node_strokes entries node) [] inside) in
    outline_of-once (nodes entries) (place_of (nodes entries) (node_strokes entries node)) node (nodes-rising entries) (place_inside (nodes entries) (node_strokes entries node) has) inside (place_there (nodes entries) (node_strokes entries node) has)

-- The number of a state whose longer list is a node's.
pub number_at : (entries : List (List ℕ)) (s : states.State) (node : ℕ) → longer s ≡ node_strokes entries node → IsNode entries node →
    state_number entries s ≡ part_start (nodes entries) node + number_within (length s.u) (length s.v) s.mark
number_at entries s node is inside = ap (λ k. part_start (nodes entries) k + number_within (length s.u) (length s.v) s.mark) (ap (place_of (nodes entries)) is ∙ place_node entries node inside)

-- It is the first number of the longer list's part and the number within it.
pub number_is : (entries words : List (List ℕ)) (s : State) (window : Part) (depth start offset : ℕ) → IsNodeState entries words s →
    IsNodePart entries s.window window → depth ≡ length (node_strokes entries s.word) →
    ((depth ≤ window.depth) × (start ≡ window.start)) ⊎ ((window.depth < depth) × (start ≡ part_start (nodes entries) s.word)) →
    offset ≡ number_within window.depth depth s.mark → start + offset ≡ state_number entries (state_at entries s)
number_is entries words s window depth start offset is u v by offset_is =
    let inner : offset ≡ number_within (length (node_strokes entries s.window)) (length (node_strokes entries s.word)) s.mark = offset_is ∙ ap (λ d. number_within d depth s.mark) u.depth ∙ ap (λ d. number_within (length (node_strokes entries s.window)) d s.mark) v in
    elim by [
      | inl h ↦
          let whole : longer (state_at entries s) ≡ node_strokes entries s.window = elim (longer_cases (state_at entries s)) [ inl k ↦ k.1 | inr k ↦ absurd (omega (arith, k.0, h.0, u.depth, v)) ] in
          ap (λ k. k + offset) (h.1 ∙ u.start) ∙ ap (λ k. part_start (nodes entries) s.window + k) inner ∙ sym (number_at entries (state_at entries s) s.window whole is.window)
      | inr h ↦
          let whole : longer (state_at entries s) ≡ node_strokes entries s.word = elim (longer_cases (state_at entries s)) [ inl k ↦ absurd (omega (arith, k.0, h.0, u.depth, v)) | inr k ↦ k.1 ] in
          ap (λ k. k + offset) h.1 ∙ ap (λ k. part_start (nodes entries) s.word + k) inner ∙ sym (number_at entries (state_at entries s) s.word whole is.word)
    ]

-- Each number of a state is below the count.
pub number_below : (entries words : List (List ℕ)) (s : State) → AreWords entries words → IsNodeState entries words s →
    state_number entries (state_at entries s) < number_count entries
number_below entries words s are is = shaped-below entries (state_at entries s) (shape_of_state entries words (state_at entries s) are is.state)
