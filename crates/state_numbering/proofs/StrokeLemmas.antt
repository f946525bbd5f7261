-- The stroke into a state.
use Rattle.std.proofs.Common.{◌≡◌, ℕ, ◌-◌, ◌<◌, ◌≤◌, List, [], ◌∷◌, ◌++◌, length, drop, sym, ap, ◌∙◌, arith, inl, inr, Option, Some, None, drop_at}
use Rattle.std.specs.Prelude.{MatchOption}
use Rattle.std.proofs.lemmas.List.{length_push}
use Rattle.steno_rules.specs.StateNumbers.{longer}
use Rattle.closure_laws.proofs.StateNumberLemmas.{longer_cases}
use Rattle.outline_trie.specs.Tries.{node_strokes, IsLast}
use Rattle.outline_trie.proofs.LookLemmas.{root_is}
use Rattle.closure_state.specs.declared.state.State.{State}
use Rattle.closure_state.specs.NodeStates.{state_at}
use Rattle.state_numbering.specs.Numberings.{NumberingView}
use Rattle.state_numbering.specs.ByNumber.{IsStateOf, IsStrokeInto, HasNoStroke}

-- the last stroke of a list
pub last_of : (x front : List ℕ) (code : ℕ) → x ≡ front ++ code ∷ [] → drop (length x - 1) x ≡ code ∷ []
last_of x front code is = ap (λ y. drop (length y - 1) y) is ∙ drop_at front (code ∷ []) (length (front ++ code ∷ []) - 1) (omega (arith, length_push front code))

-- The answer is that of the node of the state's longer list.
pub stroke_of_node : (v : NumberingView) (number node : ℕ) (s : State) (found : Option ℕ) → IsStateOf v number s →
    longer (state_at v.entries s) ≡ node_strokes v.entries node → MatchOption found (node ≡ 0) (IsLast v.entries node) →
    MatchOption found (HasNoStroke v number) (IsStrokeInto v number)
stroke_of_node v number node s None is long last = λ code into.
    let found : Some (state_at v.entries s) ≡ Some into.state = sym is.number_is ∙ into.number_is in
    let same : state_at v.entries s ≡ into.state = cc in
    let none : longer into.state ≡ [] = ap longer (sym same) ∙ long ∙ ap (node_strokes v.entries) last ∙ root_is v.entries in
    let wrong : [] ≡ code ∷ [] = sym (ap (λ x. drop (length x - 1) x) none) ∙ into.stroke in
    cc
stroke_of_node v number node s (Some code) is long last = record {
  state = state_at v.entries s;
  number_is = is.number_is;
  stroke = ap (λ x. drop (length x - 1) x) long ∙ last_of (node_strokes v.entries node) _ code last;
}

-- The longer list is the window's where the open word has no more strokes,
pub longer_window : (entries : List (List ℕ)) (s : State) (wide deep : ℕ) → wide ≡ length (node_strokes entries s.window) →
    deep ≡ length (node_strokes entries s.word) → deep ≤ wide → longer (state_at entries s) ≡ node_strokes entries s.window
longer_window entries s wide deep u v short = elim (longer_cases (state_at entries s)) [ inl h ↦ h.1 | inr h ↦ absurd (omega (arith, h.0, u, v, short)) ]

-- and else the open word's.
pub longer_word : (entries : List (List ℕ)) (s : State) (wide deep : ℕ) → wide ≡ length (node_strokes entries s.window) →
    deep ≡ length (node_strokes entries s.word) → wide < deep → longer (state_at entries s) ≡ node_strokes entries s.word
longer_word entries s wide deep u v short = elim (longer_cases (state_at entries s)) [ inl h ↦ absurd (omega (arith, h.0, u, v, short)) | inr h ↦ h.1 ]
