-- How near words are, by the children of a node.
use Rattle.std.proofs.Common.{◌≡◌, ◌≢◌, ℕ, ◌+◌, ◌<◌, ◌≤◌, List, [], ◌∷◌, ◌++◌, length, get_or, set, min, sym, ap, subst, ◌∙◌, arith, true, false, true≢false, inl, inr, Contains, append_assoc, append-nil}
use Rattle.std.proofs.lemmas.Bool.{cases_lt, cases_order}
use Rattle.std.proofs.lemmas.List.{get_or-set_same, get_or-set_other}
use Rattle.std.proofs.lemmas.List.Elements.{Contains-append_cases}
use Rattle.std.proofs.Math.ListN.{get_or-eq_default}
use Rattle.steno_rules.specs.Outlines.{AreWords, is_word}
use Rattle.steno_rules.proofs.Lists.{in_cons, none_in_nil}
use Rattle.outline_trie.specs.Tries.{AreChildren, node_strokes}
use Rattle.closure_state.proofs.RowLemmas.{child_ends, child_inside}
use Rattle.settled_pairs.specs.inside.Near.{AreNear, IsNearAt}
use Rattle.settled_pairs.proofs.WayLemmas.{child_of_word}

-- ---- one node

-- the number is no greater than those of these children
pub NearAmong : List ℕ → List (ℕ × ℕ) → ℕ → Type 0
NearAmong near row least = (code child : ℕ) → Contains row (code, child) → least ≤ get_or near child 0

pub near_among_none : (near : List ℕ) (least : ℕ) → NearAmong near [] least
unfolding NearAmong
near_among_none near least code child there = absurd (none_in_nil (code, child) there)

-- One child more.
pub near_among_more : (near : List ℕ) (row : List (ℕ × ℕ)) (pair : ℕ × ℕ) (least : ℕ) → NearAmong near row least → NearAmong near (row ++ pair ∷ []) (min least (get_or near pair.1 0))
unfolding NearAmong
near_among_more near row pair least h code child there = elim (Contains-append_cases row (pair ∷ []) (code, child) there) [
  | inl before ↦ omega (arith, h code child before)
  | inr last ↦ elim (in_cons pair [] (code, child) last) [
    | inl is ↦ omega (arith, ap (λ (p : ℕ × ℕ). get_or near p.1 0) is)
    | inr past ↦ absurd (none_in_nil (code, child) past)
  ]
]

-- A word is near below a node that is none only by a child.
pub near_by_children : (entries words : List (List ℕ)) (near : List ℕ) (node least n : ℕ) (row : List (ℕ × ℕ)) → AreWords entries words → AreNear entries words near → AreChildren entries node row →
    is_word words (node_strokes entries node) ≡ false → NearAmong near row least → n ≤ least + 1 → IsNearAt entries words node n
unfolding NearAmong
near_by_children entries words near node least n row are h children none among fits [] word =
    absurd (true≢false (sym (subst (λ l. is_word words l ≡ true) (append-nil (node_strokes entries node)) word) ∙ none))
near_by_children entries words near node least n row are h children none among fits (c ∷ z) word =
    let child = child_of_word entries words node c z are word in
    let ends = child_ends entries node c child.0 child.1 in
    let below : is_word words (node_strokes entries child.0 ++ z) ≡ true = subst (λ l. is_word words l ≡ true) (sym (ap (λ l. l ++ z) ends ∙ append_assoc (node_strokes entries node) (c ∷ []) z)) word in
    let far : get_or near child.0 0 ≤ length z = h child.0 (child_inside entries node c child.0 child.1) z below in
    let less : least ≤ get_or near child.0 0 = among c child.0 ((children.each c child.0).1 child.1) in
    omega (arith, far, less, fits)

-- A word is as near as can be.
pub near_here : (entries words : List (List ℕ)) (node : ℕ) → IsNearAt entries words node 0
near_here entries words node z word = omega arith

-- ---- all nodes

-- Nothing is said by zeros,
pub near_zeros : (entries words : List (List ℕ)) (near : List ℕ) → ((k : ℕ) → k < length near → get_or near k 0 ≡ 0) → AreNear entries words near
near_zeros entries words near zeros node inside z word = elim (cases_lt node (length near)) [
  | inl lt ↦ omega (arith, zeros node lt)
  | inr ge ↦ omega (arith, get_or-eq_default near 0 ge)
]

-- and one node after another is.
pub near_set : (entries words : List (List ℕ)) (near : List ℕ) (node n : ℕ) → AreNear entries words near → node < length near → IsNearAt entries words node n → AreNear entries words (set near node n)
near_set entries words near node n h below is other inside z word = elim (cases_order other node) [
  | inl same ↦
      let here : get_or (set near node n) other 0 ≡ n = ap (λ k. get_or (set near node n) k 0) same ∙ get_or-set_same near node n 0 below in
      let fits : n ≤ length z = is z (subst (λ k. is_word words (node_strokes entries k ++ z) ≡ true) same word) in
      omega (arith, here, fits)
  | inr (inl lt) ↦ kept (λ e. omega (arith, e))
  | inr (inr gt) ↦ kept (λ e. omega (arith, e))
]
  where
    kept : other ≢ node → get_or (set near node n) other 0 ≤ length z
    kept apart = omega (arith, get_or-set_other near node other n 0 apart, h other inside z word)
