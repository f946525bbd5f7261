-- The laws of the chain of shorter ends, which those cite who look for the children of all ends at once.
use Rattle.std.proofs.Common.{◌≡◌, ℕ, ◌+◌, ◌<◌, ◌≤◌, List, [], ◌∷◌, ◌++◌, length, sym, ap, ◌∙◌, arith, Some, None}
use Rattle.std.proofs.lemmas.List.{length_push}
use Rattle.outline_trie.specs.Tries.{node_strokes, child_of}
use Rattle.outline_trie.proofs.LookLemmas.{root_is}
use Rattle.match_window.specs.Ends.{IsEndOf, next_window}
use Rattle.match_window.specs.inside.Rows.{IsNodeOf}
use Rattle.match_window.proofs.EndLemmas.{end_shorter, window_short}
use Rattle.match_window.proofs.RowLemmas.{node_some, next_found, next_end, next_none}

module _ (entries : List (List ℕ)) where
  -- A child is the window,
  pub chain_child : (node code child : ℕ) → child_of entries node code ≡ Some child → IsNodeOf entries (next_window entries (node_strokes entries node) code) child
  chain_child node code child found = next_found entries node code child found

  -- where there is none, the shorter end has the same window,
  pub chain_shorter : (node end code : ℕ) → IsEndOf entries node end → child_of entries node code ≡ None →
      next_window entries (node_strokes entries node) code ≡ next_window entries (node_strokes entries end) code
  chain_shorter node end code e none = (next_end entries node code end e.node_inside e.some none (record { inside = e.inside; is = e.is })).same

  -- and at the root the empty one.
  pub chain_root : (code : ℕ) → child_of entries 0 code ≡ None → next_window entries [] code ≡ []
  chain_root code none = ap (λ x. next_window entries x code) (sym (root_is entries)) ∙ sym ((next_none entries code none).is) ∙ root_is entries

  -- The ends get shorter,
  pub chain_falls : (node end : ℕ) → IsEndOf entries node end → length (node_strokes entries end) < length (node_strokes entries node)
  chain_falls node end e = omega (arith, ap length e.is, end_shorter entries (node_strokes entries node) (node_some entries node e.node_inside e.some))

  -- and a window grows by at most the stroke.
  pub chain_short : (x : List ℕ) (code : ℕ) → length (next_window entries x code) ≤ length x + 1
  chain_short x code = omega (arith, window_short entries (x ++ code ∷ []), length_push x code)
