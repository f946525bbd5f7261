-- How near words are below nodes: no nearer than these numbers say.
use Rattle.std.specs.Prelude.{ℕ, ◌≤◌, ◌≡◌, true, List, ◌++◌, length, get_or}
use Rattle.steno_rules.specs.Outlines.{is_word}
use Rattle.outline_trie.specs.Tries.{IsNode, node_strokes}

-- no fewer strokes lead from the node to a word
abbrev pub IsNearAt : List (List ℕ) → List (List ℕ) → ℕ → ℕ → Type 0
IsNearAt entries words node n = (z : List ℕ) → is_word words (node_strokes entries node ++ z) ≡ true → n ≤ length z

abbrev pub AreNear : List (List ℕ) → List (List ℕ) → List ℕ → Type 0
AreNear entries words near = (node : ℕ) → IsNode entries node → IsNearAt entries words node (get_or near node 0)
