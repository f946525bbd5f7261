-- A trie as its callers see it: the list of the entries that it was made of. Its nodes are `nodes entries`, and a node's number is its place.
--     IsNode entries node           a number of a node
--     node_strokes entries node       the strokes of a node
--     child_of entries node code    the node of a node's strokes and one more
--     AreChildren entries node row  the row has each child of the node with its stroke, by rising codes
--     suffix_of entries node len    the node of the last `len` strokes of a node
--     IsParent entries node parent  the parent has the node's strokes without the last
--     IsLast entries node code      the last stroke of a node
--     longest_of entries            the most strokes of an entry
--     most_nodes                    the most nodes of a trie
use Rattle.std.specs.Prelude.{ℕ, ◌≡◌, ◌-◌, ◌<◌, ◌↔◌, ◌++◌, ◌∷◌, [], nat_le, max, map, fold, take, drop, length, List, AllPairs, Contains, Option, Some, None, if◌then◌else◌}
use Rattle.steno_rules.specs.Outlines.{outline_of, entry_number}
use Rattle.steno_rules.specs.Nodes.{nodes}

-- the most nodes of a trie
abbrev pub most_nodes : ℕ
most_nodes = 4194304

abbrev pub IsNode : List (List ℕ) → ℕ → Type 0
IsNode entries node = node < length (nodes entries)

abbrev pub node_strokes : List (List ℕ) → ℕ → List ℕ
node_strokes entries node = outline_of (nodes entries) node

abbrev pub child_of : List (List ℕ) → ℕ → ℕ → Option ℕ
child_of entries node code = entry_number (nodes entries) (node_strokes entries node ++ code ∷ [])

pub record AreChildren (entries : List (List ℕ)) (node : ℕ) (row : List (ℕ × ℕ)) : Type 0 where
  pub rising : AllPairs (λ a b. a.0 < b.0) row
  pub each : (code child : ℕ) → Contains row (code, child) ↔ (child_of entries node code ≡ Some child)

abbrev pub suffix_of : List (List ℕ) → ℕ → ℕ → Option ℕ
suffix_of entries node len =
    if nat_le len (length (node_strokes entries node)) then (entry_number (nodes entries) (drop (length (node_strokes entries node) - len) (node_strokes entries node))) else None

pub record IsParent (entries : List (List ℕ)) (node parent : ℕ) : Type 0 where
  pub before : parent < node
  pub front : node_strokes entries parent ≡ take (length (node_strokes entries node) - 1) (node_strokes entries node)

abbrev pub IsLast : List (List ℕ) → ℕ → ℕ → Type 0
IsLast entries node code = node_strokes entries node ≡ take (length (node_strokes entries node) - 1) (node_strokes entries node) ++ code ∷ []

abbrev pub longest_of : List (List ℕ) → ℕ
longest_of entries = fold max 0 (map length entries)
