-- The parts of the nodes as two lists.
use Rattle.std.specs.Prelude.{ℕ, ◌+◌, ◌≡◌, ◌≤◌, List, length, map, flat_map, replicate}
use Rattle.std.specs.List.{range_with_len}
use Rattle.steno_rules.specs.Nodes.{nodes}
use Rattle.outline_trie.specs.Tries.{IsNode, node_strokes}
use Rattle.reading_laws.specs.ForkNumbers.{fork_start}

-- the first numbers of the first k nodes
abbrev pub starts_to : List (List ℕ) → ℕ → List ℕ
starts_to entries k = map (fork_start (nodes entries)) (range_with_len 0 k)

-- the first k nodes, each as often as it has numbers
abbrev pub owners_to : List (List ℕ) → ℕ → List ℕ
owners_to entries k = flat_map (λ node. replicate (length (node_strokes entries node) + 1) node) (range_with_len 0 k)

-- the lists have the first number of each node, and the node of each number
pub record AreForkParts (entries : List (List ℕ)) (starts owners : List ℕ) : Type 0 where
  pub starts_are : starts ≡ starts_to entries (length (nodes entries))
  pub owners_are : owners ≡ owners_to entries (length (nodes entries))

-- the number lies in the part of the node
pub record IsOwner (entries : List (List ℕ)) (number node : ℕ) : Type 0 where
  pub node_is : IsNode entries node
  pub from : fork_start (nodes entries) node ≤ number
  pub to : number ≤ fork_start (nodes entries) node + length (node_strokes entries node)
