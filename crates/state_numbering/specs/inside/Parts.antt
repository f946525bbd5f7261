-- The parts of the nodes.
--     IsNodePart entries node part       the node's part begins where those of the nodes before it end
--     ArePartsBelow entries n parts      the first n nodes have their parts
--     IsInPart entries number node       the number lies in the node's part
use Rattle.std.specs.Prelude.{ℕ, List, ◌≡◌, ◌<◌, ◌≤◌, ◌+◌, length, get_or}
use Rattle.steno_rules.specs.Nodes.{nodes}
use Rattle.steno_rules.specs.StateNumbers.{part_start, part_size}
use Rattle.outline_trie.specs.Tries.{IsNode, node_strokes}
use Rattle.state_numbering.specs.declared.part.Part.{Part}

pub record IsNodePart (entries : List (List ℕ)) (node : ℕ) (part : Part) : Type 0 where
  pub start : part.start ≡ part_start (nodes entries) node
  pub depth : part.depth ≡ length (node_strokes entries node)
  pub short : part.depth ≤ 64

pub record ArePartsBelow (entries : List (List ℕ)) (n : ℕ) (parts : List Part) : Type 0 where
  pub long : length parts ≡ n
  pub each : (node : ℕ) (d : Part) → node < n → IsNodePart entries node (get_or parts node d)

abbrev pub AreNodeParts : List (List ℕ) → List Part → Type 0
AreNodeParts entries parts = ArePartsBelow entries (length (nodes entries)) parts

pub record IsInPart (entries : List (List ℕ)) (number node : ℕ) : Type 0 where
  pub inside : IsNode entries node
  pub from : part_start (nodes entries) node ≤ number
  pub before : number < part_start (nodes entries) node + part_size (length (node_strokes entries node))
