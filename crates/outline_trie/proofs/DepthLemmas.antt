-- No node has more strokes than the longest entry.
use Rattle.std.proofs.Common.{◌≡◌, ℕ, ◌≤◌, List, [], ◌∷◌, length, map, fold, max, ap, arith, true, Contains, inl, inr, length-take}
use Rattle.std.proofs.lemmas.List.{get_or_default}
use Rattle.steno_rules.specs.Windows.{is_prefix}
use Rattle.steno_rules.specs.Nodes.{nodes}
use Rattle.steno_rules.proofs.Lists.{in_cons}
use Rattle.steno_rules.proofs.Prefixes.{is_prefix-found}
use Rattle.steno_rules.proofs.NodeLemmas.{nodes-Contains}
use Rattle.outline_trie.specs.Tries.{IsNode, node_strokes, longest_of}

-- the greatest of a and some lengths is at least a
from_start : (entries : List (List ℕ)) (a : ℕ) → a ≤ fold max a (map length entries)
from_start [] a = omega arith
from_start (e ∷ entries) a = omega (arith, from_start entries (max a (length e)))

-- and at least each of the lengths
covers : (entries : List (List ℕ)) (a : ℕ) (e : List ℕ) → Contains entries e → length e ≤ fold max a (map length entries)
covers [] a e has = absurd (omega arith)
covers (f ∷ entries) a e has = elim (in_cons f entries e has) [
  | inl same ↦ omega (arith, ap length same, from_start entries (max a (length f)))
  | inr later ↦ covers entries (max a (length f)) e later
]

-- What begins an entry has no more strokes than the longest entry.
pub prefix_short : (entries : List (List ℕ)) (x : List ℕ) → is_prefix entries x ≡ true → length x ≤ longest_of entries
prefix_short entries x begins = elim (is_prefix-found entries x begins) [
  | inl none ↦ omega (arith, ap length none)
  | inr found ↦ omega (arith, covers entries 0 found.0 found.1, ap length found.2, length-take (length x) found.0)
]

-- So has a node.
pub node_short : (entries : List (List ℕ)) (node : ℕ) → IsNode entries node → length (node_strokes entries node) ≤ longest_of entries
node_short entries node inside =
    prefix_short entries (node_strokes entries node) ((nodes-Contains entries (node_strokes entries node)).0 (node, inside, get_or_default (nodes entries) node (node_strokes entries node) [] inside))
