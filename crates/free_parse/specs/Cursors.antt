-- The targets of a number as a cursor of the graph.
use Rattle.std.specs.Prelude.{ℕ, ◌+◌, ◌<◌, ◌++◌, List, length, map, flat_map, Option, Some, None}
use Rattle.std.specs.List.{AllByRecursion}
use Rattle.outline_trie.specs.Tries.{IsNode, node_strokes}
use Rattle.reading_laws.specs.ForkNumbers.{fork_count, fork_number}
use Rattle.free_parse.specs.declared.moves.ForkMoves.{ForkMoves}
use Rattle.free_parse.specs.FreeGraphs.{FreeGraphView}
use Rattle.free_parse.specs.inside.Forks.{targets_to}
use Rattle.free_parse.specs.inside.Waits.{waits_for}

-- the numbers of the targets by the strokes to these children
abbrev pub numbers_to : FreeGraphView → Option ℕ → List (ℕ × ℕ) → List ℕ
numbers_to g shorter row = flat_map (λ (pair : ℕ × ℕ). map (fork_number g.entries) (targets_to g.entries g.words shorter pair.1)) row

-- the numbers of the targets that are left: those that wait, and those by the children that are left
abbrev pub targets_left : FreeGraphView → ForkMoves → List ℕ
targets_left g c = waits_for c.waiting ++ numbers_to g c.shorter c.row.now

-- the child is a node, and the shorter open word with one stroke more is shorter
abbrev pub IsChildOf : List (List ℕ) → Option ℕ → ℕ → Type 0
IsChildOf entries None child = IsNode entries child
IsChildOf entries (Some q) child = IsNode entries child × IsNode entries q × (length (node_strokes entries q) + 1 < length (node_strokes entries child))

-- each of these numbers is below a bound
abbrev pub AreForkNumbers : ℕ → List ℕ → Type 0
AreForkNumbers bound ts = AllByRecursion (λ t. t < bound) ts

-- the children are nodes of this graph, and the numbers that wait are below its count
pub record OwnsTargets (g : FreeGraphView) (c : ForkMoves) : Type 0 where
  pub children : AllByRecursion (λ (pair : ℕ × ℕ). IsChildOf g.entries c.shorter pair.1) c.row.now
  pub below : AreForkNumbers (fork_count g.entries) (waits_for c.waiting)
