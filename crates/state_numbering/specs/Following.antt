-- Where the last stroke of a state leads from a node.
--     followed entries node s     the node of the node's strokes and the last stroke of the state, if it is one
use Rattle.std.specs.Prelude.{ℕ, List, ◌++◌, Option}
use Rattle.steno_rules.specs.Outlines.{entry_number}
use Rattle.steno_rules.specs.Nodes.{nodes}
use Rattle.closure_laws.specs.Examples.{last_stroke}
use Rattle.outline_trie.specs.Tries.{node_strokes}
use Rattle.closure_state.specs.declared.state.State.{State}
use Rattle.closure_state.specs.NodeStates.{state_at}

abbrev pub followed : List (List ℕ) → ℕ → State → Option ℕ
followed entries node s = entry_number (nodes entries) (node_strokes entries node ++ last_stroke (state_at entries s))
