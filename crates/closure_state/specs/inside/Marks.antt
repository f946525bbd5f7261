-- Marks of states by the numbers of their nodes.
use Rattle.std.specs.Prelude.{ℕ, ◌<◌, ◌≤◌, List, length}
use Rattle.outline_trie.specs.Tries.{node_strokes}
use Rattle.closure_state.specs.declared.state.State.{State}

-- the mark lies in the window and not inside the open word
abbrev pub IsMarkOf : List (List ℕ) → State → ℕ → Type 0
IsMarkOf entries s m = (length (node_strokes entries s.word) ≤ m) × (m < length (node_strokes entries s.window))
