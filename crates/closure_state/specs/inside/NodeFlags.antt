-- The flags of nodes.
--     flags_at flags node                      the flags that are kept for a node
--     AreFlags entries words node flags        they are those of the node
--     GoesOn flags                             the node is a word or opens one
--     HasGoing flags row                       a child of the row is a word or opens one
--     AreFlagsBehind entries words node flags  the flags of all later nodes are right
use Rattle.std.specs.Prelude.{ℕ, List, ◌≡◌, ◌<◌, ◌⊎◌, true, false, Contains, slice_index_or}
use Rattle.steno_rules.specs.Outlines.{is_word}
use Rattle.steno_rules.specs.States.{is_open}
use Rattle.outline_trie.specs.Tries.{IsNode, node_strokes}
use Rattle.closure_state.specs.declared.word_set.Flags.{Flags}

abbrev pub flags_at : List Flags → ℕ → Flags
flags_at flags node = slice_index_or flags node (record { is_word = false; opens = false })

pub record AreFlags (entries words : List (List ℕ)) (node : ℕ) (flags : Flags) : Type 0 where
  pub word : flags.is_word ≡ is_word words (node_strokes entries node)
  pub opens : flags.opens ≡ is_open words (node_strokes entries node)

abbrev pub GoesOn : Flags → Type 0
GoesOn flags = (flags.is_word ≡ true) ⊎ (flags.opens ≡ true)

abbrev pub HasGoing : List Flags → List (ℕ × ℕ) → Type 0
HasGoing flags row = (pair : ℕ × ℕ) × Contains row pair × GoesOn (flags_at flags pair.1)

abbrev pub AreFlagsBehind : List (List ℕ) → List (List ℕ) → ℕ → List Flags → Type 0
AreFlagsBehind entries words node flags = (k : ℕ) → node < k → IsNode entries k → AreFlags entries words k (flags_at flags k)
