-- Forks by the numbers of nodes.
--     fork_by entries f          the fork that the nodes stand for
--     fork_if entries f          the same, and the end where there is none
--     IsNodesFork entries f      the numbers are nodes, and the second has fewer strokes
--     IfNodesFork entries f      the same of what is there
--     targets_to ..              the targets by a stroke, given by a child of the longer node
--     open_in_part ..            the fork at a place in the part of a node
--     IsEnding ..                the node of the longer word with which two readings end
use Rattle.std.specs.Prelude.{ℕ, ◌<◌, ◌≡◌, ◌++◌, List, length, Option, Some, None, IfSome, slice_index_or, if◌then◌else◌}
use Rattle.outline_trie.specs.Tries.{IsNode, node_strokes}
use Rattle.reading_laws.specs.Forks.{Fork, Same, Differ, End, has_open_words, targets_of_same, targets_of_two}
use Rattle.reading_laws.specs.ForkNumbers.{forks_of}
use Rattle.reading_laws.specs.ChosenReadings.{final_stroke, last_strokes_by}
use Rattle.free_parse.specs.declared.fork.NodeFork.{NodeFork}

-- both readings have this open word, or this one and a shorter one
abbrev pub fork_of : List (List ℕ) → ℕ → Option ℕ → Fork
fork_of entries longer None = Same (node_strokes entries longer)
fork_of entries longer (Some shorter) = Differ (node_strokes entries longer) (node_strokes entries shorter)

abbrev pub fork_by : List (List ℕ) → NodeFork → Fork
fork_by entries f = fork_of entries f.longer f.shorter

abbrev pub fork_if : List (List ℕ) → Option NodeFork → Fork
fork_if entries None = End
fork_if entries (Some f) = fork_by entries f

pub record IsNodesFork (entries : List (List ℕ)) (f : NodeFork) : Type 0 where
  pub longer : IsNode entries f.longer
  pub shorter : IfSome f.shorter (λ q. IsNode entries q × (length (node_strokes entries q) < length (node_strokes entries f.longer)))

abbrev pub IfNodesFork : List (List ℕ) → Option NodeFork → Type 0
IfNodesFork entries None = Unit {0}
IfNodesFork entries (Some f) = IsNodesFork entries f

-- the targets of a fork by the last stroke of a child of its longer node
abbrev pub targets_to : List (List ℕ) → List (List ℕ) → Option ℕ → ℕ → List Fork
targets_to entries words None child = targets_of_same words (node_strokes entries child)
targets_to entries words (Some shorter) child = targets_of_two words (node_strokes entries child) (node_strokes entries shorter ++ final_stroke (node_strokes entries child))

-- the fork at a place in the part of a node, or the end where its open words can't be open
abbrev pub open_in_part : List (List ℕ) → List (List ℕ) → ℕ → ℕ → Fork
open_in_part entries words node place =
    let s = slice_index_or (forks_of (node_strokes entries node)) place End in
    if has_open_words words s then s else End

-- the child is the longer open word with the least stroke by which both open words are words
pub record IsEnding (entries words : List (List ℕ)) (longer shorter child : ℕ) : Type 0 where
  pub node : IsNode entries child
  pub some : 0 < length (node_strokes entries child)
  pub strokes : node_strokes entries child ≡ node_strokes entries longer ++ final_stroke (node_strokes entries child)
  pub least : last_strokes_by words (fork_of entries longer (Some shorter)) ≡ final_stroke (node_strokes entries child)
