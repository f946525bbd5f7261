-- The forks as a graph of numbers. Each node has a part of the numbers, for the forks of which it is the longer open word;
-- the part of a node follows those of the nodes before it, and the end has the last number.
use Rattle.std.specs.Prelude.{ℕ, ◌+◌, List, [], ◌∷◌, ◌++◌, length, take, map, flat_map, sum_by, slice_index_or}
use Rattle.std.specs.List.{range_with_len}
use Rattle.steno_rules.specs.Nodes.{nodes}
use Rattle.steno_rules.specs.StateNumbers.{place_of, last_strokes}
use Rattle.reading_laws.specs.Forks.{Fork, Same, Differ, End, fork_targets}

-- the forks of a node: it is open in both readings, or it and one of its shorter ends are open, the shortest end first
abbrev pub forks_of : List ℕ → List Fork
forks_of z = Same z ∷ map (λ k. Differ z (last_strokes k z)) (range_with_len 0 (length z))

-- the forks of all nodes, and the end: a fork's number is its place
abbrev pub all_forks : List (List ℕ) → List Fork
all_forks entries = flat_map forks_of (nodes entries) ++ End ∷ []

-- the fork of a number
abbrev pub fork_at : List (List ℕ) → ℕ → Fork
fork_at entries n = slice_index_or (all_forks entries) n End

-- how many numbers the first k of these nodes have
abbrev pub fork_start : List (List ℕ) → ℕ → ℕ
fork_start ns k = sum_by (λ z. length z + 1) (take k ns)

-- the number of the end, and how many numbers there are
abbrev pub end_number : List (List ℕ) → ℕ
end_number entries = fork_start (nodes entries) (length (nodes entries))

abbrev pub fork_count : List (List ℕ) → ℕ
fork_count entries = end_number entries + 1

-- the number of a fork: in the part of p, 0 where p alone is open, or 1 and the length of q
abbrev pub fork_number : List (List ℕ) → Fork → ℕ
fork_number entries (Same p) = fork_start (nodes entries) (place_of (nodes entries) p)
fork_number entries (Differ p q) = fork_start (nodes entries) (place_of (nodes entries) p) + (length q + 1)
fork_number entries End = end_number entries

-- the graph: for each number, the numbers of its fork's targets
abbrev pub fork_lists : List (List ℕ) → List (List ℕ) → List (List ℕ)
fork_lists entries words = map (λ s. map (fork_number entries) (fork_targets words s)) (all_forks entries)
