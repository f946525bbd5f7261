-- Where two readings of the same strokes are after some of them. The walks of forks to the end are how two readings are found.
use Rattle.std.specs.Prelude.{ℕ, zero, suc, ◌≤◌, ◌≡◌, Bool, true, ◌&&◌, List, [], ◌∷◌, ◌++◌, if◌then◌else◌, flat_map, Contains}
use Rattle.steno_rules.specs.Outlines.{is_word}
use Rattle.steno_rules.specs.States.{is_open, strokes_in}

-- both readings are the same so far and have the open word p; or they have differed and have the open words p and q, of
-- which q is the shorter; or they have differed and both have ended a word
pub data Fork : Type 0 where
  Same : List ℕ → Fork
  Differ : List ℕ → List ℕ → Fork
  End : Fork

-- the targets of a fork of one open word by a stroke, in their order: w is the open word with the stroke
abbrev pub targets_of_same : List (List ℕ) → List ℕ → List Fork
targets_of_same words w =
    (if is_open words w then (Same w ∷ []) else [])
    ++ ((if is_word words w then (Same [] ∷ []) else [])
    ++ (if is_open words w && is_word words w then (Differ w [] ∷ []) else []))

-- the targets of a fork of two open words by a stroke, in their order: v and w are the open words with the stroke
abbrev pub targets_of_two : List (List ℕ) → List ℕ → List ℕ → List Fork
targets_of_two words v w =
    (if is_open words v && is_open words w then (Differ v w ∷ []) else [])
    ++ ((if is_open words v && is_word words w then (Differ v [] ∷ []) else [])
    ++ ((if is_open words w && is_word words v then (Differ w [] ∷ []) else [])
    ++ (if is_word words v && is_word words w then (End ∷ []) else [])))

-- the targets of a fork by a stroke; the end has none
abbrev pub fork_targets_by : List (List ℕ) → Fork → ℕ → List Fork
fork_targets_by words (Same p) c = targets_of_same words (p ++ c ∷ [])
fork_targets_by words (Differ p q) c = targets_of_two words (p ++ c ∷ []) (q ++ c ∷ [])
fork_targets_by words End c = []

-- a walk of n moves leads from the start, where nothing is open, to the fork
abbrev pub ForkWalk : List (List ℕ) → ℕ → Fork → Type 0
ForkWalk words zero t = t ≡ Same []
ForkWalk words (suc n) t = (s : Fork) × ForkWalk words n s × ((c : ℕ) × Contains (fork_targets_by words s c) t)

-- a walk of n moves leads to the end, and none of fewer
pub record IsLeastEnd (words : List (List ℕ)) (n : ℕ) : Type 0 where
  pub walk : ForkWalk words n End
  pub least : (k : ℕ) → ForkWalk words k End → n ≤ k

-- the fork's open words can be open
abbrev pub has_open_words : List (List ℕ) → Fork → Bool
has_open_words words (Same p) = is_open words p
has_open_words words (Differ p q) = is_open words p && is_open words q
has_open_words words End = true

-- all targets of a fork, by rising stroke; what has no open words has none
abbrev pub fork_targets : List (List ℕ) → Fork → List Fork
fork_targets words s = if has_open_words words s then (flat_map (fork_targets_by words s) (strokes_in words)) else []
