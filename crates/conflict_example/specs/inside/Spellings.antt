-- The words of a walk, rebuilt from its states.
--     numbered_state entries words number    the state of a number, or fresh
--     numbers_among entries outlines        the numbers of those outlines that are entries
--     node_of entries x                     the node that x is, if it is one
--     IsSpelling ..                         some states of a walk back are left, and the others are spelt
use Rattle.std.specs.Prelude.{ℕ, ◌≡◌, ◌++◌, List, [], ◌∷◌, length, map, nat_eq, Option, Some, None, if◌then◌else◌}
use Rattle.steno_rules.specs.Outlines.{entry_number}
use Rattle.steno_rules.specs.Nodes.{nodes}
use Rattle.steno_rules.specs.StateNumbers.{state_of_number}
use Rattle.steno_rules.specs.States.{State}
use Rattle.closure_laws.specs.Examples.{last_stroke, open_after, or_fresh, words_after}

-- the state of a number, or fresh where none has it
abbrev pub numbered_state : List (List ℕ) → List (List ℕ) → ℕ → State
numbered_state entries words number = or_fresh (state_of_number entries words number)

-- what is there, as a list
abbrev pub if_there : Option ℕ → List ℕ
if_there None = []
if_there (Some n) = n ∷ []

abbrev pub numbers_among : List (List ℕ) → List (List ℕ) → List ℕ
numbers_among entries [] = []
numbers_among entries (x ∷ xs) = if_there (entry_number entries x) ++ numbers_among entries xs

-- the number of the node that these strokes are, if they are one
abbrev pub node_of : List (List ℕ) → List ℕ → Option ℕ
node_of entries x = entry_number (nodes entries) x

-- of the numbers of a walk back these are left on the path, and of the others these words are made and the strokes of
-- the open word are this node
pub record IsSpelling (entries words : List (List ℕ)) (trail path : List ℕ) (open_node : Option ℕ)
    (made : List ℕ) : Type 0 where
  pub done : List ℕ
  pub split : path ++ done ≡ trail
  pub open_is : open_node ≡ node_of entries (open_after (map (numbered_state entries words) done))
  pub made_is : made ≡ numbers_among entries (words_after (map (numbered_state entries words) done))

-- the strokes that are open after a state, where these were open before it
abbrev pub opened : State → List ℕ → List ℕ
opened s strokes = if nat_eq (length s.v) 0 then [] else (strokes ++ last_stroke s)

-- the words made after a state
abbrev pub made_after : List (List ℕ) → State → List ℕ → List ℕ → List ℕ
made_after entries s strokes made =
    if nat_eq (length s.v) 0 then (made ++ if_there (entry_number entries (strokes ++ last_stroke s))) else made
