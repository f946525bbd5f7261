-- Which limit is passed where briefs are tried.
--     brief_limit entries brief          the limit that a brief's trial stack passes first, with its count
--     trial_limit entries briefs         that of the first brief which passes one
--     IsTrialCause entries briefs fault  the fault is that limit, or memory ran out
use Rattle.std.specs.Prelude.{ℕ, ◌≡◌, List, [], ◌∷◌, length, nat_lt, if◌then◌else◌, Option, Some, None, ⊤}
use Rattle.steno_rules.specs.Nodes.{nodes}
use Rattle.steno_rules.specs.StateNumbers.{number_count}
use Rattle.dict_stack.specs.Stacks.{most_entries}
use Rattle.outline_trie.specs.Tries.{most_nodes}
use Rattle.state_numbering.specs.Causes.{most_states}
use Rattle.brief_trial.specs.Trials.{with_brief}
use Rattle.brief_trial.specs.declared.faults.TrialFault.{TrialFault}
use Rattle.brief_trial.specs.declared.faults.TrialFault.TheVariants.{Entries, Nodes, States, Memory}

-- a count that is over a limit, or what comes later
abbrev pub over_or : ℕ → (ℕ → TrialFault) → ℕ → Option TrialFault → Option TrialFault
over_or most limit count later = if nat_lt most count then Some (limit count) else later

-- the first limit that a search of these entries passes: of their nodes, of the states
abbrev pub searched_limit : List (List ℕ) → Option TrialFault
searched_limit entries =
    over_or most_nodes Nodes (length (nodes entries))
    (over_or most_states States (number_count entries) None)

-- the first limit that the trial stack of a brief passes: of its entries, or of their search
abbrev pub brief_limit : List (List ℕ) → List ℕ → Option TrialFault
brief_limit entries brief =
    over_or most_entries Entries (length (with_brief entries brief))
    (searched_limit (with_brief entries brief))

-- the first of two limits, if one is passed
abbrev pub first_limit : Option TrialFault → Option TrialFault → Option TrialFault
first_limit (Some limit) later = Some limit
first_limit None later = later

-- the limit of the first brief that passes one
abbrev pub trial_limit : List (List ℕ) → List (List ℕ) → Option TrialFault
trial_limit entries [] = None
trial_limit entries (brief ∷ others) = first_limit (brief_limit entries brief) (trial_limit entries others)

-- the fault is this limit; memory may run out at any time
abbrev pub IsLimitOf : Option TrialFault → TrialFault → Type 0
IsLimitOf limit Memory = ⊤
IsLimitOf limit (Entries count) = limit ≡ Some (Entries count)
IsLimitOf limit (Nodes count) = limit ≡ Some (Nodes count)
IsLimitOf limit (States count) = limit ≡ Some (States count)

abbrev pub IsTrialCause : List (List ℕ) → List (List ℕ) → TrialFault → Type 0
IsTrialCause entries briefs fault = IsLimitOf (trial_limit entries briefs) fault
