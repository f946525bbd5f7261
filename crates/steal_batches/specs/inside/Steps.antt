-- What a thread knows after each kind of step of a deque.
use Rattle.std.specs.Prelude.{◌≡◌, ℕ, ◌+◌, ◌-◌, ◌≤◌, true, false, List, [], ◌++◌}
use Rattle.steal_batches.specs.declared.hand.Hand.{Hand}
use Rattle.steal_batches.specs.Deques.{times_in}
use Rattle.steal_batches.specs.Rules.{owner_knows, thief_knows}

-- the owner of a new deque
abbrev pub first_owner : Hand
first_owner = owner_knows 0 0 [] []

-- it is what an owner knows
abbrev pub IsOwners : Hand → Type 0
IsOwners v = v ≡ owner_knows v.made v.thieves v.offered v.taken

-- it is what a thief that is out knows
abbrev pub IsThiefs : Hand → Type 0
IsThiefs v = v ≡ thief_knows v.number v.taken

-- a thread that has no part in the deque
abbrev pub no_hand : Hand
no_hand = record first_owner { owns = false }

-- the owner, after it offered these
abbrev pub offering : Hand → List ℕ → Hand
offering v xs = record v { offered = v.offered ++ xs }

-- the owner or a thief, after it took these
abbrev pub taking : Hand → List ℕ → Hand
taking v xs = record v { taken = v.taken ++ xs }

-- the owner, after it made a thief, and that thief
abbrev pub hiring : Hand → Hand
hiring v = record v { made = v.made + 1; thieves = v.thieves + 1 }

abbrev pub hired : Hand → Hand
hired v = thief_knows v.made []

-- the owner, after a thief came back
abbrev pub taking_back : Hand → Hand → Hand
taking_back v w = record v { thieves = v.thieves - 1; taken = v.taken ++ w.taken }

-- what is taken is one of the batches that were offered: an owner has taken none more often than it had offered it
abbrev pub TellsTaken : Hand → List ℕ → Hand → Type 0
TellsTaken v xs w =
    (w ≡ taking v xs) × (v.owns ≡ true → (x : ℕ) → times_in x w.taken ≤ times_in x w.offered)
