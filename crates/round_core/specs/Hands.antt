-- What the code of the round machine holds, and the machine that it stands for.
use Rattle.std.specs.Prelude.{◌≡◌, ℕ, ◌<◌, Bool, List, [], ◌∷◌, ◌++◌, map, take, drop, Option, Some, None, slice_get}
use Rattle.round_core.specs.declared.event.Event.{Event}
use Rattle.round_core.specs.declared.hand.Hand.{Hand}
use Rattle.round_core.specs.Rounds.{Has}
use Rattle.round_core.specs.Machines.{Move, Machine, moves_from, moves_in, after_event, run, opening}

-- a machine with its graph, as callers see it
pub record RoundView : Type 0 where
  pub origin : ℕ
  pub lists : List (List ℕ)
  pub now : Machine

-- the machine after_event the event
abbrev pub stepped : RoundView → Event → RoundView
stepped v e = record { origin = v.origin; lists = v.lists; now = after_event v.lists v.now e }

-- some schedule leads to this machine
abbrev pub IsReached : ℕ → List (List ℕ) → Machine → Type 0
IsReached origin lists m = (workers : ℕ) × (events : List Event) × (m ≡ run lists (opening origin lists workers) events)

-- each number of the list is less than n
abbrev pub AreBelow : ℕ → List ℕ → Type 0
AreBelow n xs = (s : ℕ) → Has xs s → s < n

-- the moves of a batch in hand: what is left in the cursor, and all of the numbers that follow
abbrev pub hand_moves : {C : Type 0} → (C → List ℕ) → List (List ℕ) → List ℕ → Hand C → List Move
hand_moves left lists front h = moves_from h.state (left h.cursor) ++ moves_in lists (take h.more (drop h.at front))

abbrev pub hand_view : {C : Type 0} → (C → List ℕ) → List (List ℕ) → List ℕ → Option (Hand C) → Option (List Move)
hand_view left lists front None = None
hand_view left lists front (Some h) = Some (hand_moves left lists front h)

abbrev pub machine_of : {C : Type 0} → (C → List ℕ) → List (List ℕ) → List ℕ → List ℕ → ℕ → Bool → List ℕ → ℕ → List Bool → List (Option (Hand C)) → Machine
machine_of left lists words front closed begun noted size untaken hands = record {
  words = words;
  front = front;
  closed = closed;
  begun = begun;
  noted = noted;
  size = size;
  untaken = untaken;
  hands = map (hand_view left lists front) hands;
}

-- the cursor in the hand, if any, is the graph's
abbrev pub OwnsHand : {C : Type 0} → (C → Type 0) → Option (Hand C) → Type 0
OwnsHand owns None = Unit {0}
OwnsHand owns (Some h) = owns h.cursor

abbrev pub Owned : {C : Type 0} → (C → Type 0) → List (Option (Hand C)) → Type 0
Owned {C} owns hands = (w : ℕ) (h : Hand C) → slice_get hands w ≡ Some (Some h) → owns h.cursor

-- the moves that are held
abbrev pub moves_held : Option (List Move) → List Move
moves_held None = []
moves_held (Some moves) = moves

-- the first of the moves that were held goes from source to target, and the others are still held
abbrev pub NextMove : Option (List Move) → Option (List Move) → ℕ → ℕ → Type 0
NextMove before after_event source target = (rest : List Move) × (before ≡ Some (record { source = source; target = target } ∷ rest)) × (after_event ≡ Some rest)
