-- The round machine: what it holds, its events, when each is enabled and what it does. Its workers take the frontier of a
-- round in batches, in any order, and make the moves of their batches one by one, each whenever it likes.
use Rattle.std.specs.Prelude.{ℕ, ◌+◌, ◌-◌, ◌*◌, ◌/◌, ◌<◌, ◌≤◌, ◌==◌, ◌&&◌, Bool, true, false, not, cond, nat_lt, min, List, [], ◌∷◌, ◌++◌, length, take, drop, replicate, Option, Some, None, slice_get, slice_index, slice_index_or, slice_set}
use Rattle.graph_rules.specs.Graphs.{row, HasTarget, moved, unreached, most_numbers}
use Rattle.round_core.specs.declared.event.Event.{Event}
use Rattle.round_core.specs.declared.event.Event.TheVariants.{Begin, Take, Relax, Close}
use Rattle.round_core.specs.Rounds.{IsBetween, IsFrontier, AreRisingNumbers}

-- one move of a walk
pub record Move : Type 0 where
  pub source : ℕ
  pub target : ℕ

pub record Machine : Type 0 where
  pub words : List ℕ
  pub front : List ℕ
  -- how many rounds are closed, which is the distance of the frontier
  pub closed : ℕ
  pub begun : Bool
  pub noted : List ℕ
  -- how many states a batch of the round has
  pub size : ℕ
  -- of each batch of the round whether nobody took it
  pub untaken : List Bool
  -- what each worker holds: nothing, or the moves of a batch that are left
  pub hands : List (Option (List Move))

-- ---- batches, which are cut from the frontier in its order; the last may be shorter

abbrev pub batch_of : List ℕ → ℕ → ℕ → List ℕ
batch_of front size batch = take size (drop (batch * size) front)

abbrev pub batch_count : ℕ → ℕ → ℕ
batch_count states size = (states + (size - 1)) / size

abbrev pub moves_from : ℕ → List ℕ → List Move
moves_from s [] = []
moves_from s (t ∷ ts) = record { source = s; target = t } ∷ moves_from s ts

-- the moves of these states in order, each state's list in order
abbrev pub moves_in : List (List ℕ) → List ℕ → List Move
moves_in lists [] = []
moves_in lists (s ∷ ss) = moves_from s (row lists s) ++ moves_in lists ss

-- ---- when an event is enabled

abbrev pub is_empty : List ℕ → Bool
is_empty [] = true
is_empty (x ∷ xs) = false

-- there is such a worker, and it holds nothing
abbrev pub is_free : {A : Type 0} → Option (Option A) → Bool
is_free None = false
is_free (Some None) = true
is_free (Some (Some held)) = false

-- there is such a worker, and it holds a batch
abbrev pub is_busy : {A : Type 0} → Option (Option A) → Bool
is_busy None = false
is_busy (Some None) = false
is_busy (Some (Some held)) = true

abbrev pub none_untaken : List Bool → Bool
none_untaken [] = true
none_untaken (flag ∷ flags) = not flag && none_untaken flags

abbrev pub all_free : {A : Type 0} → List (Option A) → Bool
all_free [] = true
all_free (hand ∷ hands) = is_free (Some hand) && all_free hands

abbrev pub is_enabled : Machine → Event → Bool
is_enabled m (Begin size) = not m.begun && (not (is_empty m.front) && nat_lt 0 size)
is_enabled m (Take worker batch) = is_free (slice_get m.hands worker) && slice_index_or m.untaken batch false
is_enabled m (Relax worker) = is_busy (slice_get m.hands worker)
is_enabled m Close = m.begun && (none_untaken m.untaken && all_free m.hands)

-- ---- what an enabled event does

-- the settled words where a walk to t was found whose settled word is w: the lesser of the two settled words stays
abbrev pub lowered : List ℕ → ℕ → ℕ → List ℕ
lowered words t w = slice_set words t (min (slice_index words t) w)

-- t is noted where nothing was found of it before
abbrev pub noted_with : List ℕ → ℕ → ℕ → List ℕ
noted_with noted t w = cond (w == unreached) (noted ++ t ∷ []) noted

abbrev pub put : ℕ → List ℕ → List ℕ
put x [] = x ∷ []
put x (y ∷ ys) = cond (nat_lt y x) (y ∷ put x ys) (x ∷ y ∷ ys)

-- the same numbers in rising order
abbrev pub sorted : List ℕ → List ℕ
sorted [] = []
sorted (x ∷ xs) = put x (sorted xs)

-- the worker makes the first move that is left, or lets the batch go where none is
abbrev pub relaxes : Machine → ℕ → Option (Option (List Move)) → Machine
relaxes m worker None = m
relaxes m worker (Some None) = m
relaxes m worker (Some (Some [])) = record m { hands = slice_set m.hands worker None }
relaxes m worker (Some (Some (move ∷ moves))) = record m {
  words = lowered m.words move.target (moved m.closed move.source);
  noted = noted_with m.noted move.target (slice_index m.words move.target);
  hands = slice_set m.hands worker (Some moves);
}

abbrev pub does : List (List ℕ) → Machine → Event → Machine
does lists m (Begin size) = record m { begun = true; size = size; untaken = replicate (batch_count (length m.front) size) true }
does lists m (Take worker batch) = record m { untaken = slice_set m.untaken batch false; hands = slice_set m.hands worker (Some (moves_in lists (batch_of m.front m.size batch))) }
does lists m (Relax worker) = relaxes m worker (slice_get m.hands worker)
does lists m Close = record m { front = sorted m.noted; closed = m.closed + 1; begun = false; noted = [] }

-- an event that isn't enabled changes nothing
abbrev pub after_event : List (List ℕ) → Machine → Event → Machine
after_event lists m e = cond (is_enabled m e) (does lists m e) m

-- ---- schedules

abbrev pub run : List (List ℕ) → Machine → List Event → Machine
run lists m [] = m
run lists m (e ∷ es) = run lists (after_event lists m e) es

-- the start alone is found, and it is the frontier
abbrev pub opening : ℕ → List (List ℕ) → ℕ → Machine
opening origin lists workers = record {
  words = slice_set (replicate (length lists) unreached) origin 0;
  front = origin ∷ [];
  closed = 0;
  begun = false;
  noted = [];
  size = 0;
  untaken = [];
  hands = replicate workers None;
}

-- what a `StepGraph` promises: there are at most `most_numbers` numbers, and the start and all targets are among them
pub record IsGraph (origin : ℕ) (lists : List (List ℕ)) : Type 0 where
  pub few : length lists ≤ most_numbers
  pub start : origin < length lists
  pub targets : (s t : ℕ) → HasTarget lists s t → t < length lists

-- between rounds exactly the numbers at most as far as the closed rounds are settled, the others are untouched, and the
-- frontier has exactly those at that distance, each once and in rising order
pub record IsBetweenRounds (origin : ℕ) (lists : List (List ℕ)) (m : Machine) : Type 0 where
  pub words : IsBetween origin lists m.closed m.words
  pub front : IsFrontier origin lists m.closed m.front
  pub rising : AreRisingNumbers m.front
