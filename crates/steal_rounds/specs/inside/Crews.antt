-- What one worker's record owes to a round.
use Rattle.std.specs.Prelude.{◌≡◌, ℕ, ◌+◌, ◌<◌, ◌⊎◌, false, List, [], ◌∷◌, length, Some, slice_get, sum_by}
use mathlib.Core.List.{IsPrefix}
use Rattle.graph_rules.specs.Graphs.{Reaches}
use Rattle.dist_table.specs.declared.table.TheConstants.{DISTANCES}
use Rattle.round_core.specs.Rounds.{Has}
use Rattle.dist_table.specs.Tables.{TableView, IsSamePass}
use Rattle.steal_rounds.specs.inside.Moves.{IsLegalPass}
use Rattle.steal_batches.specs.Deques.{DequeView, ThiefView, AreAllTaken}
use Rattle.steal_rounds.specs.declared.member.CrewMember.{CrewMember}
use Rattle.steal_rounds.specs.inside.Moves.{batch_states_of, Worked, AddsFound, HasInside}
use Rattle.round_core.specs.inside.InRounds.{moves_of}

-- the round: each state of its frontier is reached at its distance, and each target is a number
abbrev pub IsRound : TableView → ℕ → List ℕ → Type 0
IsRound t k frontier =
    (k < DISTANCES)
    × ((i s : ℕ) → slice_get frontier i ≡ Some s → (s < length t.lists) × Reaches t.origin t.lists k s)
    × HasInside t

-- one of the thieves took the batch
abbrev pub Stole : List ThiefView → ℕ → Type 0
Stole thieves b =
    (j : ℕ) × (i : ℕ) × (thief : ThiefView) × (slice_get thieves j ≡ Some thief) × (slice_get thief.taken i ≡ Some b)

-- the worker took the batch, from its own deque or another's
abbrev pub Took : CrewMember → ℕ → Type 0
Took m b = ((i : ℕ) × (slice_get m.deque.taken i ≡ Some b)) ⊎ Stole m.thieves.items b

-- a thief that may have taken more
abbrev pub SameThief : ThiefView → ThiefView → Type 0
SameThief x y = (y.victim ≡ x.victim) × (y.worker ≡ x.worker) × (y.number ≡ x.number)

abbrev pub SameThieves : List ThiefView → List ThiefView → Type 0
SameThieves [] [] = Unit {0}
SameThieves [] (y ∷ ys) = ⊥
SameThieves (x ∷ xs) [] = ⊥
SameThieves (x ∷ xs) (y ∷ ys) = SameThief x y × SameThieves xs ys

-- a deque from which more may have been taken
abbrev pub SameDeque : DequeView → DequeView → Type 0
SameDeque x y =
    (y.id ≡ x.id)
    × (y.worker ≡ x.worker)
    × (y.room ≡ x.room)
    × (y.made ≡ x.made)
    × (y.thieves ≡ x.thieves)
    × (y.offered ≡ x.offered)

-- the record's own deque and thieves may have taken more, and nothing else changed
abbrev pub SameTools : CrewMember → CrewMember → Type 0
SameTools m n =
    (n.worker ≡ m.worker)
    × (n.pass ≡ m.pass)
    × (n.notes ≡ m.notes)
    × (n.moves ≡ m.moves)
    × (n.short ≡ m.short)
    × SameDeque m.deque n.deque × SameThieves m.thieves.items n.thieves.items

-- the moves of the batches that were taken
abbrev pub batch_moves : List (List ℕ) → List ℕ → ℕ → ℕ
batch_moves lists frontier b = moves_of lists (batch_states_of frontier b)

abbrev pub stolen_by : (ℕ → ℕ) → List ThiefView → ℕ
stolen_by f thieves = sum_by (λ (thief : ThiefView). sum_by f thief.taken) thieves

abbrev pub taken_by : (ℕ → ℕ) → CrewMember → ℕ
taken_by f m = sum_by f m.deque.taken + stolen_by f m.thieves.items

-- the record is the same worker's, with the same deque and thieves, and has seen and noted no less
pub record Same (m n : CrewMember) : Type 0 where
  pub worker : n.worker ≡ m.worker
  pub pass : IsSamePass m.pass n.pass
  pub seen : IsPrefix m.pass.seen n.pass.seen
  pub notes : (u : ℕ) → Has m.notes.items u → Has n.notes.items u
  pub deque : SameDeque m.deque n.deque
  pub thieves : SameThieves m.thieves.items n.thieves.items

-- a worker that isn't short of memory wasn't before, has made each move of each batch that it took more, and counted them
pub record MadeMoves (t : TableView) (k : ℕ) (frontier : List ℕ) (m n : CrewMember) : Type 0 where
  pub ample : m.short ≡ false
  pub worked : (b : ℕ) → Took n b → Took m b ⊎ Worked t k n.pass.seen n.notes.items (batch_states_of frontier b)
  pub counted : n.moves + taken_by (batch_moves t.lists frontier) m ≡ m.moves + taken_by (batch_moves t.lists frontier) n

-- what a worker's work does to its record
pub record Works (t : TableView) (k : ℕ) (frontier : List ℕ) (m n : CrewMember) : Type 0 where
  pub same : Same m n
  pub pass : IsLegalPass t n.pass
  pub adds : AddsFound t k frontier m.pass.seen n.pass.seen m.notes.items n.notes.items
  pub made : n.short ≡ false → MadeMoves t k frontier m n

-- the worker had its turn, after which its deque is empty where no thief is out
pub record Turned (t : TableView) (k : ℕ) (frontier : List ℕ) (m n : CrewMember) : Type 0 where
  pub works : Works t k frontier m n
  pub emptied : n.short ≡ false → m.deque.thieves ≡ 0 → AreAllTaken n.deque

-- each pass is the table's
abbrev pub AllOf : TableView → List CrewMember → Type 0
AllOf t crew = (j : ℕ) (m : CrewMember) → slice_get crew j ≡ Some m → (m.pass.table ≡ t)
