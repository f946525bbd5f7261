-- The records of a round: who holds whose thief, what was offered, and what went back.
use Rattle.std.specs.Prelude.{◌≡◌, ℕ, suc, zero, ◌+◌, ◌<◌, ◌≤◌, ◌⊎◌, false, List, [], length, Some, slice_get, sum_by}
use Rattle.round_core.specs.Rounds.{Has}
use Rattle.dist_table.specs.Tables.{TableView, PassView}
use Rattle.steal_batches.specs.Deques.{DequeId, ThiefView}
use Rattle.steal_rounds.specs.declared.member.CrewMember.{CrewMember}
use Rattle.steal_rounds.specs.inside.Crews.{Took, taken_by, Turned}

-- of n workers, worker a keeps at place j the thief of worker u's deque: those of the last workers come first, and it has
-- none of its own
abbrev pub Aims : ℕ → ℕ → ℕ → ℕ → Type 0
Aims n a j u = ((a < u) × (j + u + 1 ≡ n)) ⊎ ((u < a) × (j + u + 2 ≡ n))

-- worker a's record where each worker has a thief of each later worker than v, and of v those from w on
pub record Holds (n : ℕ) (ids : List DequeId) (v w a : ℕ) (m : CrewMember) : Type 0 where
  pub id : slice_get ids a ≡ Some m.deque.id
  pub aimed : (j u : ℕ) (thief : ThiefView) → slice_get m.thieves.items j ≡ Some thief → Aims n a j u → slice_get ids u ≡ Some thief.victim
  pub few_later : a < w → v < a → length m.thieves.items + v + 2 ≡ n
  pub few : a < w → a ≤ v → length m.thieves.items + v + 1 ≡ n
  pub many : w ≤ a → v ≤ a → length m.thieves.items + v + 1 ≡ n
  pub many_earlier : w ≤ a → a < v → length m.thieves.items + v ≡ n
  pub none_out : a < v → m.deque.thieves ≡ 0
  pub all_out : v < a → m.deque.thieves + 1 ≡ n
  pub some_out : a ≡ v → w ≤ v → m.deque.thieves + w + 1 ≡ n
  pub others_out : a ≡ v → v < w → m.deque.thieves + w ≡ n

abbrev pub AreHeld : ℕ → ℕ → List CrewMember → Type 0
AreHeld v w crew =
    (ids : List DequeId) × ((a : ℕ) (m : CrewMember) → slice_get crew a ≡ Some m → Holds (length crew) ids v w a m)

-- the same worker's record, whose tools alone may have changed hands
pub record KeepsRecord (m n : CrewMember) : Type 0 where
  pub worker : n.worker ≡ m.worker
  pub pass : n.pass ≡ m.pass
  pub notes : n.notes ≡ m.notes
  pub moves : n.moves ≡ m.moves
  pub short : n.short ≡ m.short
  pub offered : n.deque.offered ≡ m.deque.offered

-- what was taken changed hands alone
pub record AreReturned (old new : List CrewMember) : Type 0 where
  pub count : length new ≡ length old
  pub each : (a : ℕ) (n : CrewMember) → slice_get new a ≡ Some n → (m : CrewMember) × (slice_get old a ≡ Some m) × KeepsRecord m n
  pub from : (a b : ℕ) (n : CrewMember) → slice_get new a ≡ Some n → Took n b → (c : ℕ) × (m : CrewMember) × (slice_get old c ≡ Some m) × Took m b
  pub taken : (f : ℕ → ℕ) → sum_by (λ (m : CrewMember). taken_by f m) new ≡ sum_by (λ (m : CrewMember). taken_by f m) old
  pub offered : (f : ℕ → ℕ) → sum_by (λ (m : CrewMember). sum_by f m.deque.offered) new ≡ sum_by (λ (m : CrewMember). sum_by f m.deque.offered) old
  pub moves : sum_by (λ (m : CrewMember). m.moves) new ≡ sum_by (λ (m : CrewMember). m.moves) old

-- no thief is left, and none is out
abbrev pub AreBack : List CrewMember → Type 0
AreBack crew =
    (a : ℕ) (m : CrewMember) → slice_get crew a ≡ Some m → (m.deque.thieves ≡ 0) × (m.thieves.items ≡ [])

-- a record with which nothing was done
pub record IsBlank (t : TableView) (p : PassView) (m : CrewMember) : Type 0 where
  pub pass : (m.pass.table ≡ t)
  pub seen : m.pass.seen ≡ p.seen
  pub deque : m.deque.taken ≡ []
  pub thieves : (j : ℕ) (thief : ThiefView) → slice_get m.thieves.items j ≡ Some thief → thief.taken ≡ []
  pub notes : m.notes.items ≡ []
  pub moves : m.moves ≡ 0
  pub short : m.short ≡ false

abbrev pub AreBlank : TableView → PassView → List CrewMember → Type 0
AreBlank t p crew = (a : ℕ) (m : CrewMember) → slice_get crew a ≡ Some m → IsBlank t p m

-- no worker has a thief, and no thief is out
abbrev pub AreIdle : List CrewMember → Type 0
AreIdle crew =
    (a : ℕ) (m : CrewMember) → slice_get crew a ≡ Some m → (m.thieves.items ≡ []) × (m.deque.thieves ≡ 0)

-- nothing was offered, and each deque has this room
abbrev pub HaveRoom : ℕ → List CrewMember → Type 0
HaveRoom room crew =
    (a : ℕ) (m : CrewMember) → slice_get crew a ≡ Some m → (m.deque.offered ≡ []) × (m.deque.room ≡ room)

abbrev pub sum_to : (ℕ → ℕ) → ℕ → ℕ
sum_to f zero = 0
sum_to f (suc b) = sum_to f b + f b

-- the batches below this number were offered, each once
pub record AreOffered (batches : ℕ) (crew : List CrewMember) : Type 0 where
  pub each : (b : ℕ) → b < batches → (a : ℕ) × (m : CrewMember) × (slice_get crew a ≡ Some m) × Has m.deque.offered b
  pub sum : (f : ℕ → ℕ) → sum_by (λ (m : CrewMember). sum_by f m.deque.offered) crew ≡ sum_to f batches

-- the records before a round
pub record AreMade (t : TableView) (p : PassView) (workers batches : ℕ) (crew : List CrewMember) : Type 0 where
  pub count : length crew ≡ workers
  pub blank : AreBlank t p crew
  pub offered : AreOffered batches crew
  pub held : AreHeld 0 0 crew

-- each worker had its turn, one after the other
pub record HadTurns (t : TableView) (k : ℕ) (frontier : List ℕ) (old new : List CrewMember) : Type 0 where
  pub count : length new ≡ length old
  pub each : (a : ℕ) (n : CrewMember) → slice_get new a ≡ Some n → (m : CrewMember) × (slice_get old a ≡ Some m) × Turned t k frontier m n

-- what the workers noted, how many moves they made, and that none was short of memory
pub record AreCollected (crew : List CrewMember) (notes : List ℕ) (moves : ℕ) : Type 0 where
  pub ample : (a : ℕ) (m : CrewMember) → slice_get crew a ≡ Some m → m.short ≡ false
  pub some : (a u : ℕ) (m : CrewMember) → slice_get crew a ≡ Some m → Has m.notes.items u → Has notes u
  pub all : (u : ℕ) → Has notes u → (a : ℕ) × (m : CrewMember) × (slice_get crew a ≡ Some m) × Has m.notes.items u
  pub moves_made : moves ≡ sum_by (λ (m : CrewMember). m.moves) crew
