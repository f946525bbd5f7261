-- What a pass knows after each kind of step, and what the step tells it.
use Rattle.std.specs.Prelude.{◌≡◌, ◌≢◌, ℕ, ◌<◌, ◌≤◌, ◌/◌, ◌⊎◌, Bool, true, false, List, [], Some, None}
use mathlib.Core.Option.{none}
use mathlib.Core.List.{IsPrefix}
use Rattle.atomic_table.specs.Table.{Step, Me, step}
use Rattle.graph_rules.specs.Graphs.{Stands, moved}
use Rattle.dist_table.specs.declared.call.Call.{Call}
use Rattle.dist_table.specs.declared.knowledge.Knowledge.{Knowledge}
use Rattle.dist_table.specs.Rules.{first_pass, HasNoFurtherCalls}
use Rattle.dist_table.specs.Histories.{call, calls_by, IsLegal, longer_history, ExtendsHistory}

-- the number of a pass, 0 of one that has ended
abbrev pub pass_number : Knowledge → ℕ
pass_number v = elim v.number as (λ _. ℕ) [ Some n ↦ n | None ↦ 0 ]

-- a history was seen
abbrev pub seeing : Knowledge → List Call → Knowledge
seeing v history = record v { seen = history; former = []; latter = []; joined = None }

-- a number is kept for the next pass
abbrev pub reserving : Knowledge → ℕ → Knowledge
reserving v n = record v { reserved = Some n; former = []; latter = []; joined = None }

-- the pass that was cut, without the number that it had kept
abbrev pub staying : Knowledge → Knowledge
staying v = record v { reserved = None; former = []; latter = []; joined = None }

-- the new pass, with that number
abbrev pub leaving : Knowledge → Knowledge
leaving v = record v { number = v.reserved; reserved = None; former = []; latter = []; joined = None }

-- the pass that took another in, with both former histories and the other's number
abbrev pub joining : Knowledge → Knowledge → Knowledge
joining v w =
    record v { seen = longer_history v.seen w.seen; former = v.seen; latter = w.seen; joined = w.number }

-- the pass that was taken in: it has no number and has seen nothing
abbrev pub ended : Knowledge
ended = record (first_pass 0 []) { number = None }

-- the next moves go from this number, to which so many lead
abbrev pub aiming : Knowledge → ℕ → ℕ → Knowledge
aiming v distance source = record v { distance = distance; source = source }

-- the call that a step makes
abbrev pub call_of : Knowledge → Bool → Step ℕ → ℕ → Call
call_of v relax s found = call (pass_number v) relax s.word s.first found

-- one call more, whose reply stands
abbrev pub TellsCall : Bool → Step ℕ → Me ℕ Knowledge → ℕ → Me ℕ Knowledge → Type 0
TellsCall relax s v found w =
    (w.1 ≡ v.1)
    × (w.0 ≡ seeing v.0 w.0.seen)
    × ExtendsHistory v.0.origin v.0.lists v.0.seen (call_of v.0 relax s found) w.0.seen
    × Stands v.0.origin v.0.lists s.word found

abbrev pub TellsRelax : Step ℕ → Me ℕ Knowledge → ℕ → Me ℕ Knowledge → Type 0
TellsRelax = TellsCall true

abbrev pub TellsLook : Step ℕ → Me ℕ Knowledge → ℕ → Me ℕ Knowledge → Type 0
TellsLook = TellsCall false

-- a number that nobody has had
abbrev pub TellsReserved : Step ℕ → Me ℕ Knowledge → ℕ → Me ℕ Knowledge → Type 0
TellsReserved s v found w =
    (w.1 ≡ v.1)
    × ((n : ℕ) × (w.0 ≡ reserving v.0 n) × (v.0.number ≢ Some n) × (calls_by n v.0.seen ≡ []))

-- after a join both former histories were beginnings of the one that is left, which has no further calls of the two
abbrev pub TellsJoined : Step ℕ → Me ℕ Knowledge → ℕ → Me ℕ Knowledge → Type 0
TellsJoined s v found w =
    (w.1 ≡ v.1)
    × (w.0 ≡ seeing v.0 v.0.seen)
    × IsPrefix v.0.former v.0.seen
    × IsPrefix v.0.latter v.0.seen
    × IsLegal v.0.origin v.0.lists v.0.seen
    × HasNoFurtherCalls v.0

-- a load of the settled word of the number from which the next moves go
abbrev pub TellsAim : Step ℕ → Me ℕ Knowledge → ℕ → Me ℕ Knowledge → Type 0
TellsAim s v found w = (w.1 ≡ v.1) × (w.0 ≡ aiming v.0 (found / 4294967296) s.word)

-- the value of the next move
abbrev pub next_value : Knowledge → ℕ
next_value v = moved v.distance v.source

-- a load that finds a settled word that the next move can't lower is the relax by that move, and any other tells nothing
abbrev pub TellsSpared : Step ℕ → Me ℕ Knowledge → ℕ → Me ℕ Knowledge → Type 0
TellsSpared s v found w =
    ((found ≤ next_value v.0) × TellsCall true (step s.slots s.word (next_value v.0) 0 none) v found w)
    ⊎ ((next_value v.0 < found) × (w ≡ v))
