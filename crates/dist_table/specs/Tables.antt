-- A table and a pass as their callers see them, and what the calls promise.
--     TableView                 which table it is, its start and its lists of targets
--     PassView                  of which table, its number, and the history that it has seen
--     IsSamePass p q            p became q, and may have seen more
--     IsWalkTo t distance source target     a walk of so many moves leads to the source, and one move more to the target
--     MakesRelax p .. q         p made this relax and became q
--     MakesLook p .. q          p made this look and became q
--     IsJoined p other q        p took in the other pass and became q
--     LeavesWords p words       the settled words at the end, where p is the pass that is left
use Rattle.std.specs.Prelude.{◌≡◌, ℕ, ◌<◌, List, length, slice_index}
use mathlib.Core.List.{IsPrefix}
use Rattle.atomic_table.specs.Seated.{TableId}
use Rattle.graph_rules.specs.Graphs.{Stands, Reaches, HasTarget}
use Rattle.dist_table.specs.declared.call.Call.{Call}
use Rattle.dist_table.specs.Histories.{opening_words, replayed_words, IsLegal, calls_by, longer_history, relax_call, look_call, ExtendsHistory}

pub record TableView : Type 0 where
  pub id : TableId
  pub origin : ℕ
  pub lists : List (List ℕ)

pub record PassView : Type 0 where
  pub table : TableView
  pub number : ℕ
  pub seen : List Call

abbrev pub IsWalkTo : TableView → ℕ → ℕ → ℕ → Type 0
IsWalkTo t distance source target =
    Reaches t.origin t.lists distance source × HasTarget t.lists source target

abbrev pub IsSamePass : PassView → PassView → Type 0
IsSamePass p q = (q.table ≡ p.table) × (q.number ≡ p.number)

-- p made the call c, has seen the one history up to it, and became q
abbrev pub MakesCall : PassView → Call → PassView → Type 0
MakesCall p c q = IsSamePass p q × ExtendsHistory p.table.origin p.table.lists p.seen c q.seen

abbrev pub MakesRelax : PassView → ℕ → ℕ → ℕ → PassView → Type 0
MakesRelax p target value reply q = MakesCall p (relax_call p.number target value reply) q

abbrev pub MakesLook : PassView → ℕ → ℕ → PassView → Type 0
MakesLook p state reply q = MakesCall p (look_call p.number state reply) q

-- the longer history stays, and the shorter one is its beginning: it has all that either has seen, and of the two
-- passes' calls no other ones
pub record IsJoined (p other q : PassView) : Type 0 where
  pub same : IsSamePass p q
  pub longer : q.seen ≡ longer_history p.seen other.seen
  pub former : IsPrefix p.seen q.seen
  pub latter : IsPrefix other.seen q.seen
  pub legal : IsLegal p.table.origin p.table.lists q.seen
  pub own : calls_by p.number q.seen ≡ calls_by p.number p.seen
  pub taken : calls_by other.number q.seen ≡ calls_by other.number other.seen

-- there is one history: it begins with what the pass has seen, has no other calls of the pass, is legal and leaves the
-- settled words, of which each stands
pub record LeavesWords (p : PassView) (words : List ℕ) : Type 0 where
  pub history : List Call
  pub begins : IsPrefix p.seen history
  pub own : calls_by p.number history ≡ calls_by p.number p.seen
  pub legal : IsLegal p.table.origin p.table.lists history
  pub left : words ≡ replayed_words (opening_words p.table.origin (length p.table.lists)) history
  pub stand :
      (s : ℕ) → s < length p.table.lists → Stands p.table.origin p.table.lists s (slice_index words s)
