-- The rule of a table, which holds between any two steps of any threads: there is one legal history, which leaves the
-- settled words, and each settled word stands.
--     first_pass                what the first pass knows
--     OwnsNumber v n            the number is the pass's own, or reserved by it for the next pass
--     FitsHistory ..            what a pass knows is true of the history
--     HaveOwnNumbers views      no number has two owners
--     KeepsHistory ..           the rule
use Rattle.std.specs.Prelude.{◌≡◌, ◌≢◌, ℕ, ◌<◌, ◌≤◌, ◌⊎◌, List, [], length, Some, None, slice_index}
use mathlib.Core.Option.{some}
use mathlib.Core.List.{IsPrefix}
use lib.ListN.{get_elem?}
use Rattle.graph_rules.specs.Graphs.{Stands}
use Rattle.dist_table.specs.declared.call.Call.{Call}
use Rattle.dist_table.specs.declared.knowledge.Knowledge.{Knowledge}
use Rattle.dist_table.specs.Histories.{opening_words, replayed_words, IsLegal, calls_by}

abbrev pub first_pass : ℕ → List (List ℕ) → Knowledge
first_pass origin lists = record {
  origin = origin;
  lists = lists;
  number = Some 0;
  reserved = None;
  distance = 0;
  source = 0;
  seen = [];
  former = [];
  latter = [];
  joined = None;
}

abbrev pub OwnsNumber : Knowledge → ℕ → Type 0
OwnsNumber v n = (v.number ≡ Some n) ⊎ (v.reserved ≡ Some n)

-- after a join the history that is left has no other calls of the two passes than the two former histories
pub record HasNoFurtherCalls (v : Knowledge) : Type 0 where
  pub own : (n m : ℕ) → v.joined ≡ Some m → v.number ≡ Some n → calls_by n v.seen ≡ calls_by n v.former
  pub taken : (m : ℕ) → v.joined ≡ Some m → calls_by m v.seen ≡ calls_by m v.latter

pub record FitsHistory (origin : ℕ) (lists : List (List ℕ)) (history : List Call) (made : ℕ) (v : Knowledge)
    : Type 0 where
  pub graph : (n : ℕ) → OwnsNumber v n → (v.origin ≡ origin) × (v.lists ≡ lists)
  pub seen : IsPrefix v.seen history
  pub former : IsPrefix v.former v.seen
  pub latter : IsPrefix v.latter v.seen
  pub mine : (n : ℕ) → v.number ≡ Some n → calls_by n history ≡ calls_by n v.seen
  pub unused : (n : ℕ) → v.reserved ≡ Some n → calls_by n history ≡ []
  pub below : (n : ℕ) → OwnsNumber v n → n < made
  pub differ : (n : ℕ) → v.number ≡ Some n → v.reserved ≡ Some n → ⊥
  pub joined : HasNoFurtherCalls v

abbrev pub HaveOwnNumbers : List Knowledge → Type 0
HaveOwnNumbers views =
    (i j : ℕ) (v w : Knowledge) → get_elem? views i ≡ some v → get_elem? views j ≡ some w
    → i ≢ j → (n : ℕ) → OwnsNumber v n → OwnsNumber w n → ⊥

pub record KeepsHistory (origin : ℕ) (lists : List (List ℕ)) (words : List ℕ) (views : List Knowledge)
    : Type 0 where
  pub history : List Call
  pub made : ℕ
  pub count : length words ≡ length lists
  pub legal : IsLegal origin lists history
  pub leaves : words ≡ replayed_words (opening_words origin (length lists)) history
  pub stand : (i : ℕ) → i < length words → Stands origin lists i (slice_index words i)
  pub fits :
      (by : ℕ) (v : Knowledge) → get_elem? views by ≡ some v → FitsHistory origin lists history made v
  pub apart : HaveOwnNumbers views
  pub unmade : (n : ℕ) → made ≤ n → calls_by n history ≡ []
