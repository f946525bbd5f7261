-- A deque and a thief as their callers see them.
--     DequeId            which deque it is
--     DequeView          a deque: its worker, its room, what was offered, what was taken, and its thieves
--     ThiefView          a thief: of which deque, for which worker, its number, and what it took
--     with_offer, with_take, with_thief, without_thief     the deque after the call of that name
--     with_loot          the thief after it stole a batch
--     times_in x xs      how often x stands in the list
--     WasOffered d x     the batch was offered at least as often as it was taken
--     AreAllTaken d      each batch was taken as often as it was offered
use Rattle.std.specs.Prelude.{◌≡◌, ℕ, ◌+◌, ◌-◌, ◌==◌, ◌≤◌, cond, List, [], ◌∷◌, ◌++◌}
use Rattle.std.specs.declared.alloc.Global.{Global}
use Rattle.atomic_blocks.specs.Lent.{RowsId}

abbrev pub DequeId : Type 0
DequeId = RowsId × Global

-- `made` counts the thieves that were ever made, `thieves` those that are out; `taken` has what the worker took, and what
-- the thieves took that came back
pub record DequeView : Type 0 where
  pub id : DequeId
  pub worker : ℕ
  pub room : ℕ
  pub made : ℕ
  pub thieves : ℕ
  pub offered : List ℕ
  pub taken : List ℕ

pub record ThiefView : Type 0 where
  pub victim : DequeId
  pub worker : ℕ
  pub number : ℕ
  pub taken : List ℕ

abbrev pub with_offer : DequeView → ℕ → DequeView
with_offer d batch = record d { offered = d.offered ++ batch ∷ [] }

abbrev pub with_take : DequeView → ℕ → DequeView
with_take d batch = record d { taken = d.taken ++ batch ∷ [] }

abbrev pub with_thief : DequeView → DequeView
with_thief d = record d { made = d.made + 1; thieves = d.thieves + 1 }

abbrev pub without_thief : DequeView → ThiefView → DequeView
without_thief d t = record d { thieves = d.thieves - 1; taken = d.taken ++ t.taken }

abbrev pub with_loot : ThiefView → ℕ → ThiefView
with_loot t batch = record t { taken = t.taken ++ batch ∷ [] }

abbrev pub times_in : ℕ → List ℕ → ℕ
times_in x [] = 0
times_in x (y ∷ ys) = cond (y == x) 1 0 + times_in x ys

abbrev pub WasOffered : DequeView → ℕ → Type 0
WasOffered d x = times_in x d.taken ≤ times_in x d.offered

abbrev pub AreAllTaken : DequeView → Type 0
AreAllTaken d = (x : ℕ) → times_in x d.taken ≡ times_in x d.offered
