-- The rule of a deque, which holds between any two steps of any threads: each batch stands as often as it was offered in
-- the deque or with who took it.
--     total f views          f of each view, added up
--     owner_knows ..         what the worker of the deque knows
--     thief_knows ..         what a thief that is out knows
--     FitsSeat ..            what a view may be at its place
--     IsEachOnce ..          the rule
--     WasEmpty v             the rule allows that the deque is empty while a thread knows this
--     WasEmptyToOwner d, WasEmptyToThief t      the same of the deque's worker and of a thief
use Rattle.std.specs.Prelude.{◌≡◌, ℕ, ◌+◌, true, false, List, [], ◌∷◌}
use mathlib.Core.Option.{some}
use lib.ListN.{get_elem?}
use Rattle.steal_batches.specs.declared.hand.Hand.{Hand}
use Rattle.steal_batches.specs.Deques.{DequeView, ThiefView, times_in}

abbrev pub total : (Hand → ℕ) → List Hand → ℕ
total f [] = 0
total f (v ∷ views) = f v + total f views

abbrev pub owner_knows : ℕ → ℕ → List ℕ → List ℕ → Hand
owner_knows made thieves offered taken = record {
  owns = true;
  live = 0;
  number = 0;
  made = made;
  thieves = thieves;
  offered = offered;
  taken = taken;
}

abbrev pub thief_knows : ℕ → List ℕ → Hand
thief_knows number taken = record {
  owns = false;
  live = 1;
  number = number;
  made = 0;
  thieves = 0;
  offered = [];
  taken = taken;
}

-- one view at most is the owner's, and a view that is neither the owner's nor a thief's that is out has taken nothing
abbrev pub FitsSeat : ℕ → ℕ → Hand → Type 0
FitsSeat seat port v = (v.owns ≡ true → port ≡ seat) × (v.owns ≡ false → v.live ≡ 0 → v.taken ≡ [])

-- and the owner knows how many thieves are out
pub record IsEachOnce (items : List ℕ) (views : List Hand) : Type 0 where
  pub seat : ℕ
  pub hand : Hand
  pub there : get_elem? views seat ≡ some hand
  pub owned : (hand.owns ≡ true) × (hand.live ≡ 0)
  pub counted : total (λ v. v.live) views ≡ hand.thieves
  pub balance :
      (x : ℕ) → times_in x hand.offered ≡ total (λ v. times_in x v.taken) views + times_in x items
  pub fits : (port : ℕ) (v : Hand) → get_elem? views port ≡ some v → FitsSeat seat port v

abbrev pub WasEmpty : Hand → Type 0
WasEmpty v =
    (port : ℕ) × (views : List Hand) × IsEachOnce [] views × (get_elem? views port ≡ some v)

abbrev pub WasEmptyToOwner : DequeView → Type 0
WasEmptyToOwner d = WasEmpty (owner_knows d.made d.thieves d.offered d.taken)

abbrev pub WasEmptyToThief : ThiefView → Type 0
WasEmptyToThief t = WasEmpty (thief_knows t.number t.taken)
