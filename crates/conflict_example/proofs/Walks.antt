-- A walk back, one number after another.
use Rattle.std.proofs.Common.{◌≡◌, ℕ, zero, suc, ◌+◌, ◌-◌, ◌<◌, ◌≤◌, List, [], ◌∷◌, ◌++◌, slice_index, sym, ap, subst, ◌∙◌, arith, append_assoc, append-nil}
use Rattle.graph_rules.specs.Graphs.{IsBest}
use Rattle.closure_laws.specs.Examples.{source_of, trail}
use Rattle.conflict_example.specs.inside.Closures.{IsWalkEnd}
use Rattle.conflict_example.proofs.SettledWords.{before_by_word}

-- of a walk of n moves to `number` these numbers are listed, and a walk of `left` moves to `at` is left
pub record IsListing (table : List ℕ) (number n done at : ℕ) (path : List ℕ) : Type 0 where
  pub fits : done ≤ n
  pub walk : IsWalkEnd table at (n - done)
  pub listed : path ++ trail table (n - done) at ≡ trail table n number

pub listing_none : (table : List ℕ) (number n : ℕ) → IsWalkEnd table number n → IsListing table number n 0 number []
listing_none table number n h =
    let all : n ≡ n - 0 = omega arith in
    record { fits = omega arith; walk = subst (IsWalkEnd table number) all h; listed = ap (λ k. trail table k number) (sym all) }

-- one number more
step : (table : List ℕ) (number n at m k : ℕ) (path : List ℕ) → m ≡ suc k → IsWalkEnd table at m → path ++ trail table m at ≡ trail table n number →
    IsWalkEnd table (source_of (slice_index table at)) k × ((path ++ at ∷ []) ++ trail table k (source_of (slice_index table at)) ≡ trail table n number)
step table number n at m k path is h listed =
    let w : ℕ = slice_index table at in
    let best = subst (IsBest 0 h.lists at) is h.best in
    let before = before_by_word h.lists at k w (omega (arith, h.few)) (h.settled.each at h.below) best in (
      record { lists = h.lists; few = h.few; settled = h.settled; below = omega (arith, before.below, h.settled.count); best = before.best },
      append_assoc path (at ∷ []) (trail table k (source_of w)) ∙ ap (λ j. path ++ trail table j at) (sym is) ∙ listed,
    )

pub listing_more : (table : List ℕ) (number n done at : ℕ) (path : List ℕ) → done < n → IsListing table number n done at path →
    IsListing table number n (done + 1) (source_of (slice_index table at)) (path ++ at ∷ [])
listing_more table number n done at path lt h =
    let is : n - done ≡ suc (n - (done + 1)) = omega arith in
    let next = step table number n at (n - done) (n - (done + 1)) path is h.walk h.listed in
    record { fits = omega arith; walk = next.0; listed = next.1 }

-- At the end all are listed.
pub listing_all : (table : List ℕ) (number n done at : ℕ) (path : List ℕ) → n ≤ done → IsListing table number n done at path → path ≡ trail table n number
listing_all table number n done at path end h = all (n - done) (omega (arith, end)) h.listed
  where
    all : (k : ℕ) → k ≡ 0 → path ++ trail table k at ≡ trail table n number → path ≡ trail table n number
    all zero none listed = sym (append-nil path) ∙ listed
    all (suc k) none listed = absurd (omega arith)
