-- Numbers in rising order, each once.
use Rattle.std.proofs.Common.{ℕ, suc, ◌+◌, ◌<◌, ◌≤◌, List, [], ◌∷◌, length, Some, Contains, ap, ◌∙◌, arith}
use Rattle.std.specs.List.{AllPairs}
use Rattle.std.specs.List.Sorted.{IsStrictlyIncreasing}
use Rattle.std.proofs.lemmas.List.Kept.{AllPairs-from_increasing}
use Rattle.std.proofs.lemmas.Option.{slice_get_within, get_or_from_slice_get, slice_get-get_or}
use Rattle.round_core.specs.Rounds.{Has, AreRisingNumbers}
use Rattle.round_core.proofs.Members.{has_first, has_later}

pub contains_has : (xs : List ℕ) (u : ℕ) → Contains xs u → Has xs u
contains_has xs u h = (h.0, slice_get-get_or xs h.0 u h.1 ∙ ap Some h.2)

pub has_contains : (xs : List ℕ) (u : ℕ) → Has xs u → Contains xs u
has_contains xs u h = (h.0, slice_get_within xs h.0 u h.1, get_or_from_slice_get xs h.0 u u h.1)

rising_pairs : (xs : List ℕ) → AllPairs (λ x y. x < y) xs → AreRisingNumbers xs
rising_pairs [] h = tt
rising_pairs (x ∷ xs) h = (
  (λ y has. (let b = slice_get_within xs has.0 y has.1 in let l = h 0 (suc has.0) y (omega arith) (omega (arith, b)) in let e = get_or_from_slice_get xs has.0 y y has.1 in omega (arith, l, e))),
  rising_pairs xs (λ i j d lt b. h (suc i) (suc j) d (omega (arith, lt)) (omega (arith, b))),
)

pub are_rising : (xs : List ℕ) → IsStrictlyIncreasing xs → AreRisingNumbers xs
are_rising xs h = rising_pairs xs (AllPairs-from_increasing xs h)

-- numbers below n, in rising order, are at most n
room_for : (xs : List ℕ) (low n : ℕ) → low ≤ n → AreRisingNumbers xs → ((y : ℕ) → Has xs y → (low ≤ y) × (y < n)) → length xs + low ≤ n
room_for [] low n le h below = omega (arith, le)
room_for (x ∷ xs) low n le h below =
    let a = below x (has_first x xs) in
    let l = a.0 in let u = a.1 in
    let rest = room_for xs (suc x) n (omega (arith, u)) h.1 (λ y has. (let z = h.0 y has in omega (arith, z), (below y (has_later x xs y has)).1)) in
    omega (arith, rest, l)

pub few_rising : (xs : List ℕ) (n : ℕ) → AreRisingNumbers xs → ((y : ℕ) → Has xs y → y < n) → length xs ≤ n
few_rising xs n h below = let r = room_for xs 0 n (omega arith) h (λ y has. (omega arith, below y has)) in omega (arith, r)
