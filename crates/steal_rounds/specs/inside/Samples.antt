-- The mixed graph of the tests.
use Rattle.std.specs.Prelude.{ℕ, zero, suc, ◌+◌, ◌*◌, ◌%◌, List, [], ◌∷◌}

-- of n numbers, s leads to these four
abbrev pub mixed_targets : ℕ → ℕ → List ℕ
mixed_targets n s = (s * 7 + 1) % n ∷ (s * 13 + 5) % n ∷ (s * 31 + 11) % n ∷ (s + 1) % n ∷ []

-- the lists of k numbers from s on
abbrev pub mixed_lists : ℕ → ℕ → ℕ → List (List ℕ)
mixed_lists n s zero = []
mixed_lists n s (suc k) = mixed_targets n s ∷ mixed_lists n (suc s) k
