-- The chosen open hit of a pair that stays, and the words that finish it.
--     IsChosenOpen entries words e place number n z    the chosen open hit of the pair, n moves away, which z finishes
--     ended_word v z                                   the word that z ends, where the word v is open
--     finished_example entries words table n number v z    the words of the walk to a number, and the one that z ends
use Rattle.std.specs.Prelude.{ℕ, ◌+◌, ◌≤◌, ◌≡◌, List, [], ◌∷◌, ◌++◌, length}
use Rattle.closure_laws.specs.Examples.{example}
use Rattle.settled_laws.specs.OpenNumbers.{IsOpenNumber}

-- an open hit of the place in e and strokes that finish it, of least sum, and of the open hits of that sum the one of least number
pub record IsChosenOpen (entries words : List (List ℕ)) (e place number n : ℕ) (z : List ℕ) : Type 0 where
  pub is : IsOpenNumber entries words e place number n z
  pub least : (other k : ℕ) (y : List ℕ) → IsOpenNumber entries words e place other k y → n + length z ≤ k + length y
  pub first : (other k : ℕ) (y : List ℕ) → IsOpenNumber entries words e place other k y → k + length y ≡ n + length z → number ≤ other

-- the word that the strokes z end, where the word v is open
abbrev pub ended_word : List ℕ → List ℕ → List (List ℕ)
ended_word [] z = []
ended_word (c ∷ v) z = ((c ∷ v) ++ z) ∷ []

-- the words of the walk of n moves to a number, and the one that z ends where the word v is open there
abbrev pub finished_example : List (List ℕ) → List (List ℕ) → List ℕ → ℕ → ℕ → List ℕ → List ℕ → List (List ℕ)
finished_example entries words table n number v z = example entries words table n number ++ ended_word v z
