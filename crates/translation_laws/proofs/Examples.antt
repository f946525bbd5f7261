-- Worked examples: what the definitions say of a few small dictionaries, computed by the checker. The strokes are those of
-- the keys S, T, K, P, W and H.
use Rattle.std.proofs.Common.{◌≡◌, ℕ, zero, suc, ◌<◌, List, [], ◌∷◌, length, take, refl, arith, Some}
use Rattle.std.specs.List.{concat}
use Rattle.steno_rules.specs.Outlines.{entry_number}
use Rattle.steno_rules.specs.Segments.{longest, segments}
use Rattle.steno_rules.specs.Live.{merge, live}
use Rattle.steno_rules.specs.Windows.{window}
use Rattle.steno_rules.specs.Nodes.{nodes}
use Rattle.steno_rules.specs.Conflicts.{Shows}

abbrev pub S : ℕ
S = 2

abbrev pub T : ℕ
T = 4

abbrev pub K : ℕ
K = 8

abbrev pub P : ℕ
P = 16

abbrev pub W : ℕ
W = 32

abbrev pub H : ℕ
H = 64

-- ---- Merging

-- S, S/T/K, T, K
abbrev pub stick : List (List ℕ)
stick = (S ∷ []) ∷ (S ∷ T ∷ K ∷ []) ∷ (T ∷ []) ∷ (K ∷ []) ∷ []

-- after S and T there are two pieces, and with K one
two_pieces : live stick (S ∷ T ∷ []) ≡ (S ∷ []) ∷ (T ∷ []) ∷ []
two_pieces = refl

-- and with K one
one_piece : merge stick ((S ∷ []) ∷ (T ∷ []) ∷ []) K ≡ (S ∷ T ∷ K ∷ []) ∷ []
one_piece = refl

-- the whole list has this one piece
merged : segments stick (S ∷ T ∷ K ∷ []) ≡ (S ∷ T ∷ K ∷ []) ∷ []
merged = refl

-- S | T | K shows it at place 1, the earlier boundary, and at place 2
earlier_boundary : Shows stick (0 ∷ 2 ∷ 3 ∷ []) 1 1
earlier_boundary = record { piece = refl; after_start = omega arith; before_end = omega arith; boundary = (1, omega arith, omega arith, refl) }

-- and at place 2
last_boundary : Shows stick (0 ∷ 2 ∷ 3 ∷ []) 1 2
last_boundary = record { piece = refl; after_start = omega arith; before_end = omega arith; boundary = (2, omega arith, omega arith, refl) }

-- ---- No match

-- H is no stroke of an entry, so it is a piece of its own
no_match : segments ((S ∷ []) ∷ []) (S ∷ H ∷ []) ≡ (S ∷ []) ∷ (H ∷ []) ∷ []
no_match = refl

-- ---- Out of step

-- S, S/T, T/K/P, P/W, W
abbrev pub wide : List (List ℕ)
wide = (S ∷ []) ∷ (S ∷ T ∷ []) ∷ (T ∷ K ∷ P ∷ []) ∷ (P ∷ W ∷ []) ∷ (W ∷ []) ∷ []

-- the words S | T/K/P | W are read as S/T, a lone K, and P/W
out_of_step : segments wide (S ∷ T ∷ K ∷ P ∷ W ∷ []) ≡ (S ∷ T ∷ []) ∷ (K ∷ []) ∷ (P ∷ W ∷ []) ∷ []
out_of_step = refl

-- they show P/W at place 1
shown : Shows wide (0 ∷ 2 ∷ 4 ∷ []) 3 1
shown = record { piece = refl; after_start = omega arith; before_end = omega arith; boundary = (2, omega arith, omega arith, refl) }

-- the longest entry of T, K, P, W has three strokes; after the lone K nothing begins an entry
three : longest wide (T ∷ K ∷ P ∷ W ∷ []) ≡ 3
three = refl

-- after the lone K nothing that was written begins an entry
nothing : window wide (S ∷ T ∷ K ∷ []) ≡ []
nothing = refl

-- the window keeps P, with which P/W begins
kept : window wide (S ∷ T ∷ K ∷ P ∷ []) ≡ P ∷ []
kept = refl

-- the nodes in their order
nine_nodes : nodes wide ≡ [] ∷ (S ∷ []) ∷ (S ∷ T ∷ []) ∷ (T ∷ []) ∷ (T ∷ K ∷ []) ∷ (T ∷ K ∷ P ∷ []) ∷ (P ∷ []) ∷ (P ∷ W ∷ []) ∷ (W ∷ []) ∷ []
nine_nodes = refl

-- the number of P/W
number : entry_number wide (P ∷ W ∷ []) ≡ Some 3
number = refl

-- ---- One word twice

-- S, S/S
abbrev pub twice : List (List ℕ)
twice = (S ∷ []) ∷ (S ∷ S ∷ []) ∷ []

-- a third S doesn't go into the piece of two
three_times : segments twice (S ∷ S ∷ S ∷ []) ≡ (S ∷ S ∷ []) ∷ (S ∷ []) ∷ []
three_times = refl

-- the word S, twice, shows S/S at place 1
one_word_twice : Shows twice (0 ∷ 0 ∷ []) 1 1
one_word_twice = record { piece = refl; after_start = omega arith; before_end = omega arith; boundary = (1, omega arith, omega arith, refl) }

-- ---- One boundary

-- S, S/T/K, T/K
abbrev pub halves : List (List ℕ)
halves = (S ∷ []) ∷ (S ∷ T ∷ K ∷ []) ∷ (T ∷ K ∷ []) ∷ []

-- S | T/K shows S/T/K at place 1, and not at place 2, where no word ends
at_one : Shows halves (0 ∷ 2 ∷ []) 1 1
at_one = record { piece = refl; after_start = omega arith; before_end = omega arith; boundary = (1, omega arith, omega arith, refl) }

-- where no word ends
not_at_two : Shows halves (0 ∷ 2 ∷ []) 1 2 → ⊥
not_at_two h = only h.boundary.0 h.boundary.1 h.boundary.2 h.boundary.3
  where
    only : (i : ℕ) → 0 < i → i < 2 → 2 ≡ length (concat (take i ((S ∷ []) ∷ (T ∷ K ∷ []) ∷ []))) → ⊥
    only zero some inside is = omega arith
    only (suc zero) some inside is = absurd (omega (arith, is))
    only (suc (suc i)) some inside is = omega arith
