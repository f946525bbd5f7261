-- The words of two readings by the numbers of entries.
--     found_numbers entries ws    the numbers of those outlines that are entries
--     AreNumbersOf entries h n    the numbers are those of the words of h
use Rattle.std.specs.Prelude.{ℕ, ◌≡◌, List, flat_map}
use Rattle.steno_rules.specs.Outlines.{entry_number}
use Rattle.closure_state.specs.Waits.{some_listed}
use Rattle.reading_laws.specs.ChosenReadings.{Halves, both_ended, halves_after, last_strokes_by, newest}
use Rattle.reading_laws.specs.Forks.{Fork}
use Rattle.free_parse.specs.declared.halves.NumberedHalves.{NumberedHalves}

abbrev pub found_numbers : List (List ℕ) → List (List ℕ) → List ℕ
found_numbers entries ws = flat_map (λ w. some_listed (entry_number entries w)) ws

pub record AreNumbersOf (entries : List (List ℕ)) (h : Halves) (n : NumberedHalves) : Type 0 where
  pub first_are : n.first.items ≡ found_numbers entries h.first
  pub second_are : n.second.items ≡ found_numbers entries h.second
  pub flag_is : n.longer_is_first ≡ h.longer_is_first

-- the readings after the moves to these forks, of which the newest stands first, and the move to the end
abbrev pub ended_after : List (List ℕ) → List Fork → Halves
ended_after words forks = both_ended (newest forks) (last_strokes_by words (newest forks)) (halves_after forks)
