-- The chosen ones of the shortest two readings: those of the walk to the end that the settled words tell.
use Rattle.std.specs.Prelude.{ℕ, ◌+◌, ◌-◌, ◌≤◌, ◌≡◌, Bool, true, false, not, ◌&&◌, nat_eq, List, [], ◌∷◌, ◌++◌, length, take, drop, map, filter, if◌then◌else◌}
use Rattle.std.specs.List.{concat}
use Rattle.steno_rules.specs.Outlines.{is_word}
use Rattle.steno_rules.specs.States.{strokes_in}
use Rattle.closure_laws.specs.Examples.{trail}
use Rattle.reading_laws.specs.Readings.{AreReadings, ComesFirst}
use Rattle.reading_laws.specs.Forks.{Fork, Same, Differ, End, has_open_words}
use Rattle.reading_laws.specs.ForkNumbers.{fork_at, end_number}

-- two readings have n strokes, none have fewer, and the first of them comes first
pub record AreShortest (words xs ys : List (List ℕ)) (n : ℕ) : Type 0 where
  pub are : AreReadings words xs ys
  pub strokes : length (concat xs) ≡ n
  pub least : (cs ds : List (List ℕ)) → AreReadings words cs ds → n ≤ length (concat cs)
  pub in_order : ComesFirst xs ys

-- ---- two readings on their way

-- the words that each has ended, and whether the longer of the two open words is the first reading's
pub record Halves : Type 0 where
  pub first : List (List ℕ)
  pub second : List (List ℕ)
  pub longer_is_first : Bool

-- nothing is read
abbrev pub no_halves : Halves
no_halves = record { first = []; second = []; longer_is_first = false }

-- the first reading, or the second, ends the word w
abbrev pub end_word : Bool → List ℕ → Halves → Halves
end_word true w h = record { first = h.first ++ w ∷ []; second = h.second; longer_is_first = h.longer_is_first }
end_word false w h = record { first = h.first; second = h.second ++ w ∷ []; longer_is_first = h.longer_is_first }

-- the longer open word is now this one's
abbrev pub longer_in : Bool → Halves → Halves
longer_in which h = record { first = h.first; second = h.second; longer_is_first = which }

-- the last stroke, as a list of one stroke
abbrev pub final_stroke : List ℕ → List ℕ
final_stroke w = drop (length w - 1) w

-- the longer open word p has gone on to w and the shorter, q, has ended; or p has ended, and q has gone on to w
abbrev pub one_ended : List ℕ → List ℕ → List ℕ → Halves → Halves
one_ended p q w h =
    if nat_eq (length w) (length p + 1) then (end_word (not h.longer_is_first) (q ++ final_stroke w) h)
    else (longer_in (not h.longer_is_first) (end_word h.longer_is_first (p ++ final_stroke w) h))

-- the readings after the move from one fork to another: where they differ for the first time the first one ends its word
abbrev pub halves_on : Fork → Fork → Halves → Halves
halves_on (Same p) (Same w) h = h
halves_on (Same p) (Differ w q) h = longer_in false (end_word true w h)
halves_on (Same p) End h = h
halves_on (Differ p q) (Same w) h = h
halves_on (Differ p q) (Differ w []) h = one_ended p q w h
halves_on (Differ p q) (Differ w (c ∷ r)) h = h
halves_on (Differ p q) End h = h
halves_on End t h = h

-- the last of these forks, of which the newest stands first; with none it is the start
abbrev pub newest : List Fork → Fork
newest [] = Same []
newest (s ∷ before) = s

-- the readings after the moves to these forks
abbrev pub halves_after : List Fork → Halves
halves_after [] = no_halves
halves_after (t ∷ before) = halves_on (newest before) t (halves_after before)

-- ---- the end

-- the least stroke by which both open words of the fork are words, as a list of one stroke
abbrev pub last_strokes_by : List (List ℕ) → Fork → List ℕ
last_strokes_by words (Same p) = []
last_strokes_by words (Differ p q) = take 1 (filter (λ c. is_word words (p ++ c ∷ []) && is_word words (q ++ c ∷ [])) (strokes_in words))
last_strokes_by words End = []

-- both end their words with these strokes, if there are some
abbrev pub both_ended : Fork → List ℕ → Halves → Halves
both_ended s [] h = h
both_ended (Same p) (c ∷ e) h = h
both_ended (Differ p q) (c ∷ e) h = end_word h.longer_is_first (p ++ c ∷ e) (end_word (not h.longer_is_first) (q ++ c ∷ e) h)
both_ended End (c ∷ e) h = h

-- the readings after the moves to these forks, of which the first is the end
abbrev pub halves_at_end : List (List ℕ) → List Fork → Halves
halves_at_end words [] = no_halves
halves_at_end words (t ∷ before) = both_ended (newest before) (last_strokes_by words (newest before)) (halves_after before)

-- the fork of a number, or the end where its open words can't be open
abbrev pub open_fork : List (List ℕ) → List (List ℕ) → ℕ → Fork
open_fork entries words n = if has_open_words words (fork_at entries n) then (fork_at entries n) else End

-- the chosen readings of n strokes
abbrev pub chosen_halves : List (List ℕ) → List (List ℕ) → List ℕ → ℕ → Halves
chosen_halves entries words table n = halves_at_end words (map (open_fork entries words) (trail table n (end_number entries)))
