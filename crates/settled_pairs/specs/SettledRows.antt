-- The rows of the pairs that stay.
--     AreSettledPairs entries words rows       the rows are exactly the pairs that stay
--     HasConflicts entries words rows          they have each pair that words show, with no more strokes
--     AreChosenRows entries words table rows   each row's words are those of its pair's chosen open hit
use Rattle.std.specs.Prelude.{ℕ, ◌<◌, ◌≤◌, ◌≡◌, List, ◌++◌, length, map, All, AllPairs, Contains, Some}
use Rattle.steno_rules.specs.Outlines.{entry_number, outline_of}
use Rattle.steno_rules.specs.Conflicts.{AreWordNumbers, Shows, joined_strokes}
use Rattle.longest_match.specs.Rows.{HasRow, IsBefore, Row}
use Rattle.settled_laws.specs.ChosenOpenHits.{IsChosenOpen, finished_example}
use Rattle.settled_laws.specs.OpenHits.{CanFinish}
use Rattle.settled_laws.specs.SettledPairs.{SettledPair, Stays}

-- the row's words have its pair, and no words of fewer strokes do
pub record IsShortestSettled (entries words : List (List ℕ)) (row : Row) : Type 0 where
  pub are_words : AreWordNumbers entries words row.words
  pub stays : Stays entries row.words row.entry row.place
  pub strokes : length (joined_strokes entries row.words) ≡ row.strokes
  pub least : (others : List ℕ) → AreWordNumbers entries words others
      → Stays entries others row.entry row.place
      → row.strokes ≤ length (joined_strokes entries others)

-- the rows are exactly the pairs that stay: each of them, in order and once, with a shortest sequence of words that has it
pub record AreSettledPairs (entries words : List (List ℕ)) (rows : List Row) : Type 0 where
  pub each : All (IsShortestSettled entries words) rows
  pub all : (entry place : ℕ) → SettledPair entries words entry place → HasRow rows entry place
  pub in_order : AllPairs IsBefore rows

-- some row has the pair, with at most n strokes
pub record HasRowWithin (rows : List Row) (entry place n : ℕ) : Type 0 where
  pub row : Row
  pub there : Contains rows row
  pub entry_is : row.entry ≡ entry
  pub place_is : row.place ≡ place
  pub within : row.strokes ≤ n

-- each pair that some words show has a row with no more strokes than they have
abbrev pub HasConflicts : List (List ℕ) → List (List ℕ) → List Row → Type 0
HasConflicts entries words rows =
    (ws : List ℕ) (entry place : ℕ) → AreWordNumbers entries words ws → Shows entries ws entry place
    → HasRowWithin rows entry place (length (joined_strokes entries ws))

-- the walk to the chosen open hit of the row's pair, back by the settled words of the table, and the word that is ended there
-- spell the row's words; of the words that so few strokes end it is the first one
pub record IsChosenPair (entries words : List (List ℕ)) (table : List ℕ) (row : Row) : Type 0 where
  pub number : ℕ
  pub distance : ℕ
  pub z : List ℕ
  pub hit : IsChosenOpen entries words row.entry row.place number distance z
  pub words_are : map Some row.words
      ≡ map (entry_number entries) (finished_example entries words table distance number hit.is.state.v z)
  pub first : (w other : ℕ) (y : List ℕ) → w < length entries → other < length entries
      → outline_of entries w ≡ hit.is.state.v ++ z → outline_of entries other ≡ hit.is.state.v ++ y
      → CanFinish entries words hit.is.state (outline_of entries row.entry) y → length y ≡ length z → w ≤ other

abbrev pub AreChosenRows : List (List ℕ) → List (List ℕ) → List ℕ → List Row → Type 0
AreChosenRows entries words table rows = All (IsChosenPair entries words table) rows
