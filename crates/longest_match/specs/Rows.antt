-- The rows of a report: pairs of an entry and an inner place of it, each with words that show it.
--     IsShortest entries words row        the row's words show its pair, in as few strokes as any words do
--     AreConflicts entries words rows     the rows are exactly the conflicts
--     AreSmall entries rows               the rows' numbers are small enough to be written
use Rattle.std.specs.Prelude.{ℕ, ◌≡◌, ◌<◌, ◌≤◌, ◌^◌, ◌⊎◌, List, length, All, AllPairs, Contains}
use Rattle.steno_rules.specs.Conflicts.{AreEntryNumbers, AreWordNumbers, Conflict, Shows, joined_strokes}

-- a pair of an entry and a place, and words of so many strokes
pub record Row : Type 0 where
  pub entry : ℕ
  pub place : ℕ
  pub strokes : ℕ
  pub words : List ℕ

-- the words show the pair, and no words of fewer strokes do
pub record IsShortest (entries words : List (List ℕ)) (row : Row) : Type 0 where
  pub are_words : AreWordNumbers entries words row.words
  pub shown : Shows entries row.words row.entry row.place
  pub strokes : length (joined_strokes entries row.words) ≡ row.strokes
  pub least : (others : List ℕ) → AreWordNumbers entries words others
      → Shows entries others row.entry row.place
      → row.strokes ≤ length (joined_strokes entries others)

-- the order of rows: by entry, and then by place
abbrev pub IsBefore : Row → Row → Type 0
IsBefore a b = (a.entry < b.entry) ⊎ ((a.entry ≡ b.entry) × (a.place < b.place))

-- some row has the pair
pub record HasRow (rows : List Row) (entry place : ℕ) : Type 0 where
  pub row : Row
  pub there : Contains rows row
  pub entry_is : row.entry ≡ entry
  pub place_is : row.place ≡ place

-- the rows are exactly the conflicts: each of them, in order and once, with a shortest sequence of words that shows it
pub record AreConflicts (entries words : List (List ℕ)) (rows : List Row) : Type 0 where
  pub each : All (IsShortest entries words) rows
  pub all : (entry place : ℕ) → Conflict entries words entry place → HasRow rows entry place
  pub in_order : AllPairs IsBefore rows

-- a row has fewer words
abbrev pub word_limit : ℕ
word_limit = 2 ^ 26

-- a report has fewer rows
abbrev pub row_limit : ℕ
row_limit = 2 ^ 32

-- the row's numbers are those of entries, and its words are some, but not too many
pub record IsSmall (entries : List (List ℕ)) (row : Row) : Type 0 where
  pub entry : row.entry < length entries
  pub words : AreEntryNumbers entries row.words
  pub some : 0 < length row.words
  pub few : length row.words < word_limit

-- each row is small, and so is their count
pub record AreSmall (entries : List (List ℕ)) (rows : List Row) : Type 0 where
  pub each : All (IsSmall entries) rows
  pub few : length rows < row_limit
