-- Which of the shortest examples a report has.
--     AreChosen entries words table rows     each row's words are those of the walk to the chosen hit
use Rattle.std.specs.Prelude.{ℕ, ◌≡◌, List, All, map, Some}
use Rattle.steno_rules.specs.Outlines.{entry_number, flagged_entries}
use Rattle.longest_match.specs.Rows.{Row}
use Rattle.dict_stack.specs.Stacks.{StackView}
use Rattle.closure_laws.specs.Examples.{IsChosen, example}

-- the outlines of a stack that are words
abbrev pub words_in_stack : StackView → List (List ℕ)
words_in_stack stack = flagged_entries stack.outlines stack.words

-- the walk to the chosen hit of the row's pair, back by the settled words of the table, spells the row's words
pub record IsChosenRow (entries words : List (List ℕ)) (table : List ℕ) (row : Row) : Type 0 where
  pub number : ℕ
  pub distance : ℕ
  pub hit : IsChosen entries words row.entry row.place number distance
  pub words_are : map Some row.words ≡ map (entry_number entries) (example entries words table distance number)

abbrev pub AreChosen : List (List ℕ) → List (List ℕ) → List ℕ → List Row → Type 0
AreChosen entries words table rows = All (IsChosenRow entries words table) rows
