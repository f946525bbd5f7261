-- The text of trials.
--     trials_text entries trials    for each brief its line, and a line for each of its conflicts
--     IsWritable entries trial      the trial's numbers are those of its trial stack over these entries
use Rattle.std.specs.Prelude.{ℕ, ◌≡◌, ◌<◌, List, [], ◌∷◌, ◌++◌, length, flat_map, All, Some, codes, decimal}
use Rattle.steno_rules.specs.Conflicts.{AreEntryNumbers}
use Rattle.steno_rules.specs.Outlines.{entry_number, is_entry}
use Rattle.longest_match.specs.Rows.{Row}
use Rattle.text_rules.specs.Lines.{line}
use Rattle.steno_order.specs.Canonical.{canonical_text}
use Rattle.report.specs.Reports.{words_text}
use Rattle.brief_trial.specs.Trials.{TrialView, with_brief}

-- the line of a conflict, whose words are numbers of these outlines
abbrev pub conflict_line : List (List ℕ) → Row → List ℕ
conflict_line outlines row =
    line (codes "place" ∷ decimal row.place ∷ codes "strokes" ∷ decimal row.strokes
    ∷ codes "words" ∷ words_text outlines row.words ∷ [])

-- the line of a brief, with the count of its conflicts
abbrev pub brief_line : TrialView → List ℕ
brief_line trial =
    line (codes "try" ∷ canonical_text trial.brief
    ∷ codes "conflicts" ∷ decimal (length trial.conflicts) ∷ [])

-- the lines of a brief over these entries
abbrev pub trial_text : List (List ℕ) → TrialView → List ℕ
trial_text entries trial =
    brief_line trial ++ flat_map (conflict_line (with_brief entries trial.brief)) trial.conflicts

abbrev pub trials_text : List (List ℕ) → List TrialView → List ℕ
trials_text entries trials = flat_map (trial_text entries) trials

-- a conflict has one word or more, and each is a number of these outlines
pub record HasWords (outlines : List (List ℕ)) (row : Row) : Type 0 where
  pub words : AreEntryNumbers outlines row.words
  pub some : 0 < length row.words

-- the trial says whether these entries have the brief; its number and those of words are numbers of the trial stack
pub record IsWritable (entries : List (List ℕ)) (trial : TrialView) : Type 0 where
  pub held_is : trial.held ≡ is_entry entries trial.brief
  pub numbered : entry_number (with_brief entries trial.brief) trial.brief ≡ Some trial.entry
  pub each : All (HasWords (with_brief entries trial.brief)) trial.conflicts
