-- What a trial of a brief finds: the conflicts that the brief would have beside some entries and words.
--     with_brief outlines brief                 the outlines with the brief at its place, unless it is there
--     IsTrial entries words brief trial         the conflicts of the brief, where it is an entry and a word too
--     AreTrials entries words briefs trials     those of each brief, in the order given
use Rattle.std.specs.Prelude.{ℕ, ◌≡◌, Bool, List, Some}
use Rattle.std.specs.List.{AllZip}
use Rattle.graph_rules.specs.Graphs.{AreSettled}
use Rattle.steno_rules.specs.ClosureGraphs.{kept_lists}
use Rattle.steno_rules.specs.Nodes.{insert_new}
use Rattle.steno_rules.specs.Outlines.{entry_number, is_entry}
use Rattle.longest_match.specs.Rows.{AreSmall, Row}
use Rattle.conflict_example.specs.Chosen.{AreChosen}
use Rattle.conflict_example.specs.EntryConflicts.{AreConflictsOf}

-- a brief, its number in its trial stack, whether it was an entry before, and its conflicts by the numbers of the trial stack
pub record TrialView : Type 0 where
  pub brief : List ℕ
  pub entry : ℕ
  pub held : Bool
  pub conflicts : List Row

-- the outlines with the brief at its place, unless it is there: the entries of the trial stack, and its words
abbrev pub with_brief : List (List ℕ) → List ℕ → List (List ℕ)
with_brief outlines brief = insert_new outlines brief

-- the trial has exactly the conflicts of the brief's entry over the trial stack, each with its chosen shortest example
pub record IsTrial (entries words : List (List ℕ)) (brief : List ℕ) (trial : TrialView) : Type 0 where
  pub tried : trial.brief ≡ brief
  pub numbered : entry_number (with_brief entries brief) brief ≡ Some trial.entry
  pub held_is : trial.held ≡ is_entry entries brief
  pub exact : AreConflictsOf (with_brief entries brief) (with_brief words brief) trial.entry
      trial.conflicts
  pub table : List ℕ
  pub settled : AreSettled 0 (kept_lists (with_brief entries brief) (with_brief words brief)) table
  pub chosen : AreChosen (with_brief entries brief) (with_brief words brief) table trial.conflicts

-- there is one trial for each brief, in the order of the briefs
abbrev pub AreTrials : List (List ℕ) → List (List ℕ) → List (List ℕ) → List TrialView → Type 0
AreTrials entries words briefs trials = AllZip (IsTrial entries words) briefs trials

-- the numbers of the trial's conflicts are those of the entries of its trial stack, and small enough to be written
abbrev pub IsSmallTrial : List (List ℕ) → TrialView → Type 0
IsSmallTrial entries trial = AreSmall (with_brief entries trial.brief) trial.conflicts
