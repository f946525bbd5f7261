-- What is expected of `settled`.
--     IsSettled stack result     the rows are exactly the pairs that stay
use Rattle.std.specs.Prelude.{◌≡◌, List}
use Rattle.steno_rules.specs.ClosureGraphs.{kept_lists}
use Rattle.dict_stack.specs.Stacks.{StackView}
use Rattle.longest_match.specs.Rows.{Row}
use Rattle.round_core.specs.Searches.{IsSearched, SettledView}
use Rattle.conflict_example.specs.Chosen.{words_in_stack}
use Rattle.report.specs.Reports.{settled_text}
use Rattle.settled_pairs.specs.SettledRows.{AreChosenRows, AreSettledPairs, HasConflicts}
use Rattle.audit_top.specs.Audited.{summary_of}
use Rattle.audit_top.specs.Outcomes.{Expected, prints}
use Rattle.audit_top.specs.Statuses.{audit_status}

-- the counts of the search and the rows
abbrev pub settled_result : StackView → SettledView → List Row → Expected
settled_result stack searched rows =
    prints (audit_status rows) (settled_text stack (summary_of searched rows) rows)

-- the rows are exactly the pairs that stay, each with words of fewest strokes that have it, and each conflict is among them
pub record IsSettled (stack : StackView) (result : Expected) : Type 0 where
  pub rows : List Row
  pub searched : SettledView
  pub exact : AreSettledPairs stack.outlines (words_in_stack stack) rows
  pub conflicts : HasConflicts stack.outlines (words_in_stack stack) rows
  pub chosen : AreChosenRows stack.outlines (words_in_stack stack) searched.words rows
  pub search : IsSearched 0 (kept_lists stack.outlines (words_in_stack stack)) searched
  pub produces : result ≡ settled_result stack searched rows
