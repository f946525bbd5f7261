-- What is expected of `parse`: whether the words can be read in one way only, and if not, two readings of fewest strokes.
--     IsParse stack result                the text, by what was found and by the counts of the search
--     IsReadOneWay stack old new status   the promise without the search: free, or two readings, first one first
use Rattle.std.specs.Prelude.{ℕ, ◌≡◌, ◌↔◌, List, Option, Some, None, IfSome}
use Rattle.std.specs.Io.KnownBytes.{append_known}
use Rattle.dict_stack.specs.Stacks.{StackView}
use Rattle.round_core.specs.Searches.{IsSearched, SettledView}
use Rattle.conflict_example.specs.Chosen.{words_in_stack}
use Rattle.reading_laws.specs.ForkNumbers.{fork_lists}
use Rattle.reading_laws.specs.Readings.{IsFree}
use Rattle.free_parse.specs.FoundReadings.{AreFewest, ParsedAs, ReadingsView}
use Rattle.free_parse.specs.ParseTexts.{parse_text}
use Rattle.audit_top.specs.Audited.{reached_count}
use Rattle.audit_top.specs.Outcomes.{Expected, prints}
use Rattle.audit_top.specs.declared.status.Status.{Status}
use Rattle.audit_top.specs.declared.status.Status.TheVariants.{Clean, Conflicts}

-- 0 where the words are free, else 1
abbrev pub parse_status : Option ReadingsView → Status
parse_status None = Clean
parse_status (Some two) = Conflicts

-- the text, by what was searched and what was found
abbrev pub parse_result : StackView → SettledView → Option ReadingsView → Expected
parse_result stack searched found =
    prints (parse_status found)
    (parse_text stack.outlines (reached_count searched.words) searched.rounds found)

-- none is found exactly where the words are free, and else two of fewest strokes, those that the settled words tell
pub record IsParse (stack : StackView) (result : Expected) : Type 0 where
  pub searched : SettledView
  pub found : Option ReadingsView
  pub search : IsSearched 0 (fork_lists stack.outlines (words_in_stack stack)) searched
  pub parsed : ParsedAs stack.outlines (words_in_stack stack) searched.words found
  pub produces : result ≡ parse_result stack searched found

-- what was added says that the words are free, exactly where no two different lists of words have the same joined strokes; or
-- it has two such lists of fewest strokes, of which the first has the least place of a boundary that the other lacks
pub record IsReadOneWay (stack : StackView) (old new : Option (List ℕ)) (status : Status)
    : Type 0 where
  pub found : Option ReadingsView
  pub states : ℕ
  pub rounds : ℕ
  pub text : new ≡ append_known old (parse_text stack.outlines states rounds found)
  pub free : (found ≡ None) ↔ IsFree (words_in_stack stack)
  pub fewest : IfSome found (AreFewest stack.outlines (words_in_stack stack))
  pub ends : status ≡ parse_status found
