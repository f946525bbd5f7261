-- What the commands print, and the limits of their stacks.
use Rattle.report.specs.declared.reports.Summary.{Summary}
use Rattle.outside.specs.Sink.{Puts}
use Rattle.outside.specs.declared.fault.OutsideFault.{OutsideFault}
use Rattle.conflict_example.specs.Chosen.{AreChosen, words_in_stack}
use Rattle.round_core.specs.Searches.{IsSearched, SettledView}
use Rattle.state_numbering.specs.declared.fault.NumberFault.TheVariants as numbers
use Rattle.state_numbering.specs.declared.fault.NumberFault.{NumberFault}
use Rattle.state_numbering.specs.Numberings.{NumberingView}
use Rattle.state_numbering.specs.Causes.{IsNumberCause, most_states}
use Rattle.longest_match.specs.Rows.{AreConflicts, Row}
use Rattle.closure_laws.proofs.GraphLemmas.{length-lists}
use Rattle.steno_rules.specs.States.{kept_targets}
use Rattle.steno_rules.specs.StateNumbers.{number_count}
use Rattle.steno_rules.specs.ClosureGraphs.{kept_lists}
use Rattle.graph_rules.specs.Graphs.{AreSettled, most_numbers}
use Rattle.std.proofs.Common.{ℕ, ◌≡◌, ◌<◌, ◌≤◌, ◌∙◌, List, [], ap, sym, subst, length, Option, Some, None, Result, Err, arith, ◌^◌, refl, IsSome, true≢false}
use Rattle.std.specs.Option.{unwrap_or}
use Rattle.steno_rules.specs.Nodes.{nodes}
use Rattle.steno_order.specs.Reading.{spelt_strokes}
use Rattle.steno_order.specs.Faults.{IsStrokesCause}
use Rattle.steno_order.specs.declared.faults.StrokesFault.{StrokesFault}
use Rattle.steno_order.specs.declared.faults.StrokesFault.TheVariants as strokes
use Rattle.steno_order.proofs.ListLaws.{none-spelt_strokes}
use Rattle.dict_stack.specs.Stacks.{StackView}
use Rattle.stroke.specs.declared.pieces.Piece.{Piece}
use Rattle.stroke.specs.Pieces.{pieces}
use Rattle.report.specs.Refusals.{RefusalView, too_many_nodes, too_many_states}
use Rattle.report.specs.Replays.{pieces_text, replay_text}
use Rattle.report.proofs.SegmentedReplays.{pieces_text-segments}
use Rattle.dict_files.specs.Refusals.{if_over, first_of}
use Rattle.dict_files.proofs.FirstRefusals.{if_over-over, if_over-within}
use Rattle.outline_trie.specs.Causes.{IsTrieCause}
use Rattle.outline_trie.specs.declared.trie.TrieFault.{TrieFault}
use Rattle.outline_trie.specs.declared.trie.TrieFault.TheVariants as trie
use Rattle.outline_trie.specs.declared.trie.TheConstants.Trie.{MAX_NODES}
use Rattle.audit_top.specs.Outcomes.{Expected, UnlessRefused, prints, trie_limit, search_limit}
use Rattle.audit_top.specs.Translated.{IsReplay}
use Rattle.audit_top.specs.Audited.{Made, PrintsConflicts, reached_count, summary_by, summary_of}
use Rattle.audit_top.specs.Runs.{OutputView}
use Rattle.audit_top.specs.inside.Answers.{Answers}
use Rattle.audit_top.specs.inside.Stops.{refusal_of_strokes, refusal_of_trie, stop_of, refusal_of_numbers}
use Rattle.audit_top.specs.declared.refusals.Refusal.{Refusal}
use Rattle.audit_top.specs.declared.status.Status.{Status}
use Rattle.audit_top.specs.declared.status.Status.TheVariants.{Clean}
use Rattle.audit_top.proofs.Stops.{ran-out, refused-first, unless-some}

-- the replay of the pieces that were found is the expected one
pub replay-is : (stack : StackView) (outline strokes : List ℕ) (found : List Piece) → spelt_strokes outline ≡ Some strokes → found ≡ pieces stack.outlines strokes
    → IsReplay outline stack (prints Clean (pieces_text stack strokes found))
replay-is stack outline strokes found read is =
    ap (λ (ps : List Piece). prints Clean (pieces_text stack strokes ps)) is
    ∙ ap (prints Clean) (pieces_text-segments stack strokes)
    ∙ ap (λ o. prints Clean (replay_text stack (unwrap_or o []))) (sym read)

-- what is printed of the conflicts that were found is an expected text
pub conflicts-are : (make : Made) (stack : StackView) (searched : SettledView) (rows : List Row) → AreConflicts stack.outlines (words_in_stack stack) rows → AreChosen stack.outlines (words_in_stack stack) searched.words rows
    → IsSearched 0 (kept_lists stack.outlines (words_in_stack stack)) searched → PrintsConflicts make stack (make stack searched rows)
conflicts-are make stack searched rows exact chosen search = record {
  rows = rows;
  searched = searched;
  exact = exact;
  chosen = chosen;
  search = search;
  produces = refl;
}

-- the strokes of a readable outline weren't read, so memory ran out
pub strokes-stopped : (May : Expected → Type 0) (text : List ℕ) (out : OutputView) (answer : Result Status Refusal) (refusal : Refusal) (fault : StrokesFault) → IsSome (spelt_strokes text) → IsStrokesCause text fault
    → answer ≡ Err refusal → refusal ≡ refusal_of_strokes fault → Answers May out out answer
strokes-stopped May text out answer refusal (strokes.Unreadable part) readable cause is by =
    let none = subst (λ o. IsSome o) (none-spelt_strokes text part cause) readable in
    absurd (true≢false (sym none))
strokes-stopped May text out answer refusal strokes.Memory readable cause is by = ran-out May out answer refusal is by

-- ---- the limit of nodes

pub trie-within : (stack : StackView) → length (nodes stack.outlines) ≤ MAX_NODES → trie_limit stack ≡ None
trie-within stack within = if_over-within MAX_NODES too_many_nodes (length (nodes stack.outlines)) within

pub trie-over : (stack : StackView) (count : ℕ) → MAX_NODES < length (nodes stack.outlines) → count ≡ length (nodes stack.outlines) → trie_limit stack ≡ Some (too_many_nodes count)
trie-over stack count over is = if_over-over MAX_NODES too_many_nodes (length (nodes stack.outlines)) over ∙ ap (λ (n : ℕ). Some (too_many_nodes n)) (sym is)

-- the trie has too many nodes, or memory ran out
pub trie-stopped : (May : Expected → Type 0) (stack : StackView) (limit : Option RefusalView) (out : OutputView) (answer : Result Status Refusal) (refusal : Refusal) (fault : TrieFault) (entries : List (List ℕ))
    → entries ≡ stack.outlines → ((count : ℕ) → MAX_NODES < length (nodes stack.outlines) → count ≡ length (nodes stack.outlines) → limit ≡ Some (too_many_nodes count))
    → IsTrieCause (length (nodes entries)) fault → answer ≡ Err refusal → refusal ≡ refusal_of_trie fault → Answers (UnlessRefused limit May) out out answer
trie-stopped May stack limit out answer refusal (trie.TooManyNodes count) entries are over cause is by =
    let cause' = subst (λ es. IsTrieCause (length (nodes es)) (trie.TooManyNodes count)) are cause in
    refused-first (UnlessRefused limit May) out answer refusal (too_many_nodes count) is (ap stop_of by) (unless-some limit May (too_many_nodes count) (over count cause'.1 cause'.0))
trie-stopped May stack limit out answer refusal trie.Memory entries are over cause is by = ran-out (UnlessRefused limit May) out answer refusal is by

-- ---- the limit of states

states_first : (stack : StackView) → length (nodes stack.outlines) ≤ MAX_NODES → search_limit stack ≡ if_over most_states too_many_states (number_count stack.outlines)
states_first stack within = ap (λ o. first_of o (if_over most_states too_many_states (number_count stack.outlines))) (trie-within stack within)

pub search-within : (stack : StackView) → length (nodes stack.outlines) ≤ MAX_NODES → number_count stack.outlines ≤ most_states → search_limit stack ≡ None
search-within stack nodes_few few = states_first stack nodes_few ∙ if_over-within most_states too_many_states (number_count stack.outlines) few

pub search-over_nodes : (stack : StackView) (count : ℕ) → MAX_NODES < length (nodes stack.outlines) → count ≡ length (nodes stack.outlines) → search_limit stack ≡ Some (too_many_nodes count)
search-over_nodes stack count over is = ap (λ o. first_of o (if_over most_states too_many_states (number_count stack.outlines))) (trie-over stack count over is)

pub search-over_states : (stack : StackView) (count : ℕ) → length (nodes stack.outlines) ≤ MAX_NODES → most_states < number_count stack.outlines → count ≡ number_count stack.outlines → search_limit stack ≡ Some (too_many_states count)
search-over_states stack count within over is = states_first stack within ∙ if_over-over most_states too_many_states (number_count stack.outlines) over ∙ ap (λ (n : ℕ). Some (too_many_states n)) (sym is)

-- a search within the limit of states has few words
pub few-numbers : (stack : StackView) (words : List (List ℕ)) (table : List ℕ) → number_count stack.outlines ≤ most_states → AreSettled 0 (kept_lists stack.outlines words) table → length table ≤ most_numbers
few-numbers stack words table few settled = let count = settled.count ∙ length-lists stack.outlines words (kept_targets stack.outlines words) in omega (arith, few, count)

pub few-words : (stack : StackView) (words : List (List ℕ)) (table : List ℕ) → number_count stack.outlines ≤ most_states → AreSettled 0 (kept_lists stack.outlines words) table → length table < 2 ^ 32
few-words stack words table few settled = let count = settled.count ∙ length-lists stack.outlines words (kept_targets stack.outlines words) in omega (arith, few, count)

-- ---- the parts of an audit

pub summary-is : (searched : SettledView) (rows : List Row) (states rounds conflicts : ℕ) (words : List ℕ) → words ≡ searched.words → states ≡ reached_count words → rounds ≡ searched.rounds → conflicts ≡ length rows
    → summary_by states rounds conflicts ≡ summary_of searched rows
summary-is searched rows states rounds conflicts words are reached in_rounds counted = rw (counted, in_rounds, reached, are) refl

-- what was put is a text of the expected summary
pub put-counts : {T : Type 0} (text : Summary → List ℕ) (result : Result T OutsideFault) (old new : Option (List ℕ)) (faults later : ℕ) (made expected : Summary) → made ≡ expected → Puts (text made) result old new faults later → Puts (text expected) result old new faults later
put-counts text result old new faults later made expected is puts = subst (λ (s : Summary). Puts (text s) result old new faults later) is puts

-- the closure graph of the numbering is that of the stack
pub of-graph : (stack : StackView) (graph numbering : NumberingView) (s : SettledView) → graph ≡ numbering → numbering.entries ≡ stack.outlines → numbering.words ≡ words_in_stack stack
    → IsSearched 0 (kept_lists graph.entries graph.words) s → IsSearched 0 (kept_lists stack.outlines (words_in_stack stack)) s
of-graph stack graph numbering s same entries words searched =
    subst (λ es. IsSearched 0 (kept_lists es (words_in_stack stack)) s) entries
    (subst (λ ws. IsSearched 0 (kept_lists numbering.entries ws) s) words
    (subst (λ (g : NumberingView). IsSearched 0 (kept_lists g.entries g.words) s) same searched))

-- there are too many states, or memory ran out
pub numbers-stopped : (May : Expected → Type 0) (stack : StackView) (out : OutputView) (answer : Result Status Refusal) (refusal : Refusal) (fault : NumberFault) (entries : List (List ℕ))
    → entries ≡ stack.outlines → length (nodes stack.outlines) ≤ MAX_NODES → IsNumberCause (number_count entries) fault → answer ≡ Err refusal → refusal ≡ refusal_of_numbers fault
    → Answers (UnlessRefused (search_limit stack) May) out out answer
numbers-stopped May stack out answer refusal (numbers.TooManyStates count) entries are within cause is by =
    let cause' = subst (λ es. IsNumberCause (number_count es) (numbers.TooManyStates count)) are cause in
    refused-first (UnlessRefused (search_limit stack) May) out answer refusal (too_many_states count) is (ap stop_of by)
    (unless-some (search_limit stack) May (too_many_states count) (search-over_states stack count within cause'.0 cause'.1))
numbers-stopped May stack out answer refusal numbers.Memory entries are within cause is by = ran-out (UnlessRefused (search_limit stack) May) out answer refusal is by
