-- What is found over a numbering, told of its stack or its entries.
use Rattle.std.proofs.Common.{◌≡◌, ◌+◌, ◌≤◌, sym, subst, length, List, ℕ, All}
use Rattle.graph_rules.specs.Graphs.{AreSettled}
use Rattle.steno_rules.specs.ClosureGraphs.{kept_lists}
use Rattle.steno_rules.specs.Outlines.{AreWords, IsOutline}
use Rattle.steno_rules.specs.StateNumbers.{number_count}
use Rattle.longest_match.specs.Rows.{AreConflicts, AreSmall, Row}
use Rattle.dict_stack.specs.Stacks.{StackView}
use Rattle.state_numbering.specs.Numberings.{NumberingView}
use Rattle.conflict_example.specs.Chosen.{AreChosen, words_in_stack}
use Rattle.conflict_example.specs.EntryConflicts.{AreConflictsOf}
use Rattle.conflict_example.specs.inside.Closures.{IsClosure}
use Rattle.conflict_example.specs.inside.FoundRows.{AreRowsBetween}
use Rattle.conflict_example.proofs.RowSteps.{rows_chosen, rows_exact, rows_of_one, rows_small}

pub closure_of : (v : NumberingView) (table : List ℕ) → AreWords v.entries v.words → number_count v.entries ≤ 33554432 → AreSettled 0 (kept_lists v.entries v.words) table → IsClosure v table
closure_of v table are few settled = record { are_entries = are.are_entries; are_words = are; few = few; settled = settled }

-- The rows of all entries,
pub exact_of : (v : NumberingView) (stack : StackView) (table : List ℕ) (rows : List Row) → v.entries ≡ stack.outlines → v.words ≡ words_in_stack stack →
    AreRowsBetween v.entries v.words table 0 (length v.entries) 1 rows → AreConflicts stack.outlines (words_in_stack stack) rows
exact_of v stack table rows entries words h =
    subst (λ (ws : List (List ℕ)). AreConflicts stack.outlines ws rows) words
    (subst (λ (es : List (List ℕ)). AreConflicts es v.words rows) entries (rows_exact v.entries v.words table rows h))

-- and of one alone.
pub one_of : (v : NumberingView) (entries : List (List ℕ)) (table : List ℕ) (e : ℕ) (rows : List Row) → v.entries ≡ entries →
    AreRowsBetween v.entries v.words table e (e + 1) 1 rows → AreConflictsOf entries v.words e rows
one_of v entries table e rows is h = subst (λ (es : List (List ℕ)). AreConflictsOf es v.words e rows) is (rows_of_one v.entries v.words table e rows h)

pub chosen_of : (v : NumberingView) (entries words : List (List ℕ)) (table : List ℕ) (from e place : ℕ) (rows : List Row) → v.entries ≡ entries → v.words ≡ words →
    AreRowsBetween v.entries v.words table from e place rows → AreChosen entries words table rows
chosen_of v entries words table from e place rows is are h =
    subst (λ (ws : List (List ℕ)). AreChosen entries ws table rows) are
    (subst (λ (es : List (List ℕ)). AreChosen es v.words table rows) is (rows_chosen v.entries v.words table from e place rows h))

pub small_of : (v : NumberingView) (entries : List (List ℕ)) (table : List ℕ) (from e : ℕ) (rows : List Row) → v.entries ≡ entries →
    All IsOutline entries → length entries ≤ 1048576 → e ≤ length entries →
    AreRowsBetween v.entries v.words table from e 1 rows → AreSmall entries rows
small_of v entries table from e rows is are few within h =
    subst (λ (es : List (List ℕ)). AreSmall es rows) is
    (rows_small v.entries v.words table from e rows (subst (All IsOutline) (sym is) are)
    (subst (λ (es : List (List ℕ)). length es ≤ 1048576) (sym is) few)
    (subst (λ (es : List (List ℕ)). e ≤ length es) (sym is) within) h)
