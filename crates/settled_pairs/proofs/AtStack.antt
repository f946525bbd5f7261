-- What is found over a trie, told of its stack.
use Rattle.std.proofs.Common.{◌≡◌, ◌≤◌, sym, subst, length, List, ℕ, All}
use Rattle.graph_rules.specs.Graphs.{AreSettled}
use Rattle.steno_rules.specs.ClosureGraphs.{kept_lists}
use Rattle.steno_rules.specs.Outlines.{IsOutline}
use Rattle.steno_rules.specs.StateNumbers.{number_count}
use Rattle.steno_rules.specs.WordSets.{IsWordSet, WordFlags, words_in}
use Rattle.longest_match.specs.Rows.{AreSmall, Row}
use Rattle.state_numbering.specs.Numberings.{NumberingView, numbering_of}
use Rattle.conflict_example.specs.inside.Closures.{IsClosure}
use Rattle.settled_laws.specs.SettledPairs.{Stays}
use Rattle.settled_laws.proofs.SettledLemmas.{Stays-Shows}
use Rattle.settled_pairs.specs.SettledRows.{AreChosenRows, AreSettledPairs, HasConflicts, IsShortestSettled}
use Rattle.settled_pairs.specs.inside.FoundRows.{AreRowsBefore}
use Rattle.settled_pairs.proofs.RowSteps.{rows_chosen, rows_exact, rows_small}

-- The numbering of a trie and its words is what a search is of.
pub closure_of : (v : NumberingView) (entries : List (List ℕ)) (set : WordFlags) (table : List ℕ) → v ≡ numbering_of entries set → IsWordSet entries set →
    number_count v.entries ≤ 33554432 → AreSettled 0 (kept_lists entries (words_in entries set)) table → IsClosure v table
closure_of v entries set table is words few settled =
    let few' : number_count entries ≤ 33554432 = subst (λ (w : NumberingView). number_count w.entries ≤ 33554432) is few in
    subst (λ (w : NumberingView). IsClosure w table) (sym is) (record { are_entries = words.are_words.are_entries; are_words = words.are_words; few = few'; settled = settled })

-- The rows are exactly the pairs that stay,
pub exact_of : (entries words outlines ends : List (List ℕ)) (table : List ℕ) (rows : List Row) → entries ≡ outlines → words ≡ ends →
    AreRowsBefore entries words table (length entries) 1 rows → AreSettledPairs outlines ends rows
exact_of entries words outlines ends table rows is are h =
    subst (λ (ws : List (List ℕ)). AreSettledPairs outlines ws rows) are
    (subst (λ (es : List (List ℕ)). AreSettledPairs es words rows) is (rows_exact entries words table rows h))

-- which has all conflicts,
conflicts_in : (entries words : List (List ℕ)) (rows : List Row) → AreSettledPairs entries words rows → HasConflicts entries words rows
conflicts_in entries words rows h ws entry place are shows =
    let stays = Stays-Shows entries ws entry place shows in
    let has = h.all entry place (record { ws = ws; are_words = are; stays = stays }) in
    let shortest : IsShortestSettled entries words has.row = subst (IsShortestSettled entries words) has.there.2 (h.each has.there.0 has.row has.there.1) in
    record {
      row = has.row;
      there = has.there;
      entry_is = has.entry_is;
      place_is = has.place_is;
      within = shortest.least ws are (subst (λ e. Stays entries ws e has.row.place) (sym has.entry_is) (subst (λ p. Stays entries ws entry p) (sym has.place_is) stays));
    }

pub conflicts_of : (entries words outlines ends : List (List ℕ)) (table : List ℕ) (rows : List Row) → entries ≡ outlines → words ≡ ends →
    AreRowsBefore entries words table (length entries) 1 rows → HasConflicts outlines ends rows
conflicts_of entries words outlines ends table rows is are h = conflicts_in outlines ends rows (exact_of entries words outlines ends table rows is are h)

-- with the chosen examples,
pub chosen_of : (entries words outlines ends : List (List ℕ)) (table : List ℕ) (rows : List Row) → entries ≡ outlines → words ≡ ends →
    AreRowsBefore entries words table (length entries) 1 rows → AreChosenRows outlines ends table rows
chosen_of entries words outlines ends table rows is are h =
    subst (λ (ws : List (List ℕ)). AreChosenRows outlines ws table rows) are
    (subst (λ (es : List (List ℕ)). AreChosenRows es words table rows) is (rows_chosen entries words table rows h))

-- and small.
pub small_of : (entries words outlines : List (List ℕ)) (table : List ℕ) (rows : List Row) → entries ≡ outlines → All IsOutline outlines → length outlines ≤ 1048576 →
    AreRowsBefore entries words table (length entries) 1 rows → AreSmall outlines rows
small_of entries words outlines table rows is are few h =
    subst (λ (es : List (List ℕ)). AreSmall es rows) is
    (rows_small entries words table rows (subst (All IsOutline) (sym is) are)
    (subst (λ (es : List (List ℕ)). length es ≤ 1048576) (sym is) few) h)
