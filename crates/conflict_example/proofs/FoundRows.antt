-- The row of a chosen hit.
use Rattle.std.proofs.Common.{◌≡◌, ℕ, ◌<◌, ◌≤◌, List, [], ◌∷◌, length, map, sym, ap, subst, ◌∙◌, arith, length-append}
use Rattle.std.proofs.lemmas.List.Elements.{All-head, All-tail}
use Rattle.graph_rules.specs.Graphs.{AreSettled}
use Rattle.graph_rules.proofs.Distances.{best_below}
use Rattle.steno_rules.specs.Outlines.{AreEntries, AreWords, entry_number, outline_of}
use Rattle.steno_rules.specs.Conflicts.{AreEntryNumbers, AreWordNumbers, IsLeast, Shows, outlines_of, joined_strokes}
use Rattle.steno_rules.specs.ClosureGraphs.{kept_lists}
use Rattle.steno_rules.specs.StateNumbers.{number_count}
use Rattle.steno_rules.specs.States.{kept_targets}
use Rattle.closure_laws.specs.Examples.{IsChosen, example}
use Rattle.closure_laws.proofs.ExampleLemmas.{example_numbers, example_shows}
use Rattle.closure_laws.proofs.ChosenLemmas.{chosen_least}
use Rattle.closure_laws.proofs.GraphLemmas.{length-lists}
use Rattle.conflict_example.specs.inside.Spellings.{numbers_among}
use Rattle.conflict_example.specs.inside.FoundRows.{IsFoundRow}
use Rattle.conflict_example.proofs.FirstHits.{hit_below}
use Rattle.conflict_example.proofs.Spellings.{numbers_among-words, numbers_of_words}

-- words have at least as many strokes
words_few : (entries : List (List ℕ)) (ws : List ℕ) → AreEntries entries → AreEntryNumbers entries ws → length ws ≤ length (joined_strokes entries ws)
words_few entries [] are h = omega arith
words_few entries (w ∷ ws) are h =
    let below : w < length entries = All-head (λ w. w < length entries) w ws h in
    let some : 0 < length (outline_of entries w) = are.not_empty w [] below in
    let rest = words_few entries ws are (All-tail (λ w. w < length entries) w ws h) in
    omega (arith, some, rest, length-append (outline_of entries w) (joined_strokes entries ws))

-- no words show nothing
none_show : (entries : List (List ℕ)) (ws : List ℕ) (e place : ℕ) → Shows entries ws e place → 0 < length ws
none_show entries [] e place h = let piece = h.piece in absurd cc
none_show entries (w ∷ ws) e place h = omega arith

-- the numbers of words are those of entries
entry_numbers_of : (entries words : List (List ℕ)) (ws : List ℕ) → AreWordNumbers entries words ws → AreEntryNumbers entries ws
entry_numbers_of entries words ws h k d below = (h k d below).0

-- the number of a hit is one of those of the graph
number_in_lists : (entries words : List (List ℕ)) (e place number n : ℕ) → AreWords entries words → IsChosen entries words e place number n →
    number < length (kept_lists entries words)
number_in_lists entries words e place number n are chosen =
    omega (arith, hit_below entries words e place number n are chosen.is, length-lists entries words (kept_targets entries words))

-- The numbers of the example of a chosen hit make a row.
pub row_found : (entries words : List (List ℕ)) (table : List ℕ) (e place number n : ℕ) (ws : List ℕ) → AreEntries entries → AreWords entries words →
    number_count entries ≤ 33554432 → AreSettled 0 (kept_lists entries words) table → e < length entries → IsChosen entries words e place number n →
    ws ≡ numbers_among entries (example entries words table n number) → IsFoundRow entries words table (record { entry = e; place = place; strokes = n; words = ws })
row_found entries words table e place number n ws are are_words few settled inside chosen is =
    let law = example_numbers entries words table e place number n are_words (omega arith) settled chosen.is in
    let same : ws ≡ law.0 = is ∙ ap (numbers_among entries) (sym law.2) ∙ numbers_among-words entries words law.0 are law.1 in
    let numbers : AreWordNumbers entries words ws = subst (AreWordNumbers entries words) (sym same) law.1 in
    let outlines : outlines_of entries ws ≡ example entries words table n number = ap (outlines_of entries) same ∙ law.2 in
    let shown = example_shows entries words table e place number n are_words (omega arith) settled chosen.is ws outlines in
    let least : IsLeast entries words e place n = chosen_least entries words table e place number n are_words settled chosen in
    let entry_numbers = entry_numbers_of entries words ws numbers in
    record {
      shortest = record { are_words = numbers; shown = shown.0; strokes = shown.1; least = least.least };
      chosen = record { number = number; distance = n; hit = chosen; words_are = numbers_of_words entries words ws are numbers ∙ ap (map (entry_number entries)) outlines };
      small = record {
        entry = inside;
        words = entry_numbers;
        some = none_show entries ws e place shown.0;
        few = let short = words_few entries ws are entry_numbers in
            let steps = best_below 0 (kept_lists entries words) number n (number_in_lists entries words e place number n are_words chosen) chosen.is.best in
            omega (arith, short, shown.1, steps, length-lists entries words (kept_targets entries words));
      };
    }
