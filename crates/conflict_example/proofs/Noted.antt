-- What one reached number changes, and what the chosen hits are in the end.
use Rattle.std.proofs.Common.{◌≡◌, ◌≢◌, ℕ, ◌+◌, ◌/◌, ◌%◌, ◌<◌, ◌≤◌, min, List, length, get_or, set, refl, sym, ap, subst, ◌∙◌, arith, inl, inr, Some}
use Rattle.std.proofs.lemmas.Nat.{div-mul-add, mod-mul-add, div-add-mod'}
use Rattle.std.proofs.lemmas.List.{get_or-set_same, get_or-set_other, length-set}
use Rattle.graph_rules.specs.Graphs.{unreached, IsSettledWord, IsBest}
use Rattle.steno_rules.specs.Outlines.{AreEntries}
use Rattle.steno_rules.specs.ClosureGraphs.{kept_lists}
use Rattle.steno_rules.specs.Conflicts.{Conflict}
use Rattle.steno_rules.specs.StateNumbers.{number_count, state_of_number}
use Rattle.steno_rules.specs.States.{State, IsHit, kept_targets}
use Rattle.closure_laws.proofs.GraphLemmas.{length-lists}
use Rattle.closure_laws.specs.Examples.{example}
use Rattle.state_numbering.specs.Numberings.{NumberingView}
use Rattle.conflict_example.specs.inside.Closures.{IsClosure, IsWalkEnd}
use Rattle.conflict_example.specs.inside.FirstHits.{AreFirst, IsFirstHit, IsFirstOf, hit_word}
use Rattle.conflict_example.specs.inside.FoundRows.{IsFoundRow}
use Rattle.pair_slots.specs.Slots.{slot_of}
use Rattle.conflict_example.specs.inside.Spellings.{numbers_among}
use Rattle.conflict_example.proofs.FirstHits.{first_chosen, first_with, first_without, none_left}
use Rattle.conflict_example.proofs.FoundRows.{row_found}
use Rattle.conflict_example.proofs.SettledWords.{reached_best, unreached_none}
use Rattle.pair_slots.proofs.Slots.{hit_inside, slot_below}

-- the graph has as many numbers
pub graph_count : (entries words : List (List ℕ)) → length (kept_lists entries words) ≡ number_count entries
graph_count entries words = length-lists entries words (kept_targets entries words)

-- a hit's word, by the settled word of its number, is small
word_small : (word number : ℕ) → word < 18446744073709551616 → number < 33554432 → hit_word (word / 4294967296) number < unreached
word_small word number fits low = omega (arith, div-add-mod' word 4294967296)

-- A reached number that is a hit is noted in its pair's slot.
pub noted : (entries words : List (List ℕ)) (number word : ℕ) (s : State) (e place slot kept : ℕ) (best new : List ℕ) → AreEntries entries → number_count entries ≤ 33554432 →
    number < number_count entries → word < 18446744073709551616 → IsSettledWord 0 (kept_lists entries words) number word → word ≢ unreached →
    state_of_number entries words number ≡ Some s → e < length entries → IsHit entries s e place →
    slot ≡ slot_of entries e place → kept ≡ hit_word (word / 4294967296) number → new ≡ set best slot (min (get_or best slot 0) kept) →
    AreFirst entries words number best → AreFirst entries words (number + 1) new
noted entries words number word s e place slot kept best new are few below fits settled reached is inside hit slot_is kept_is new_is h =
    let pair = hit_inside entries s e place inside hit in
    let n : ℕ = word / 4294967296 in
    let best_is = reached_best (kept_lists entries words) number word (omega (arith, graph_count entries words, few)) settled reached in
    let fits_slot : slot < length best = omega (arith, slot_is, h.count, slot_below entries e place pair) in
    first_with entries words number n e place best new are pair (record { state = s; is = is; hit = hit; best = best_is })
    (word_small word number fits (omega (arith, below, few)))
    (ap length new_is ∙ length-set best slot (min (get_or best slot 0) kept))
    (ap (λ k. get_or new k 0) (sym slot_is) ∙ ap (λ l. get_or l slot 0) new_is ∙ get_or-set_same best slot (min (get_or best slot 0) kept) 0 fits_slot
    ∙ ap (λ k. min (get_or best k 0) kept) slot_is ∙ ap (min (get_or best (slot_of entries e place) 0)) kept_is)
    (λ k other. ap (λ l. get_or l k 0) new_is ∙ get_or-set_other best slot k (min (get_or best slot 0) kept) 0 (λ same. other (same ∙ slot_is))) h

-- A reached number that is no hit changes nothing,
pub not_noted : (entries words : List (List ℕ)) (number : ℕ) (best : List ℕ) →
    ((s : State) (e place : ℕ) → state_of_number entries words number ≡ Some s → IsHit entries s e place → ⊥) →
    AreFirst entries words number best → AreFirst entries words (number + 1) best
not_noted entries words number best none h = first_without entries words number best (λ e place k hit. none hit.state e place hit.is hit.hit) h

-- and neither does one that isn't reached.
pub passed : (entries words : List (List ℕ)) (number word : ℕ) (best : List ℕ) → number_count entries ≤ 33554432 → IsSettledWord 0 (kept_lists entries words) number word → word ≡ unreached →
    AreFirst entries words number best → AreFirst entries words (number + 1) best
passed entries words number word best few settled none h =
    first_without entries words number best
    (λ e place k hit. unreached_none (kept_lists entries words) number word k (omega (arith, graph_count entries words, few)) settled none hit.best) h

-- ---- the word of a chosen hit

-- the two halves of a hit's word
halves : (n number hit : ℕ) → number < 4294967296 → hit ≡ hit_word n number → (hit / 4294967296 ≡ n) × (hit % 4294967296 ≡ number)
halves n number hit low is =
    (ap (λ w. w / 4294967296) is ∙ div-mul-add n 4294967296 number low, ap (λ w. w % 4294967296) is ∙ mod-mul-add n 4294967296 number low)

-- A shortest walk leads to a chosen hit.
pub walk_of_hit : (v : NumberingView) (table : List ℕ) (e place hit : ℕ) → IsClosure v table → IsFirstHit v.entries v.words e place (number_count v.entries) hit →
    IsWalkEnd table (hit % 4294967296) (hit / 4294967296)
walk_of_hit v table e place hit c h =
    let parts = halves h.n h.number hit (omega (arith, h.below, c.few)) h.word_is in
    let lists : List (List ℕ) = kept_lists v.entries v.words in
    record {
      lists = lists;
      few = omega (arith, graph_count v.entries v.words, c.few);
      settled = c.settled;
      below = omega (arith, parts.1, h.below, c.settled.count, graph_count v.entries v.words);
      best = subst (λ s. IsBest 0 lists s (hit / 4294967296)) (sym parts.1) (subst (IsBest 0 lists h.number) (sym parts.0) h.is.best);
    }

-- The walk to it makes the pair's row.
pub row_of_hit : (v : NumberingView) (table : List ℕ) (e place hit : ℕ) (ws : List ℕ) → IsClosure v table → IsFirstHit v.entries v.words e place (number_count v.entries) hit →
    e < length v.entries → ws ≡ numbers_among v.entries (example v.entries v.words table (hit / 4294967296) (hit % 4294967296)) →
    IsFoundRow v.entries v.words table (record { entry = e; place = place; strokes = hit / 4294967296; words = ws })
row_of_hit v table e place hit ws c h inside is =
    let parts = halves h.n h.number hit (omega (arith, h.below, c.few)) h.word_is in
    let chosen = first_chosen v.entries v.words e place (number_count v.entries) hit c.are_words refl c.few h in
    let is' = subst (λ k. ws ≡ numbers_among v.entries (example v.entries v.words table k (hit % 4294967296))) parts.0 is in
    let is'' = subst (λ s. ws ≡ numbers_among v.entries (example v.entries v.words table h.n s)) parts.1 is' in
    let row = row_found v.entries v.words table e place h.number h.n ws c.are_entries c.are_words c.few c.settled inside chosen is'' in
    subst (λ k. IsFoundRow v.entries v.words table (record { entry = e; place = place; strokes = k; words = ws })) (sym parts.0) row

-- ---- the word in a slot

-- A word that isn't the greatest is that of a hit.
pub slot_hit : (entries words : List (List ℕ)) (e place bound word : ℕ) → IsFirstOf entries words e place bound word → word ≢ unreached → IsFirstHit entries words e place bound word
slot_hit entries words e place bound word (inl none) some = absurd (some none.1)
slot_hit entries words e place bound word (inr hit) some = hit

-- the greatest word is that of no hit
hit_small : (entries words : List (List ℕ)) (e place bound word : ℕ) → bound ≤ 33554432 → IsFirstHit entries words e place bound word → word ≡ unreached → ⊥
hit_small entries words e place bound word few h is = absurd (omega (arith, h.below, h.word_is, is, few))

-- Where it is the greatest the pair is no conflict.
pub slot_none : (v : NumberingView) (table : List ℕ) (e place word : ℕ) → IsClosure v table → IsFirstOf v.entries v.words e place (number_count v.entries) word → word ≡ unreached →
    Conflict v.entries v.words e place → ⊥
slot_none v table e place word c (inl none) is conflict = none_left v.entries v.words table e place (number_count v.entries) c.are_words c.settled refl none.0 conflict
slot_none v table e place word c (inr hit) is conflict =
    hit_small v.entries v.words e place (number_count v.entries) word c.few hit is
