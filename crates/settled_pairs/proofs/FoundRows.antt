-- The row of a chosen open hit.
use Rattle.std.proofs.Common.{◌≡◌, ◌≢◌, ℕ, ◌+◌, ◌-◌, ◌/◌, ◌%◌, ◌<◌, ◌≤◌, List, [], ◌∷◌, ◌++◌, length, map, All, refl, sym, ap, ap₂, subst, ◌∙◌, arith, inl, inr, Option, Some, None, append-nil, length-append}
use Rattle.std.proofs.lemmas.List.{length-map, get_or_default}
use Rattle.std.proofs.lemmas.List.Elements.{All-head, All-tail}
use Rattle.graph_rules.specs.Graphs.{AreSettled, IsBest, unreached}
use Rattle.graph_rules.proofs.Distances.{best_below}
use Rattle.steno_rules.specs.Outlines.{AreEntries, AreWords, IsOutline, entry_number, outline_of}
use Rattle.steno_rules.specs.Conflicts.{AreEntryNumbers, AreWordNumbers, outlines_of, joined_strokes}
use Rattle.steno_rules.specs.ClosureGraphs.{kept_lists}
use Rattle.steno_rules.specs.States.{State}
use Rattle.steno_rules.specs.StateNumbers.{number_count, state_number, state_of_number}
use Rattle.steno_rules.proofs.Entries.{is_entry-Decides}
use Rattle.steno_rules.proofs.Numbers.{entry_number-outline_of, outline_of-once}
use Rattle.steno_rules.proofs.Words.{word_is_entry}
use Rattle.closure_laws.specs.Examples.{example}
use Rattle.closure_laws.proofs.HitNumberLemmas.{best_of_state}
use Rattle.closure_laws.proofs.NumberStateLemmas.{state_of_number-there}
use Rattle.closure_laws.proofs.StateLemmas.{IsState-Walk}
use Rattle.conflict_example.specs.inside.Closures.{IsWalkEnd}
use Rattle.conflict_example.specs.inside.Spellings.{if_there, numbers_among}
use Rattle.conflict_example.proofs.Noted.{graph_count}
use Rattle.conflict_example.proofs.Spellings.{numbers_among-append, numbers_among-words, numbers_of_words}
use Rattle.settled_laws.specs.ChosenOpenHits.{IsChosenOpen, ended_word, finished_example}
use Rattle.settled_laws.specs.OpenHits.{CanFinish}
use Rattle.settled_laws.specs.OpenNumbers.{IsOpenNumber}
use Rattle.settled_laws.specs.SettledPairs.{SettledPair}
use Rattle.settled_laws.proofs.ChosenOpenLemmas.{chosen_open_least, finished_stays, finished_words}
use Rattle.settled_laws.proofs.SettledLemmas.{Settled-hit}
use Rattle.settled_pairs.specs.declared.finishes.Finish.{Finish}
use Rattle.settled_pairs.specs.Finishes.{EndsBy, IsFinishBy, IsFinishOf}
use Rattle.settled_pairs.specs.inside.FoundRows.{IsFoundPair}
use Rattle.settled_pairs.specs.inside.Sums.{HasNoSumBelow, HasOpenNumber, IsFirstSum, IsFirstSumOf}
use Rattle.settled_pairs.proofs.FirstSums.{first_chosen, halves, open_below}
use Rattle.settled_pairs.proofs.SumLemmas.{finish_strokes}

-- ---- the finish of the chosen open hit

-- the word that a finish ends, and the strokes that end it
record Ended (entries words : List (List ℕ)) (s : State) (e : List ℕ) (f : Finish) : Type 0 where
  z : List ℕ
  can : CanFinish entries words s e z
  strokes : length z ≡ f.strokes
  number : numbers_among entries (ended_word s.v z) ≡ if_there f.word
  first : (w other : ℕ) (y : List ℕ) → w < length entries → other < length entries → outline_of entries w ≡ s.v ++ z → outline_of entries other ≡ s.v ++ y → CanFinish entries words s e y → length y ≡ length z → w ≤ other

ended_one : (entries : List (List ℕ)) (v z : List ℕ) (w : ℕ) → AreEntries entries → v ≢ [] → w < length entries → outline_of entries w ≡ v ++ z → numbers_among entries (ended_word v z) ≡ w ∷ []
ended_one entries [] z w are some inside is = absurd (some refl)
ended_one entries (c ∷ v) z w are some inside is =
    let number : entry_number entries ((c ∷ v) ++ z) ≡ Some w = ap (entry_number entries) (sym is) ∙ entry_number-outline_of entries w are.rising inside in
    ap (λ (o : Option ℕ). if_there o ++ []) number

ended_none : (entries : List (List ℕ)) (v z : List ℕ) → v ≡ [] → numbers_among entries (ended_word v z) ≡ []
ended_none entries v z none = ap (λ l. numbers_among entries (ended_word l z)) none

-- two numbers of one entry are one
ended_by : (entries words : List (List ℕ)) (s : State) (e : List ℕ) (n : ℕ) (w : Option ℕ) → AreEntries entries → EndsBy entries words s e n w → Ended entries words s e (record { strokes = n; word = w })
ended_by entries words s e n None are h = record {
  z = [];
  can = inl (h.0, refl);
  strokes = sym h.1;
  number = ended_none entries s.v [] h.0;
  first = λ w other y a b w_is other_is can long.
      absurd (let some : 0 < length (outline_of entries w) = are.not_empty w [] a in
      omega (arith, some, ap length (w_is ∙ append-nil s.v ∙ h.0)));
}
ended_by entries words s e n (Some k) are h =
    let same : (w : ℕ) → w < length entries → outline_of entries w ≡ s.v ++ h.1.z → w ≡ k =
    λ w a is. outline_of-once entries w k are.rising a h.1.entry (is ∙ sym h.1.is) in
    record {
      z = h.1.z;
      can = h.1.can;
      strokes = h.1.strokes;
      number = ended_one entries s.v h.1.z k are h.0 h.1.entry h.1.is;
      first = λ w other y a b w_is other_is can long. omega (arith, same w a w_is, h.1.first other y b other_is can (long ∙ h.1.strokes));
    }

-- ---- bounds

-- words have at least as many strokes
words_few : (entries : List (List ℕ)) (ws : List ℕ) → AreEntries entries → AreEntryNumbers entries ws → length ws ≤ length (joined_strokes entries ws)
words_few entries [] are h = omega arith
words_few entries (w ∷ ws) are h =
    let below : w < length entries = All-head (λ w. w < length entries) w ws h in
    let some : 0 < length (outline_of entries w) = are.not_empty w [] below in
    let rest = words_few entries ws are (All-tail (λ w. w < length entries) w ws h) in
    omega (arith, some, rest, length-append (outline_of entries w) (joined_strokes entries ws))

-- the numbers of words are those of entries
entry_numbers_of : (entries words : List (List ℕ)) (ws : List ℕ) → AreWordNumbers entries words ws → AreEntryNumbers entries ws
entry_numbers_of entries words ws h k d below = (h k d below).0

-- a finish has at most as many strokes as an outline
finish_short : (entries words : List (List ℕ)) (s : State) (e z : List ℕ) → AreWords entries words → All IsOutline entries → CanFinish entries words s e z → length z ≤ 64
finish_short entries words s e z are outlines (inl h) = omega (arith, ap length h.1)
finish_short entries words s e z are outlines (inr h) =
    let has = (is_entry-Decides entries (s.v ++ z)).0 (word_is_entry entries words (s.v ++ z) are h.1.word) in
    let short : length (outline_of entries has.0) ≤ 64 = (outlines has.0 [] has.1).at_most in
    let is : outline_of entries has.0 ≡ s.v ++ z = get_or_default entries has.0 [] (s.v ++ z) has.1 ∙ has.2 in
    omega (arith, short, ap length is, length-append s.v z)

-- ---- the row

-- the distance of the chosen open hit, by its sum and the finish
pub distance_is : (entries words : List (List ℕ)) (e place bound word : ℕ) (f : Finish) → AreEntries entries → (h : IsFirstSum entries words e place bound word) → IsFinishOf entries words h.is.is.state f →
    (h.is.moves + f.strokes ≡ h.n) × (length h.is.z ≡ f.strokes)
distance_is entries words e place bound word f are h finishes =
    let s : State = h.is.is.state in
    let by : IsFinishBy entries words s (outline_of entries e) f = finishes (outline_of entries e) h.is.is.hit.piece in
    let z = finish_strokes entries words s (outline_of entries e) f.strokes f.word by.ends in
    let up : f.strokes ≤ length h.is.z = by.least h.is.z h.is.is.can in
    let down : h.n ≤ h.is.moves + length z.0 = h.is.least h.is.moves z.0 (record { state = s; is = h.is.is.is; hit = h.is.is.hit; best = h.is.is.best; can = z.1 }) in
    (omega (arith, up, down, z.2, h.is.sum), omega (arith, up, down, z.2, h.is.sum))

-- The words of the walk and the one that is ended make the pair's row.
pub row_found : (entries words : List (List ℕ)) (table : List ℕ) (e place word : ℕ) (f : Finish) (made : List ℕ) → AreEntries entries → AreWords entries words → All IsOutline entries → number_count entries ≤ 33554432 →
    AreSettled 0 (kept_lists entries words) table → e < length entries → (h : IsFirstSum entries words e place (number_count entries) word) → IsFinishOf entries words h.is.is.state f →
    made ≡ numbers_among entries (example entries words table h.is.moves h.number) →
    IsFoundPair entries words table (record { entry = e; place = place; strokes = h.n; words = made ++ if_there f.word })
row_found entries words table e place word f made are are_words outlines few settled inside h finishes is =
    let s : State = h.is.is.state in
    let o : List ℕ = outline_of entries e in
    let by : IsFinishBy entries words s o f = finishes o h.is.is.hit.piece in
    let sums = distance_is entries words e place (number_count entries) word f are h finishes in
    let ended : Ended entries words s o f = ended_by entries words s o f.strokes f.word are by.ends in
    let it : IsOpenNumber entries words e place h.number h.is.moves ended.z = record { state = s; is = h.is.is.is; hit = h.is.is.hit; best = h.is.is.best; can = ended.can } in
    let first = first_chosen entries words e place (number_count entries) word are_words refl few h ended.z it (ended.strokes ∙ sym sums.1) in
    let chosen : IsChosenOpen entries words e place h.number h.is.moves ended.z = record { is = it; least = first.least; first = first.first } in
    let law = finished_words entries words table e place h.number h.is.moves ended.z are_words (omega (arith, few)) settled it in
    let ws : List ℕ = made ++ if_there f.word in
    let same : ws ≡ law.0 =
    ap₂ (λ a b. a ++ b) is (sym ended.number) ∙ sym (numbers_among-append entries (example entries words table h.is.moves h.number) (ended_word s.v ended.z))
    ∙ ap (numbers_among entries) (sym law.2) ∙ numbers_among-words entries words law.0 are law.1 in
    let numbers : AreWordNumbers entries words ws = subst (AreWordNumbers entries words) (sym same) law.1 in
    let spelt : outlines_of entries ws ≡ finished_example entries words table h.is.moves h.number s.v ended.z = ap (outlines_of entries) same ∙ law.2 in
    let had = finished_stays entries words table e place h.number h.is.moves ended.z are_words (omega (arith, few)) settled it ws spelt in
    let total : h.is.moves + length ended.z ≡ h.n = omega (arith, ended.strokes, sums.0) in
    let least = chosen_open_least entries words table e place h.number h.is.moves ended.z are_words settled chosen in
    let entry_numbers = entry_numbers_of entries words ws numbers in
    let steps = best_below 0 (kept_lists entries words) h.number h.is.moves (omega (arith, h.below, graph_count entries words)) h.is.is.best in
    record {
      shortest = record { are_words = numbers; stays = had.0; strokes = had.1 ∙ total; least = λ others all stays. let fits : h.is.moves + length ended.z ≤ length (joined_strokes entries others) = least.least others all stays in omega (arith, fits, total) };
      chosen = record {
        number = h.number;
        distance = h.is.moves;
        z = ended.z;
        hit = record { is = it; least = first.least; first = first.first };
        words_are = numbers_of_words entries words ws are numbers ∙ ap (map (entry_number entries)) spelt;
        first = ended.first;
      };
      small = record {
        entry = inside;
        words = entry_numbers;
        some = let cut = had.0.boundary in omega (arith, cut.1, cut.2, length-map ws (outline_of entries));
        few = let short = words_few entries ws are entry_numbers in
            let ends : length ended.z ≤ 64 = finish_short entries words s o ended.z are_words outlines ended.can in
            omega (arith, short, had.1, ends, steps, graph_count entries words, few);
      };
    }

-- ---- by the halves of the word

-- what the word of a chosen open hit and the finish of its number tell
record Halves (entries words : List (List ℕ)) (e place word : ℕ) (f : Finish) (h : IsFirstSum entries words e place (number_count entries) word) : Type 0 where
  number : word % 4294967296 ≡ h.number
  sum : word / 4294967296 ≡ h.n
  fits : f.strokes ≤ word / 4294967296
  distance : word / 4294967296 - f.strokes ≡ h.is.moves
  finish : IsFinishOf entries words h.is.is.state f

halves_of : (entries words : List (List ℕ)) (e place word : ℕ) (f : Finish) → AreEntries entries → number_count entries ≤ 33554432 → (h : IsFirstSum entries words e place (number_count entries) word) →
    ((s : State) → state_of_number entries words (word % 4294967296) ≡ Some s → IsFinishOf entries words s f) → Halves entries words e place word f h
halves_of entries words e place word f are few h finish =
    let parts = halves h.n h.number word (omega (arith, h.below, few)) h.word_is in
    let here : IsFinishOf entries words h.is.is.state f = finish h.is.is.state (ap (state_of_number entries words) parts.1 ∙ h.is.is.is) in
    let sums = distance_is entries words e place (number_count entries) word f are h here in
    record { number = parts.1; sum = parts.0; fits = omega (arith, parts.0, sums.0); distance = omega (arith, parts.0, sums.0); finish = here }

-- Its number is that of an open hit,
pub number_open : (entries words : List (List ℕ)) (e place word : ℕ) → number_count entries ≤ 33554432 → IsFirstSum entries words e place (number_count entries) word → HasOpenNumber entries words (word % 4294967296)
number_open entries words e place word few h =
    let parts = halves h.n h.number word (omega (arith, h.below, few)) h.word_is in
    record { entry = e; place = place; moves = h.is.moves; z = h.is.z; is = subst (λ k. IsOpenNumber entries words e place k h.is.moves h.is.z) (sym parts.1) h.is.is }

-- the finish is within the sum,
pub finish_fits : (entries words : List (List ℕ)) (e place word : ℕ) (f : Finish) → AreEntries entries → number_count entries ≤ 33554432 → IsFirstSum entries words e place (number_count entries) word →
    ((s : State) → state_of_number entries words (word % 4294967296) ≡ Some s → IsFinishOf entries words s f) → f.strokes ≤ word / 4294967296
finish_fits entries words e place word f are few h finish = (halves_of entries words e place word f are few h finish).fits

-- a shortest walk leads there,
pub row_walk : (entries words : List (List ℕ)) (table : List ℕ) (e place word : ℕ) (f : Finish) → AreEntries entries → number_count entries ≤ 33554432 → AreSettled 0 (kept_lists entries words) table →
    IsFirstSum entries words e place (number_count entries) word → ((s : State) → state_of_number entries words (word % 4294967296) ≡ Some s → IsFinishOf entries words s f) → IsWalkEnd table (word % 4294967296) (word / 4294967296 - f.strokes)
row_walk entries words table e place word f are few settled h finish =
    let parts = halves_of entries words e place word f are few h finish in
    let lists : List (List ℕ) = kept_lists entries words in
    record {
      lists = lists;
      few = omega (arith, graph_count entries words, few);
      settled = settled;
      below = omega (arith, parts.number, h.below, settled.count, graph_count entries words);
      best = subst (λ s. IsBest 0 lists s (word / 4294967296 - f.strokes)) (sym parts.number) (subst (IsBest 0 lists h.number) (sym parts.distance) h.is.is.best);
    }

-- and the words of the walk and the one that is ended make the row.
pub row_of_sum : (entries words : List (List ℕ)) (table : List ℕ) (e place word : ℕ) (f : Finish) (made : List ℕ) → AreEntries entries → AreWords entries words → All IsOutline entries → number_count entries ≤ 33554432 →
    AreSettled 0 (kept_lists entries words) table → e < length entries → IsFirstSum entries words e place (number_count entries) word →
    ((s : State) → state_of_number entries words (word % 4294967296) ≡ Some s → IsFinishOf entries words s f) →
    made ≡ numbers_among entries (example entries words table (word / 4294967296 - f.strokes) (word % 4294967296)) →
    IsFoundPair entries words table (record { entry = e; place = place; strokes = word / 4294967296; words = made ++ if_there f.word })
row_of_sum entries words table e place word f made are are_words outlines few settled inside h finish is =
    let parts = halves_of entries words e place word f are few h finish in
    let is' = is ∙ ap₂ (λ k m. numbers_among entries (example entries words table k m)) parts.distance parts.number in
    let row = row_found entries words table e place word f made are are_words outlines few settled inside h parts.finish is' in
    subst (λ k. IsFoundPair entries words table (record { entry = e; place = place; strokes = k; words = made ++ if_there f.word })) (sym parts.sum) row

-- ---- the word in a slot

-- A word that isn't the greatest is that of an open hit.
pub slot_sum : (entries words : List (List ℕ)) (e place bound word : ℕ) → IsFirstSumOf entries words e place bound word → word ≢ unreached → IsFirstSum entries words e place bound word
slot_sum entries words e place bound word (inl none) some = absurd (some none.1)
slot_sum entries words e place bound word (inr hit) some = hit

-- where none is left the pair doesn't stay
none_stays : (entries words : List (List ℕ)) (table : List ℕ) (e place : ℕ) → AreWords entries words → AreSettled 0 (kept_lists entries words) table → HasNoSumBelow entries words e place (number_count entries) → SettledPair entries words e place → ⊥
none_stays entries words table e place are settled none pair =
    let hit = (Settled-hit entries words e place are).0 pair in
    let best = best_of_state entries words table hit.0 hit.2.state are settled hit.2.walk in
    let it : IsOpenNumber entries words e place (state_number entries hit.2.state) best.0 hit.1 = record {
      state = hit.2.state;
      is = state_of_number-there entries words hit.2.state are (IsState-Walk entries words hit.0 hit.2.state hit.2.walk);
      hit = hit.2.hit;
      best = best.2;
      can = hit.2.can;
    } in
    none (state_number entries hit.2.state) best.0 hit.1 (open_below entries words e place (state_number entries hit.2.state) best.0 hit.1 are it) it

-- Where the word is the greatest the pair doesn't stay.
pub slot_none : (entries words : List (List ℕ)) (table : List ℕ) (e place word : ℕ) → AreWords entries words → number_count entries ≤ 33554432 → AreSettled 0 (kept_lists entries words) table →
    IsFirstSumOf entries words e place (number_count entries) word → word ≡ unreached → SettledPair entries words e place → ⊥
slot_none entries words table e place word are few settled (inl none) is pair = none_stays entries words table e place are settled none.0 pair
slot_none entries words table e place word are few settled (inr hit) is pair = omega (arith, hit.below, hit.word_is, is, few)
