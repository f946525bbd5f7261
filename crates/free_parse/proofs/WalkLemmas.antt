-- The walk back from the end, and the readings of its forks.
use Rattle.std.proofs.Common.{◌≡◌, ◌≢◌, ℕ, zero, suc, ◌+◌, ◌-◌, ◌/◌, ◌<◌, ◌≤◌, List, [], ◌∷◌, ◌++◌, length, map, slice_index, refl, sym, ap, ap₂, subst, ◌∙◌, arith, true, true≢false, Option, Some, None, is_some, append-nil, append_assoc}
use Rattle.std.proofs.lemmas.List.Elements.{All-cons}
use Rattle.graph_rules.specs.Graphs.{AreSettled, IsBest, most_numbers, unreached}
use Rattle.steno_rules.specs.Outlines.{AreWords, entry_number, is_word}
use Rattle.steno_rules.specs.Conflicts.{AreEntryNumbers, AreWordNumbers, IsWordNumber, outlines_of}
use Rattle.steno_rules.proofs.NodeLemmas.{nodes-Contains}
use Rattle.steno_rules.proofs.Numbers.{entry_number-Some, number_test}
use Rattle.steno_rules.proofs.Words.{word_is_entry}
use Rattle.closure_laws.specs.Examples.{source_of, trail}
use Rattle.closure_state.specs.Waits.{some_listed}
use Rattle.reading_laws.specs.ChosenReadings.{AreShortest, Halves, both_ended, chosen_halves, halves_after, halves_on, last_strokes_by, newest, no_halves, open_fork}
use Rattle.reading_laws.specs.ForkNumbers.{end_number, fork_at, fork_count, fork_lists}
use Rattle.reading_laws.specs.Forks.{Fork, Same}
use Rattle.reading_laws.specs.Readings.{AllWords, IsLeastTwo}
use Rattle.reading_laws.proofs.ChosenReadingLemmas.{IsLeastTwo-word, below_of_best, chosen-shortest, move_back, start_or_end}
use Rattle.reading_laws.proofs.ForkLemmas.{IsLeastTwo-end}
use Rattle.reading_laws.proofs.ForkNumberLemmas.{IsLeastEnd-number, fork_at-end, fork_at-number, start-number}
use Rattle.free_parse.specs.FoundReadings.{AreBothNumbers, AreChosenTwo, AreFewest, AreNumbersOfWords}
use Rattle.free_parse.specs.FreeGraphs.{FreeGraphView}
use Rattle.free_parse.specs.declared.fork.NodeFork.{NodeFork}
use Rattle.free_parse.specs.declared.halves.NumberedHalves.{NumberedHalves}
use Rattle.free_parse.specs.inside.Forks.{fork_if}
use Rattle.free_parse.specs.inside.Halves.{AreNumbersOf, ended_after, found_numbers}
use Rattle.free_parse.specs.inside.Walks.{IsShortestWalkTo}

-- ---- back

-- Of a walk of n moves to `number` these numbers are listed, and a walk of the others to `at` is left.
pub record IsBack (g : FreeGraphView) (table : List ℕ) (number n done at : ℕ) (path : List ℕ) : Type 0 where
  pub fits : done ≤ n
  pub walk : IsShortestWalkTo g table at (n - done)
  pub listed : path ++ trail table (n - done) at ≡ trail table n number

-- At first none are.
pub back_none : (g : FreeGraphView) (table : List ℕ) (number n : ℕ) → IsShortestWalkTo g table number n → IsBack g table number n 0 number []
back_none g table number n h =
    let all : n ≡ n - 0 = omega arith in
    record { fits = omega arith; walk = subst (IsShortestWalkTo g table number) all h; listed = ap (λ k. trail table k number) (sym all) }

-- The number that is left has a word.
pub back_below : (g : FreeGraphView) (table : List ℕ) (number n : ℕ) → IsShortestWalkTo g table number n → number < length table
back_below g table number n h = omega (arith, below_of_best g.entries g.words n number h.are_words h.best, h.settled.count)

step_back : (g : FreeGraphView) (table : List ℕ) (number n at m k : ℕ) (path : List ℕ) → m ≡ suc k → IsShortestWalkTo g table at m → path ++ trail table m at ≡ trail table n number →
    IsShortestWalkTo g table (source_of (slice_index table at)) k × ((path ++ at ∷ []) ++ trail table k (source_of (slice_index table at)) ≡ trail table n number)
step_back g table number n at m k path is h listed =
    let last = move_back g.entries g.words table k at h.are_words (omega (arith, h.few)) h.settled (subst (IsBest 0 (fork_lists g.entries g.words) at) is h.best) in (
      record { are_words = h.are_words; few = h.few; settled = h.settled; best = last.best },
      append_assoc path (at ∷ []) (trail table k (source_of (slice_index table at))) ∙ ap (λ j. path ++ trail table j at) (sym is) ∙ listed,
    )

-- One more is listed.
pub back_more : (g : FreeGraphView) (table : List ℕ) (number n done at : ℕ) (path : List ℕ) → done < n → IsBack g table number n done at path →
    IsBack g table number n (done + 1) (source_of (slice_index table at)) (path ++ at ∷ [])
back_more g table number n done at path lt h =
    let is : n - done ≡ suc (n - (done + 1)) = omega (arith, lt) in
    let next = step_back g table number n at (n - done) (n - (done + 1)) path is h.walk h.listed in
    record { fits = omega (arith, lt); walk = next.0; listed = next.1 }

-- At the end all are.
pub back_all : (g : FreeGraphView) (table : List ℕ) (number n done at : ℕ) (path : List ℕ) → n ≤ done → IsBack g table number n done at path → path ≡ trail table n number
back_all g table number n done at path end h = all (n - done) (omega (arith, end)) h.listed
  where
    all : (k : ℕ) → k ≡ 0 → path ++ trail table k at ≡ trail table n number → path ≡ trail table n number
    all zero none listed = sym (append-nil path) ∙ listed
    all (suc k) none listed = absurd (omega (arith, none))

-- ---- forward

-- Of these numbers some are left on the path, and the forks of the others are read.
pub record IsReading (g : FreeGraphView) (whole path : List ℕ) (at : Option NodeFork) (halves : NumberedHalves) : Type 0 where
  pub done : List ℕ
  pub split : path ++ done ≡ whole
  pub read : AreNumbersOf g.entries (halves_after (map (open_fork g.entries g.words) done)) halves
  pub at_is : fork_if g.entries at ≡ newest (map (open_fork g.entries g.words) done)

-- the start is open
open_start : (entries words : List (List ℕ)) → open_fork entries words 0 ≡ Same []
open_start entries words =
    let is : fork_at entries 0 ≡ Same [] = ap (fork_at entries) (sym (start-number entries)) ∙ fork_at-number entries (Same []) ((nodes-Contains entries []).1 refl) in
    rw is refl

-- At first nothing is read.
pub reading_none : (g : FreeGraphView) (path : List ℕ) (at : Option NodeFork) (halves : NumberedHalves) → AreNumbersOf g.entries no_halves halves → fork_if g.entries at ≡ open_fork g.entries g.words 0 → IsReading g path path at halves
reading_none g path at halves none is = record { done = []; split = append-nil path; read = none; at_is = is ∙ open_start g.entries g.words }

-- One fork more is read.
pub reading_more : (g : FreeGraphView) (whole path path' : List ℕ) (at next : Option NodeFork) (halves halves' : NumberedHalves) (number : ℕ) → IsReading g whole path at halves → path ≡ path' ++ number ∷ [] →
    fork_if g.entries next ≡ open_fork g.entries g.words number →
    ((h : Halves) → AreNumbersOf g.entries h halves → AreNumbersOf g.entries (halves_on (fork_if g.entries at) (fork_if g.entries next) h) halves') → IsReading g whole path' next halves'
reading_more g whole path path' at next halves halves' number h is next_is goes =
    let forks : List Fork = map (open_fork g.entries g.words) h.done in
    record {
      done = number ∷ h.done;
      split = sym (append_assoc path' (number ∷ []) h.done) ∙ ap (λ l. l ++ h.done) (sym is) ∙ h.split;
      read = subst (λ k. AreNumbersOf g.entries k halves') (ap₂ (λ s t. halves_on s t (halves_after forks)) h.at_is next_is) (goes (halves_after forks) h.read);
      at_is = next_is;
    }

-- Once the path is empty all are, and the readings end.
pub reading_all : (g : FreeGraphView) (whole path : List ℕ) (at : Option NodeFork) (halves halves' : NumberedHalves) → IsReading g whole path at halves → path ≡ [] →
    ((h : Halves) → AreNumbersOf g.entries h halves → AreNumbersOf g.entries (both_ended (fork_if g.entries at) (last_strokes_by g.words (fork_if g.entries at)) h) halves') →
    AreNumbersOf g.entries (ended_after g.words (map (open_fork g.entries g.words) whole)) halves'
reading_all g whole path at halves halves' h none ends =
    let all : h.done ≡ whole = ap (λ l. l ++ h.done) (sym none) ∙ h.split in
    let forks : List Fork = map (open_fork g.entries g.words) h.done in
    subst (λ l. AreNumbersOf g.entries (ended_after g.words (map (open_fork g.entries g.words) l)) halves') all
    (subst (λ s. AreNumbersOf g.entries (both_ended s (last_strokes_by g.words s) (halves_after forks)) halves') h.at_is (ends (halves_after forks) h.read))

-- ---- the numbers of words

-- the number of a word
number_of_word : (entries words : List (List ℕ)) (w : List ℕ) → AreWords entries words → is_word words w ≡ true → (e : ℕ) × (entry_number entries w ≡ Some e)
number_of_word entries words w are word = by (entry_number entries w) refl
  where
    by : (o : Option ℕ) → entry_number entries w ≡ o → (e : ℕ) × (entry_number entries w ≡ Some e)
    by (Some e) is = (e, is)
    by None is = absurd (true≢false (sym (word_is_entry entries words w are word) ∙ sym (number_test entries w) ∙ ap is_some is))

-- The numbers of words are word numbers, and their outlines are the words.
pub found_words : (entries words ws : List (List ℕ)) → AreWords entries words → AllWords words ws → AreWordNumbers entries words (found_numbers entries ws) × (outlines_of entries (found_numbers entries ws) ≡ ws)
found_words entries words [] are all = (λ i d below. absurd (omega (arith, below)), refl)
found_words entries words (w ∷ ws) are all =
    let e = number_of_word entries words w are all.0 in
    let at = entry_number-Some entries w e.0 e.1 in
    let rest = found_words entries words ws are all.1 in
    let is : found_numbers entries (w ∷ ws) ≡ e.0 ∷ found_numbers entries ws = ap (λ o. some_listed o ++ found_numbers entries ws) e.1 in (
      subst (AreWordNumbers entries words) (sym is) (All-cons (IsWordNumber entries words) e.0 (found_numbers entries ws) (at.0, subst (λ x. is_word words x ≡ true) (sym at.1) all.0) rest.0),
      ap (outlines_of entries) is ∙ ap₂ (λ x l. x ∷ l) at.1 rest.1,
    )

-- And the numbers are those of the words.
pub found_are : (entries words ws : List (List ℕ)) → AreWords entries words → AllWords words ws → AreNumbersOfWords entries (found_numbers entries ws) ws
found_are entries words [] are all = refl
found_are entries words (w ∷ ws) are all =
    let e = number_of_word entries words w are all.0 in
    let is : found_numbers entries (w ∷ ws) ≡ e.0 ∷ found_numbers entries ws = ap (λ o. some_listed o ++ found_numbers entries ws) e.1 in
    ap (map Some) is ∙ ap₂ (λ o l. o ∷ l) (sym e.1) (found_are entries words ws are all.1)

-- words are entries
numbers_of_words : (entries words : List (List ℕ)) (numbers : List ℕ) → AreWordNumbers entries words numbers → AreEntryNumbers entries numbers
numbers_of_words entries words numbers are = λ i d below. (are i d below).0

-- ---- the result

-- The end's word, where it is reached.
pub record IsReachedEnd (g : FreeGraphView) (table : List ℕ) (n k : ℕ) : Type 0 where
  pub least : IsLeastTwo g.words n
  pub is : n ≡ suc k
  pub walk : IsShortestWalkTo g table (source_of (slice_index table (end_number g.entries))) k

positive : (entries words : List (List ℕ)) (n : ℕ) → AreWords entries words → IsBest 0 (fork_lists entries words) (end_number entries) n → (k : ℕ) × (n ≡ suc k)
positive entries words zero are best =
    absurd (start_or_end (sym (ap (fork_at entries) (sym (start-number entries)) ∙ fork_at-number entries (Same []) ((nodes-Contains entries []).1 refl)) ∙ ap (fork_at entries) (sym best.walk) ∙ fork_at-end entries))
positive entries words (suc k) are best = (k, refl)

pub reached_end : (g : FreeGraphView) (table : List ℕ) (word : ℕ) → AreWords g.entries g.words → fork_count g.entries ≤ most_numbers → AreSettled 0 (fork_lists g.entries g.words) table →
    word ≡ slice_index table (end_number g.entries) → word ≢ unreached → IsReachedEnd g table (word / 4294967296) (word / 4294967296 - 1)
reached_end g table word are few settled is some =
    let n : ℕ = word / 4294967296 in
    let least : IsLeastTwo g.words n = subst (λ w. IsLeastTwo g.words (w / 4294967296)) (sym is) (IsLeastTwo-word g.entries g.words table are (omega (arith, few)) settled (λ e. some (is ∙ e))) in
    let best = (IsLeastEnd-number g.entries g.words n are).0 ((IsLeastTwo-end g.entries g.words n are).0 least) in
    let one = positive g.entries g.words n are best in
    let same : n ≡ suc (n - 1) = omega (arith, one.1) in
    let last = move_back g.entries g.words table (n - 1) (end_number g.entries) are (omega (arith, few)) settled (subst (IsBest 0 (fork_lists g.entries g.words) (end_number g.entries)) same best) in
    record { least = least; is = same; walk = record { are_words = are; few = few; settled = settled; best = last.best } }

-- the chosen readings as they are read
chosen_is : (g : FreeGraphView) (table : List ℕ) (n k : ℕ) → n ≡ suc k →
    ended_after g.words (map (open_fork g.entries g.words) (trail table k (source_of (slice_index table (end_number g.entries))))) ≡ chosen_halves g.entries g.words table n
chosen_is g table n k is = sym (ap (chosen_halves g.entries g.words table) is)

-- What is read are the chosen readings.
pub record AreRead (g : FreeGraphView) (table : List ℕ) (n : ℕ) (halves : NumberedHalves) : Type 0 where
  pub fewest : AreFewest g.entries g.words (record { strokes = n; first = halves.first.items; second = halves.second.items })
  pub chosen : AreChosenTwo g.entries g.words table (record { strokes = n; first = halves.first.items; second = halves.second.items })
  pub numbers : AreBothNumbers g.entries (record { strokes = n; first = halves.first.items; second = halves.second.items })

pub read_are : (g : FreeGraphView) (table : List ℕ) (n k : ℕ) (halves : NumberedHalves) → IsReachedEnd g table n k →
    AreNumbersOf g.entries (ended_after g.words (map (open_fork g.entries g.words) (trail table k (source_of (slice_index table (end_number g.entries)))))) halves → AreRead g table n halves
read_are g table n k halves h numbers =
    let two : Halves = chosen_halves g.entries g.words table n in
    let made : AreNumbersOf g.entries two halves = subst (λ t. AreNumbersOf g.entries t halves) (chosen_is g table n k h.is) numbers in
    let shortest : AreShortest g.words two.first two.second n = chosen-shortest g.entries g.words table n h.walk.are_words (omega (arith, h.walk.few)) h.walk.settled h.least in
    let first = found_words g.entries g.words two.first h.walk.are_words shortest.are.first in
    let second = found_words g.entries g.words two.second h.walk.are_words shortest.are.second in
    let first_is : outlines_of g.entries halves.first.items ≡ two.first = ap (outlines_of g.entries) made.first_are ∙ first.1 in
    let second_is : outlines_of g.entries halves.second.items ≡ two.second = ap (outlines_of g.entries) made.second_are ∙ second.1 in
    let first_words : AreWordNumbers g.entries g.words halves.first.items = subst (AreWordNumbers g.entries g.words) (sym made.first_are) first.0 in
    let second_words : AreWordNumbers g.entries g.words halves.second.items = subst (AreWordNumbers g.entries g.words) (sym made.second_are) second.0 in
    record {
      fewest = record {
        first_words = first_words;
        second_words = second_words;
        shortest = subst (λ xs. AreShortest g.words xs (outlines_of g.entries halves.second.items) n) (sym first_is) (subst (λ ys. AreShortest g.words two.first ys n) (sym second_is) shortest);
      };
      chosen = record {
        first_are = ap (map Some) made.first_are ∙ found_are g.entries g.words two.first h.walk.are_words shortest.are.first;
        second_are = ap (map Some) made.second_are ∙ found_are g.entries g.words two.second h.walk.are_words shortest.are.second;
      };
      numbers = record {
        first = numbers_of_words g.entries g.words halves.first.items first_words;
        second = numbers_of_words g.entries g.words halves.second.items second_words;
      };
    }

-- The walk back from the end's word, and the readings of its forks.
pub word_read : (g : FreeGraphView) (table : List ℕ) (word : ℕ) (path : List ℕ) (halves : NumberedHalves) → IsReachedEnd g table (word / 4294967296) (word / 4294967296 - 1) →
    word ≡ slice_index table (end_number g.entries) → path ≡ trail table (word / 4294967296 - 1) (source_of word) →
    AreNumbersOf g.entries (ended_after g.words (map (open_fork g.entries g.words) path)) halves → AreRead g table (word / 4294967296) halves
word_read g table word path halves h is back numbers =
    let n : ℕ = word / 4294967296 in
    let same = back ∙ ap (λ w. trail table (n - 1) (source_of w)) is in
    read_are g table n (n - 1) halves h (subst (λ l. AreNumbersOf g.entries (ended_after g.words (map (open_fork g.entries g.words) l)) halves) same numbers)
