-- The walk back from the end spells the shortest two readings.
use Rattle.std.proofs.Common.{◌≡◌, ◌≢◌, ℕ, zero, suc, ◌+◌, ◌/◌, ◌%◌, ◌<◌, ◌≤◌, List, [], ◌∷◌, ◌++◌, length, slice_index, map, refl, sym, ap, subst, ◌∙◌, arith, true, true≢false, Contains, inl, inr, ◌↔◌}
use Rattle.std.proofs.lemmas.List.{length_push}
use Rattle.std.proofs.lemmas.Nat.{div-mul-add, mod-mul-add}
use Rattle.graph_rules.specs.Graphs.{HasTarget, Reaches, IsBest, IsSource, IsSettledWord, AreSettled, moved, unreached}
use Rattle.graph_rules.proofs.Distances.{source_below}
use Rattle.graph_rules.proofs.SettledLemmas.{best_once}
use Rattle.steno_rules.specs.Outlines.{AreWords}
use Rattle.closure_laws.specs.Examples.{source_of, trail}
use Rattle.reading_laws.specs.Readings.{IsFree, IsLeastTwo}
use Rattle.reading_laws.specs.Forks.{Fork, Same, End, fork_targets_by, fork_targets, has_open_words, ForkWalk}
use Rattle.reading_laws.specs.ForkNumbers.{fork_at, end_number, fork_count, fork_number, fork_lists}
use Rattle.reading_laws.specs.ChosenReadings.{AreShortest, Halves, newest, halves_after, open_fork, chosen_halves}
use Rattle.reading_laws.proofs.ForkLemmas.{IsFree-end, IsLeastTwo-end}
use Rattle.reading_laws.proofs.ForkNumberLemmas.{fork_at-number, fork_at-end, start-number, fork_number-below, fork_stroke, fork_target-by, walk-node, length-fork_lists, target_of_number, walk_of_numbers, numbers_of_walk, IsLeastEnd-number, end_of_number}
use Rattle.reading_laws.proofs.HalfLemmas.{IsRead, read_on, AreBoth, read_end}

-- ---- the move before a number

-- A number's last move on a shortest walk, as its settled word tells it
pub record IsLastMove (lists : List (List ℕ)) (n m p : ℕ) : Type 0 where
  pub best : IsBest 0 lists p n
  pub target : HasTarget lists p m
  pub some : m ≢ 0

last_move : (lists : List (List ℕ)) (n m w : ℕ) → length lists ≤ 4294967296 → IsSettledWord 0 lists m w → IsBest 0 lists m (suc n) → IsLastMove lists n m (source_of w)
last_move lists n m w few (inl h) best = let short : suc n ≤ 0 = best.least 0 h.0 in absurd (omega (arith, short))
last_move lists n m w few (inr (inr h)) best = absurd (h.0 (suc n) best.walk)
last_move lists n m w few (inr (inl h)) best =
    let moves : h.1.0 + 1 ≡ suc n = best_once 0 lists m (h.1.0 + 1) (suc n) h.1.2 best in
    let source : IsSource 0 lists m n h.1.1 = subst (λ k. IsSource 0 lists m k h.1.1) (omega (arith, moves)) h.1.3 in
    let below = source_below lists h.1.1 m source.target in
    let is : source_of w ≡ h.1.1 = ap source_of h.1.4 ∙ mod-mul-add (h.1.0 + 1) 4294967296 h.1.1 (omega (arith, below, few)) in
    subst (IsLastMove lists n m) (sym is) (record { best = source.before; target = source.target; some = h.0 })

-- A number at a distance is one of the graph.
pub below_of_best : (entries words : List (List ℕ)) (n m : ℕ) → AreWords entries words → IsBest 0 (fork_lists entries words) m n → m < length (fork_lists entries words)
below_of_best entries words n m are best =
    let found = walk_of_numbers entries words n m are best.walk in
    let below : fork_number entries found.0 < fork_count entries = fork_number-below entries found.0 (walk-node entries words n found.0 are found.1).0 in
    omega (arith, below, found.2, length-fork_lists entries words)

-- The last move of a number at a distance, by the table.
pub move_back : (entries words : List (List ℕ)) (table : List ℕ) (n m : ℕ) → AreWords entries words → fork_count entries ≤ 4294967296 → AreSettled 0 (fork_lists entries words) table →
    IsBest 0 (fork_lists entries words) m (suc n) → IsLastMove (fork_lists entries words) n m (source_of (slice_index table m))
move_back entries words table n m are few settled best =
    last_move (fork_lists entries words) n m (slice_index table m) (omega (arith, few, length-fork_lists entries words))
    (settled.each m (omega (arith, below_of_best entries words (suc n) m are best, settled.count))) best

-- ---- the walk back

-- the forks of the walk back, the newest first
pub forks_back : List (List ℕ) → List (List ℕ) → List ℕ → ℕ → ℕ → List Fork
forks_back entries words table n m = map (open_fork entries words) (trail table n m)

-- After n moves to the number m, n strokes are read.
pub record IsReadTo (entries words : List (List ℕ)) (forks : List Fork) (n m : ℕ) : Type 0 where
  pub x : List ℕ
  pub strokes : length x ≡ n
  pub walk : ForkWalk words n (newest forks)
  pub at : newest forks ≡ fork_at entries m
  pub read : IsRead words x (newest forks) (halves_after forks)

-- the target of a number, as a target of the newest fork
record IsNext (entries words : List (List ℕ)) (s : Fork) (n m : ℕ) : Type 0 where
  pub stroke : ℕ
  pub move : Contains (fork_targets_by words s stroke) (fork_at entries m)
  pub walk : ForkWalk words (suc n) (fork_at entries m)
  pub opens : open_fork entries words m ≡ fork_at entries m
  pub number : fork_number entries (fork_at entries m) ≡ m

next_fork : (entries words : List (List ℕ)) (forks : List Fork) (n p m : ℕ) → AreWords entries words → IsReadTo entries words forks n p → HasTarget (fork_lists entries words) p m → IsNext entries words (newest forks) n m
next_fork entries words forks n p m are before target =
    let s : Fork = newest forks in
    let found = target_of_number entries words p m target in
    let t : Fork = found.0 in
    let by = fork_target-by words s t (subst (λ r. Contains (fork_targets words r) t) (sym before.at) found.1) in
    let walk : ForkWalk words (suc n) t = (s, before.walk, by) in
    let node = walk-node entries words (suc n) t are walk in
    let is : t ≡ fork_at entries m = sym (fork_at-number entries t node.0) ∙ ap (fork_at entries) found.2 in
    record {
      opens = rw (subst (λ r. has_open_words words r ≡ true) is node.1) refl;
      stroke = by.0;
      move = subst (Contains (fork_targets_by words s by.0)) is by.1;
      walk = subst (ForkWalk words (suc n)) is walk;
      number = ap (fork_number entries) (sym is) ∙ found.2;
    }

-- one move more
read_more : (entries words : List (List ℕ)) (forks : List Fork) (n p m : ℕ) → AreWords entries words → IsReadTo entries words forks n p → HasTarget (fork_lists entries words) p m → m ≢ 0 →
    IsReadTo entries words (open_fork entries words m ∷ forks) (suc n) m
read_more entries words forks n p m are before target some =
    let next = next_fork entries words forks n p m are before target in
    let not_start : fork_at entries m ≢ Same [] = λ e. some (sym next.number ∙ ap (fork_number entries) e ∙ start-number entries) in
    subst (λ r. IsReadTo entries words (r ∷ forks) (suc n) m) (sym next.opens) (record {
      x = before.x ++ next.stroke ∷ [];
      strokes = length_push before.x next.stroke ∙ omega (arith, before.strokes);
      walk = next.walk;
      at = refl;
      read = read_on words before.x (newest forks) (fork_at entries m) (halves_after forks) next.stroke before.read next.move not_start;
    })

-- The fork of the start.
pub at_start : (entries words : List (List ℕ)) → AreWords entries words → fork_at entries 0 ≡ Same []
at_start entries words are = ap (fork_at entries) (sym (start-number entries)) ∙ fork_at-number entries (Same []) (walk-node entries words 0 (Same []) are refl).0

-- The strokes of a shortest walk are read at its end.
pub read_back : (entries words : List (List ℕ)) (table : List ℕ) (n m : ℕ) → AreWords entries words → fork_count entries ≤ 4294967296 → AreSettled 0 (fork_lists entries words) table →
    IsBest 0 (fork_lists entries words) m n → IsReadTo entries words (forks_back entries words table n m) n m
unfolding forks_back
read_back entries words table zero m are few settled best = record {
  x = [];
  strokes = refl;
  walk = refl;
  at = sym (ap (fork_at entries) best.walk ∙ at_start entries words are);
  read = (refl, refl);
}
read_back entries words table (suc n) m are few settled best =
    let move = move_back entries words table n m are few settled best in
    let p : ℕ = source_of (slice_index table m) in
    read_more entries words (map (open_fork entries words) (trail table n p)) n p m are (read_back entries words table n p are few settled move.best) move.target move.some

-- ---- the law

-- The start isn't the end.
pub start_or_end : Same [] ≡ End → ⊥
start_or_end e = true≢false cc

-- the readings of the walk to the end
whole_back : (entries words : List (List ℕ)) (table : List ℕ) (n : ℕ) → AreWords entries words → fork_count entries ≤ 4294967296 → AreSettled 0 (fork_lists entries words) table →
    IsBest 0 (fork_lists entries words) (end_number entries) n → (y : List ℕ) × (length y ≡ n) × AreBoth words y (chosen_halves entries words table n)
unfolding forks_back
whole_back entries words table zero are few settled best = absurd (start_or_end (sym (at_start entries words are) ∙ ap (fork_at entries) (sym best.walk) ∙ fork_at-end entries))
whole_back entries words table (suc n) are few settled best =
    let m : ℕ = end_number entries in
    let move = move_back entries words table n m are few settled best in
    let p : ℕ = source_of (slice_index table m) in
    let forks : List Fork = map (open_fork entries words) (trail table n p) in
    let before : IsReadTo entries words forks n p = read_back entries words table n p are few settled move.best in
    let next = next_fork entries words forks n p m are before move.target in
    let ends : Contains (fork_targets_by words (newest forks) next.stroke) End = subst (Contains (fork_targets_by words (newest forks) next.stroke)) (fork_at-end entries) next.move in
    let whole = read_end words before.x (newest forks) (halves_after forks) next.stroke before.read (fork_stroke words (newest forks) End next.stroke ends) ends in
    (whole.0, whole.1 ∙ omega (arith, before.strokes), whole.2)

-- The readings of the walk to the end are two of fewest strokes, the first one first.
pub chosen-shortest : (entries words : List (List ℕ)) (table : List ℕ) (n : ℕ) → AreWords entries words → fork_count entries < 4294967296 → AreSettled 0 (fork_lists entries words) table → IsLeastTwo words n →
    AreShortest words (Halves.first (chosen_halves entries words table n)) (Halves.second (chosen_halves entries words table n)) n
chosen-shortest entries words table n are few settled least =
    let best = (IsLeastEnd-number entries words n are).0 ((IsLeastTwo-end entries words n are).0 least) in
    let whole = whole_back entries words table n are (omega (arith, few)) settled best in
    record {
      are = whole.2.are;
      strokes = ap length whole.2.joined ∙ whole.1;
      least = least.least;
      in_order = whole.2.in_order;
    }

-- the word of the end
end_settled : (entries words : List (List ℕ)) (table : List ℕ) → AreSettled 0 (fork_lists entries words) table → IsSettledWord 0 (fork_lists entries words) (end_number entries) (slice_index table (end_number entries))
end_settled entries words table settled = settled.each (end_number entries) (omega (arith, settled.count, length-fork_lists entries words))

-- a word of a move isn't the greatest
moved_some : (n p : ℕ) → p < 4294967295 → moved n p ≡ unreached → ⊥
moved_some n p l is =
    let low : moved n p % 4294967296 ≡ p = mod-mul-add (n + 1) 4294967296 p (omega (arith, l)) in
    let wrong : p ≡ 4294967295 = sym low ∙ ap (λ w. w % 4294967296) is in
    omega (arith, l, wrong)

no_walk_of_free : (lists : List (List ℕ)) (m w : ℕ) → IsSettledWord 0 lists m w → ((n : ℕ) → Reaches 0 lists n m → ⊥) → w ≡ unreached
no_walk_of_free lists m w (inl h) none = absurd (none 0 h.0)
no_walk_of_free lists m w (inr (inl h)) none = absurd (none (h.1.0 + 1) h.1.2.walk)
no_walk_of_free lists m w (inr (inr h)) none = h.1

free_of_word : (lists : List (List ℕ)) (m w : ℕ) → length lists < 4294967296 → IsSettledWord 0 lists m w → w ≡ unreached → (n : ℕ) → Reaches 0 lists n m → ⊥
free_of_word lists m w few (inl h) is n walk = let wrong : 0 ≡ unreached = sym h.1 ∙ is in omega (arith, wrong)
free_of_word lists m w few (inr (inl h)) is n walk =
    let below = source_below lists h.1.1 m h.1.3.target in
    moved_some h.1.0 h.1.1 (omega (arith, below, few)) (sym h.1.4 ∙ is)
free_of_word lists m w few (inr (inr h)) is n walk = h.0 n walk

-- The words are free exactly where the end isn't reached.
pub IsFree-word : (entries words : List (List ℕ)) (table : List ℕ) → AreWords entries words → fork_count entries < 4294967296 → AreSettled 0 (fork_lists entries words) table →
    IsFree words ↔ (slice_index table (end_number entries) ≡ unreached)
IsFree-word entries words table are few settled = (
  λ free. no_walk_of_free (fork_lists entries words) (end_number entries) (slice_index table (end_number entries)) (end_settled entries words table settled)
      (λ n walk. (IsFree-end entries words are).0 free n (end_of_number entries words n are walk)),
  λ is. (IsFree-end entries words are).1 (λ n walk. free_of_word (fork_lists entries words) (end_number entries) (slice_index table (end_number entries)) (omega (arith, few, length-fork_lists entries words)) (end_settled entries words table settled) is n
      (numbers_of_walk entries words n End are walk)),
)

distance_of_word : (lists : List (List ℕ)) (m w : ℕ) → length lists < 4294967296 → IsSettledWord 0 lists m w → (w ≡ unreached → ⊥) → IsBest 0 lists m (w / 4294967296)
distance_of_word lists m w few (inl h) some = subst (IsBest 0 lists m) (sym (ap (λ k. k / 4294967296) h.1)) (record { walk = h.0; least = λ k walk. omega arith })
distance_of_word lists m w few (inr (inl h)) some =
    let below = source_below lists h.1.1 m h.1.3.target in
    let is : w / 4294967296 ≡ h.1.0 + 1 = ap (λ k. k / 4294967296) h.1.4 ∙ div-mul-add (h.1.0 + 1) 4294967296 h.1.1 (omega (arith, below, few)) in
    subst (IsBest 0 lists m) (sym is) h.1.2
distance_of_word lists m w few (inr (inr h)) some = absurd (some h.1)

-- Otherwise the end's word says how many strokes two readings have at least.
pub IsLeastTwo-word : (entries words : List (List ℕ)) (table : List ℕ) → AreWords entries words → fork_count entries < 4294967296 → AreSettled 0 (fork_lists entries words) table →
    (slice_index table (end_number entries) ≡ unreached → ⊥) → IsLeastTwo words (slice_index table (end_number entries) / 4294967296)
IsLeastTwo-word entries words table are few settled some =
    let n : ℕ = slice_index table (end_number entries) / 4294967296 in
    let best = distance_of_word (fork_lists entries words) (end_number entries) (slice_index table (end_number entries)) (omega (arith, few, length-fork_lists entries words)) (end_settled entries words table settled) some in
    (IsLeastTwo-end entries words n are).1 ((IsLeastEnd-number entries words n are).1 best)
