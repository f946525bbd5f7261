-- What the code of the round machine has to know of a machine to which a schedule leads, and what each of its steps makes.
use Rattle.std.proofs.Common.{◌≡◌, ℕ, zero, suc, ◌+◌, ◌*◌, ◌≤◌, ◌<◌, ◌&&◌, not, Bool, true, false, true≢false, List, [], ◌∷◌, ◌++◌, length, get_or, set, map, Option, Some, None, sym, ap, subst, ◌∙◌, refl, arith, inl, inr, replicate}
use Rattle.std.specs.Prelude.{slice_get, slice_index_or, nat_lt, cond}
use Rattle.std.proofs.lemmas.Bool.{ltb-true, and_parts}
use Rattle.std.proofs.lemmas.List.{map-set}
use Rattle.graph_rules.specs.Graphs.{Stands, moved, unreached}
use Rattle.graph_rules.proofs.Distances.{same_or_not, source_below}
use Rattle.round_core.specs.declared.event.Event.{Event}
use Rattle.round_core.specs.declared.event.Event.TheVariants.{Begin, Take, Relax, Close}
use Rattle.round_core.specs.declared.hand.Hand.{Hand}
use Rattle.round_core.specs.Hands.{hand_moves, hand_view, machine_of, moves_held, IsReached, AreBelow, NextMove, Owned, OwnsHand, RoundView, stepped}
use Rattle.round_core.specs.Machines.{Move, Machine, moves_in, batch_of, batch_count, sorted, is_empty, is_free, is_busy, none_untaken, all_free, is_enabled, lowered, noted_with, does, after_event, relaxes, run, opening, IsGraph}
use Rattle.round_core.proofs.Enabled.{free_is, busy_is, untaken_is, nonempty}
use Rattle.round_core.proofs.Places.{get_set_at, get_set_other, get_replicate_is}
use Rattle.round_core.proofs.Schedules.{Good, run_good, opening_good, few_closed, stands_good}
use Rattle.round_core.proofs.Sums.{sum_le}

abbrev pub viewed : ℕ → List (List ℕ) → Machine → RoundView
viewed o ls m = record { origin = o; lists = ls; now = m }

-- ---- schedules

run_more : (ls : List (List ℕ)) (m : Machine) (es : List Event) (e : Event) → run ls m (es ++ e ∷ []) ≡ after_event ls (run ls m es) e
run_more ls m [] e = refl
run_more ls m (f ∷ es) e = run_more ls (after_event ls m f) es e

pub reached_after : (o : ℕ) (ls : List (List ℕ)) (m n : Machine) (e : Event) → IsReached o ls m → n ≡ after_event ls m e → IsReached o ls n
reached_after o ls m n e h is = (h.0, h.1 ++ e ∷ [], is ∙ ap (λ k. after_event ls k e) h.2 ∙ sym (run_more ls (opening o ls h.0) h.1 e))

pub reached_good : (o : ℕ) (ls : List (List ℕ)) (m : Machine) → IsGraph o ls → IsReached o ls m → Good o ls m
reached_good o ls m g h = subst (λ k. Good o ls k) (sym h.2) (run_good o ls (opening o ls h.0) h.1 g (opening_good o ls h.0 g))

after_on : (ls : List (List ℕ)) (m : Machine) (e : Event) → is_enabled m e ≡ true → does ls m e ≡ after_event ls m e
after_on ls m e on = sym (ap (λ b. cond b (does ls m e) m) on)

-- ---- what an enabled event tells

pub begin_parts : (m : Machine) (size : ℕ) → is_enabled m (Begin size) ≡ true → (0 < length m.front) × (0 < size)
begin_parts m size on =
    let parts = and_parts (not m.begun) (not (is_empty m.front) && nat_lt 0 size) on in
    let more = and_parts (not (is_empty m.front)) (nat_lt 0 size) parts.1 in
    (nonempty m.front more.0, ltb-true 0 size more.1)

pub take_parts : (m : Machine) (w b : ℕ) → is_enabled m (Take w b) ≡ true → (slice_get m.hands w ≡ Some None) × (slice_get m.untaken b ≡ Some true)
take_parts m w b on =
    let parts = and_parts (is_free (slice_get m.hands w)) (slice_index_or m.untaken b false) on in
    (free_is (slice_get m.hands w) parts.0, untaken_is m.untaken b parts.1)

pub close_parts : (m : Machine) → is_enabled m Close ≡ true → (m.begun ≡ true) × (all_free m.hands ≡ true)
close_parts m on =
    let parts = and_parts m.begun (none_untaken m.untaken && all_free m.hands) on in
    (parts.0, (and_parts (none_untaken m.untaken) (all_free m.hands) parts.1).1)

-- where a round is begun and each batch was taken, free hands alone are asked for
pub close_test : (m : Machine) → m.begun ≡ true → none_untaken m.untaken ≡ true → all_free m.hands ≡ is_enabled m Close
close_test m begun taken = sym (ap (λ b. b && (none_untaken m.untaken && all_free m.hands)) begun ∙ ap (λ b. b && all_free m.hands) taken)

-- ---- what a machine to which a schedule leads tells

module _ (o : ℕ) (ls : List (List ℕ)) where
  pub front_below : (m : Machine) → Good o ls m → AreBelow (length ls) m.front
  front_below m (inl h) s has = (h.front.best s has).0
  front_below m (inr h) s has = (h.front.best s has).0

  pub words_count : (m : Machine) → Good o ls m → length m.words ≡ length ls
  words_count m (inl h) = h.between.count
  words_count m (inr h) = h.noting.within.count

  pub front_short : (m : Machine) → Good o ls m → length m.front ≤ length ls
  front_short m (inl h) = let a = h.counted in let b = sum_le m.words in let d = h.between.count in omega (arith, a, b, d)
  front_short m (inr h) = let a = h.counted in let b = sum_le m.words in let d = h.noting.within.count in omega (arith, a, b, d)

  pub begun_few : (m : Machine) → IsGraph o ls → Good o ls m → m.begun ≡ true → m.closed < 33554432
  begun_few m g (inl h) begun = absurd (true≢false (sym begun ∙ h.begun))
  begun_few m g (inr h) begun = few_closed o ls m g h

  -- an untaken batch begins inside the frontier
  pub batch_inside : (m : Machine) (b : ℕ) → Good o ls m → slice_get m.untaken b ≡ Some true → (b * m.size < length m.front) × (0 < m.size)
  batch_inside m b (inl h) there = absurd (h.idle b there)
  batch_inside m b (inr h) there = (h.inside b there, h.positive)

  -- a worker that holds a batch has room to note what it finds
  pub busy_room : (m : Machine) (w : ℕ) (moves : List Move) → IsGraph o ls → Good o ls m → slice_get m.hands w ≡ Some (Some moves) → (m.closed < 33554432) × (length m.noted < length ls)
  busy_room m w moves g (inl h) has = absurd (h.free w moves has)
  busy_room m w moves g (inr h) has = (few_closed o ls m g h, (let a = h.counted in let b = h.some in let d = sum_le m.words in let e = h.noting.within.count in omega (arith, a, b, d, e)))

  -- and its moves are moves of the graph
  pub busy_move : (m : Machine) (w s t : ℕ) (rest : List Move) → IsGraph o ls → Good o ls m → slice_get m.hands w ≡ Some (Some (record { source = s; target = t } ∷ rest)) → (s < length ls) × (t < length ls)
  busy_move m w s t rest g (inl h) has = absurd (h.free w (record { source = s; target = t } ∷ rest) has)
  busy_move m w s t rest g (inr h) has = let all = h.held w (record { source = s; target = t } ∷ rest) has in (source_below ls s t all.0.1, g.targets s t all.0.1)

  pub reached_stands : (m : Machine) (s : ℕ) → IsGraph o ls → IsReached o ls m → s < length ls → Stands o ls s (get_or m.words s 0)
  reached_stands m s g h below = stands_good o ls m s g (reached_good o ls m g h) below

-- ---- hands, and what they stand for

module _ {C : Type 0} (left : C → List ℕ) (ls : List (List ℕ)) (front : List ℕ) where
  pub free_view : (hs : List (Option (Hand C))) → all_free (map (hand_view left ls front) hs) ≡ all_free hs
  free_view [] = refl
  free_view (None ∷ hs) = free_view hs
  free_view (Some h ∷ hs) = refl

  -- what is left doesn't depend on the frontier where no hand is held
  pub free_same : (now : List ℕ) (hs : List (Option (Hand C))) → all_free hs ≡ true → map (hand_view left ls now) hs ≡ map (hand_view left ls front) hs
  free_same now [] e = refl
  free_same now (None ∷ hs) e = ap (λ l. None ∷ l) (free_same now hs e)
  free_same now (Some h ∷ hs) e = absurd (true≢false (sym e))

  pub view_at : (hs : List (Option (Hand C))) (w : ℕ) (h : Option (Hand C)) → slice_get hs w ≡ Some h → slice_get (map (hand_view left ls front) hs) w ≡ Some (hand_view left ls front h)
  view_at [] w h e = absurd (cc e)
  view_at (k ∷ hs) zero h e = ap (λ x. Some (hand_view left ls front x)) (let same : k ≡ h = cc e in same)
  view_at (k ∷ hs) (suc w) h e = view_at hs w h e

  pub view_inside : (hs : List (Option (Hand C))) (w : ℕ) (h : Option (List Move)) → slice_get (map (hand_view left ls front) hs) w ≡ Some h → w < length hs
  view_inside [] w h e = absurd (cc e)
  view_inside (k ∷ hs) zero h e = omega arith
  view_inside (k ∷ hs) (suc w) h e = let l = view_inside hs w h e in omega (arith, l)

  pub map_free : (n : ℕ) → map (hand_view left ls front) (replicate n None) ≡ replicate n None
  map_free zero = refl
  map_free (suc n) = ap (λ l. None ∷ l) (map_free n)

module _ {C : Type 0} (owns : C → Type 0) where
  pub free_owned : (n : ℕ) → Owned owns (replicate n None)
  free_owned n w h is = absurd (let e : None ≡ Some h = get_replicate_is n w None (Some h) is in cc e)

  pub owned_set : (hs : List (Option (Hand C))) (w : ℕ) (x : Option (Hand C)) → w < length hs → Owned owns hs → OwnsHand owns x → Owned owns (set hs w x)
  owned_set hs w x lt all mine v k is = elim (same_or_not v w) [
    | inl same ↦ subst (λ y. OwnsHand owns y) (held (sym (get_set_at hs w x lt) ∙ sym (ap (slice_get (set hs w x)) same) ∙ is)) mine
    | inr other ↦ all v k (sym (get_set_other hs w v x other) ∙ is)
  ]
    where
      held : Some x ≡ Some (Some k) → x ≡ Some k
      held e = cc e

-- ---- what each step makes

module _ {C : Type 0} (left : C → List ℕ) (ls : List (List ℕ)) where
  pub opening_is : (o workers : ℕ) (words front noted : List ℕ) (untaken : List Bool) (hands : List (Option (Hand C)))
      → words ≡ set (replicate (length ls) unreached) o 0 → front ≡ o ∷ [] → noted ≡ [] → untaken ≡ [] → hands ≡ replicate workers None
      → machine_of left ls words front 0 false noted 0 untaken hands ≡ opening o ls workers
  opening_is o workers words front noted untaken hands words_is front_is noted_is untaken_is hands_is =
      ap (λ x. machine_of left ls x front 0 false noted 0 untaken hands) words_is
      ∙ ap (λ x. machine_of left ls (set (replicate (length ls) unreached) o 0) x 0 false noted 0 untaken hands) front_is
      ∙ ap (λ x. machine_of left ls (set (replicate (length ls) unreached) o 0) (o ∷ []) 0 false x 0 untaken hands) noted_is
      ∙ ap (λ x. machine_of left ls (set (replicate (length ls) unreached) o 0) (o ∷ []) 0 false [] 0 x hands) untaken_is
      ∙ ap (λ x. machine_of left ls (set (replicate (length ls) unreached) o 0) (o ∷ []) 0 false [] 0 [] x) hands_is
      ∙ ap (λ x. record (opening o ls workers) { hands = x }) (map_free left ls (o ∷ []) workers)

  pub begin_is : (words front : List ℕ) (closed : ℕ) (begun : Bool) (noted : List ℕ) (old size : ℕ) (untaken now : List Bool) (hands : List (Option (Hand C)))
      → is_enabled (machine_of left ls words front closed begun noted old untaken hands) (Begin size) ≡ true
      → now ≡ replicate (batch_count (length front) size) true
      → machine_of left ls words front closed true noted size now hands ≡ after_event ls (machine_of left ls words front closed begun noted old untaken hands) (Begin size)
  begin_is words front closed begun noted old size untaken now hands on is =
      ap (λ u. machine_of left ls words front closed true noted size u hands) is ∙ after_on ls (machine_of left ls words front closed begun noted old untaken hands) (Begin size) on

  pub take_is : (words front : List ℕ) (closed : ℕ) (begun : Bool) (noted : List ℕ) (size : ℕ) (untaken : List Bool) (hands : List (Option (Hand C))) (w b : ℕ) (hand : Hand C)
      → is_enabled (machine_of left ls words front closed begun noted size untaken hands) (Take w b) ≡ true
      → hand_moves left ls front hand ≡ moves_in ls (batch_of front size b)
      → machine_of left ls words front closed begun noted size (set untaken b false) (set hands w (Some hand)) ≡ after_event ls (machine_of left ls words front closed begun noted size untaken hands) (Take w b)
  take_is words front closed begun noted size untaken hands w b hand on is =
      ap (λ h. record (machine_of left ls words front closed begun noted size (set untaken b false) hands) { hands = h })
      (map-set (hand_view left ls front) hands w (Some hand) ∙ ap (λ l. set (map (hand_view left ls front) hands) w (Some l)) is)
      ∙ after_on ls (machine_of left ls words front closed begun noted size untaken hands) (Take w b) on

  -- what a worker holds that is busy
  pub busy_view : (front : List ℕ) (hands : List (Option (Hand C))) (w : ℕ) (held : Option (Hand C)) → slice_get hands w ≡ Some held → is_busy (slice_get (map (hand_view left ls front) hands) w) ≡ true
      → (moves : List Move) × (hand_view left ls front held ≡ Some moves) × (slice_get (map (hand_view left ls front) hands) w ≡ Some (Some moves))
  busy_view front hands w held has on =
      let busy = busy_is (slice_get (map (hand_view left ls front) hands) w) on in
      (busy.0, same busy.0 (sym (view_at left ls front hands w held has) ∙ busy.1), busy.1)
    where
      same : (moves : List Move) → Some (hand_view left ls front held) ≡ Some (Some moves) → hand_view left ls front held ≡ Some moves
      same moves e = cc e

  pub let_go_is : (words front : List ℕ) (closed : ℕ) (begun : Bool) (noted : List ℕ) (size : ℕ) (untaken : List Bool) (hands : List (Option (Hand C))) (w : ℕ) (held now : Option (Hand C))
      → is_enabled (machine_of left ls words front closed begun noted size untaken hands) (Relax w) ≡ true
      → slice_get hands w ≡ Some held → (moves_held (hand_view left ls front held) ≡ []) × (now ≡ None)
      → machine_of left ls words front closed begun noted size untaken (set hands w now) ≡ after_event ls (machine_of left ls words front closed begun noted size untaken hands) (Relax w)
  let_go_is words front closed begun noted size untaken hands w held now on has none =
      let busy = busy_view front hands w held has on in
      let is : slice_get (map (hand_view left ls front) hands) w ≡ Some (Some []) = busy.2 ∙ ap (λ l. Some (Some l)) (sym (ap moves_held busy.1) ∙ none.0) in
      ap (λ h. record (machine_of left ls words front closed begun noted size untaken hands) { hands = h }) (map-set (hand_view left ls front) hands w now ∙ ap (λ x. set (map (hand_view left ls front) hands) w (hand_view left ls front x)) none.1)
      ∙ sym (ap (relaxes (machine_of left ls words front closed begun noted size untaken hands) w) is)
      ∙ after_on ls (machine_of left ls words front closed begun noted size untaken hands) (Relax w) on

  pub move_is : (words front : List ℕ) (closed : ℕ) (begun : Bool) (noted : List ℕ) (size : ℕ) (untaken : List Bool) (hands : List (Option (Hand C))) (w s t : ℕ) (held now : Option (Hand C)) (lower more : List ℕ)
      → is_enabled (machine_of left ls words front closed begun noted size untaken hands) (Relax w) ≡ true
      → slice_get hands w ≡ Some held → NextMove (hand_view left ls front held) (hand_view left ls front now) s t
      → lower ≡ lowered words t (moved closed s) → more ≡ noted_with noted t (get_or words t 0)
      → machine_of left ls lower front closed begun more size untaken (set hands w now) ≡ after_event ls (machine_of left ls words front closed begun noted size untaken hands) (Relax w)
  move_is words front closed begun noted size untaken hands w s t held now lower more on has next lower_is more_is =
      let is : slice_get (map (hand_view left ls front) hands) w ≡ Some (Some (record { source = s; target = t } ∷ next.0)) = view_at left ls front hands w held has ∙ ap Some next.1 in
      ap (λ x. machine_of left ls x front closed begun more size untaken (set hands w now)) lower_is
      ∙ ap (λ x. machine_of left ls (lowered words t (moved closed s)) front closed begun x size untaken (set hands w now)) more_is
      ∙ ap (λ h. record (machine_of left ls (lowered words t (moved closed s)) front closed begun (noted_with noted t (get_or words t 0)) size untaken hands) { hands = h })
      (map-set (hand_view left ls front) hands w now ∙ ap (set (map (hand_view left ls front) hands) w) next.2)
      ∙ sym (ap (relaxes (machine_of left ls words front closed begun noted size untaken hands) w) is)
      ∙ after_on ls (machine_of left ls words front closed begun noted size untaken hands) (Relax w) on

  pub close_is : (words front : List ℕ) (closed : ℕ) (begun : Bool) (noted : List ℕ) (size : ℕ) (untaken : List Bool) (hands : List (Option (Hand C))) (next none : List ℕ)
      → is_enabled (machine_of left ls words front closed begun noted size untaken hands) Close ≡ true
      → next ≡ sorted noted → none ≡ []
      → machine_of left ls words next (closed + 1) false none size untaken hands ≡ after_event ls (machine_of left ls words front closed begun noted size untaken hands) Close
  close_is words front closed begun noted size untaken hands next none on next_is none_is =
      ap (λ h. record (machine_of left ls words next (closed + 1) false none size untaken hands) { hands = h }) (free_same left ls front next hands free)
      ∙ ap (λ x. record (machine_of left ls words front (closed + 1) false none size untaken hands) { front = x }) next_is
      ∙ ap (λ x. record (machine_of left ls words front (closed + 1) false none size untaken hands) { front = sorted noted; noted = x }) none_is
      ∙ after_on ls (machine_of left ls words front closed begun noted size untaken hands) Close on
    where
      free : all_free hands ≡ true
      free = sym (free_view left ls front hands) ∙ (close_parts (machine_of left ls words front closed begun noted size untaken hands) on).1

-- and how callers see it
pub made : (o : ℕ) (ls : List (List ℕ)) (m n : Machine) (e : Event) → n ≡ after_event ls m e → viewed o ls n ≡ stepped (viewed o ls m) e
made o ls m n e is = ap (viewed o ls) is
