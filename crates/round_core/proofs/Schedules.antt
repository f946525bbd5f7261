-- Whatever the schedule, the machine is that of a search by rounds: it rests between two rounds, or works in one.
use Rattle.std.proofs.Common.{◌≡◌, ◌≢◌, ◌==◌, ℕ, suc, ◌+◌, ◌*◌, ◌/◌, ◌≤◌, ◌<◌, ◌⊎◌, ◌&&◌, not, Bool, true, false, true≢false, List, [], ◌∷◌, ◌++◌, length, get_or, set, Option, Some, None, sym, ap, subst, ◌∙◌, refl, arith, inl, inr, replicate}
use Rattle.std.specs.Prelude.{slice_get, slice_index_or, nat_lt, cond}
use Rattle.std.proofs.lemmas.List.{length-replicate}
use Rattle.std.proofs.lemmas.Bool.{ltb-true, eqb-true, and_parts}
use Rattle.graph_rules.specs.Graphs.{HasTarget, IsBest, AreSettled, Stands, moved, unreached}
use Rattle.graph_rules.proofs.Distances.{same_or_not, source_below}
use Rattle.round_core.specs.declared.event.Event.{Event}
use Rattle.round_core.specs.declared.event.Event.TheVariants.{Begin, Take, Relax, Close}
use Rattle.round_core.specs.inside.InRounds.{IsNoting}
use Rattle.round_core.specs.Machines.{Move, Machine, batch_of, batch_count, moves_in, is_empty, is_free, is_busy, none_untaken, all_free, is_enabled, relaxes, does, after_event, run, opening, noted_with, IsGraph, IsBetweenRounds}
use Rattle.round_core.specs.Rounds.{Has, IsBetween, IsFrontier, AreRisingNumbers}
use Rattle.round_core.specs.Searches.{sum_reached}
use Rattle.round_core.proofs.Enabled.{none_some, some_some, free_is, busy_is, untaken_is, idle, free, nonempty, not_true}
use Rattle.round_core.proofs.Members.{has_none}
use Rattle.round_core.proofs.Moves.{batch_has, batch_below, in_batch, InMoves, in_all, none_in, in_cons, AllMoves, all_in}
use Rattle.round_core.proofs.Noted.{noting_step, open_noting, weaken_noting, shut_noting, front_start, stands}
use Rattle.round_core.proofs.Places.{get_below, get_set_same, get_set_other, get_replicate, get_replicate_is}
use Rattle.round_core.proofs.Rounds.{between_start, settled, open_round}
use Rattle.round_core.proofs.Sorting.{AreDistinct, distinct_snoc, sorted_has, has_sorted, sorted_length, sorted_rising}
use Rattle.round_core.proofs.Sums.{sums_step, sum_le, sum_first, ones}

-- the moves that are left: those of the batches that nobody took, and those in hands
abbrev pub Todo : List Bool → List ℕ → ℕ → List (Option (List Move)) → ℕ → ℕ → Type 0
Todo untaken front size hands p t =
    ((b : ℕ) × (slice_get untaken b ≡ Some true) × Has (batch_of front size b) p)
    ⊎ ((w : ℕ) × (moves : List Move) × (slice_get hands w ≡ Some (Some moves)) × InMoves moves p t)

module _ (o : ℕ) (ls : List (List ℕ)) where
  -- no round is begun
  pub record Resting (m : Machine) : Type 0 where
    pub begun : m.begun ≡ false
    pub between : IsBetween o ls m.closed m.words
    pub front : IsFrontier o ls m.closed m.front
    pub rising : AreRisingNumbers m.front
    pub noted : m.noted ≡ []
    pub idle : (b : ℕ) → slice_get m.untaken b ≡ Some true → ⊥
    pub free : (w : ℕ) (moves : List Move) → slice_get m.hands w ≡ Some (Some moves) → ⊥
    pub counted : m.closed + length m.front ≤ sum_reached (λ _. 1) m.words

  -- a round is begun
  pub record Working (m : Machine) : Type 0 where
    pub begun : m.begun ≡ true
    pub noting : IsNoting o ls m.closed m.words m.noted (Todo m.untaken m.front m.size m.hands)
    pub front : IsFrontier o ls m.closed m.front
    pub distinct : AreDistinct m.noted
    pub held : (w : ℕ) (moves : List Move) → slice_get m.hands w ≡ Some (Some moves) → AllMoves (λ p t. IsBest o ls p m.closed × HasTarget ls p t) moves
    pub some : 0 < length m.front
    pub inside : (b : ℕ) → slice_get m.untaken b ≡ Some true → b * m.size < length m.front
    pub positive : 0 < m.size
    pub counted : m.closed + length m.front + length m.noted ≤ sum_reached (λ _. 1) m.words

  -- so few rounds are closed
  pub few_closed : (m : Machine) → IsGraph o ls → Working m → m.closed < 33554432
  few_closed m g h = let a = h.counted in let b = h.some in let c = sum_le m.words in let d = h.noting.within.count in let f = g.few in omega (arith, a, b, c, d, f)

  begins : (m : Machine) (size : ℕ) → IsGraph o ls → Resting m → 0 < length m.front → 0 < size → Working (does ls m (Begin size))
  begins m size g h some positive = record {
    begun = refl;
    noting = subst (λ n. IsNoting o ls m.closed m.words n (Todo (replicate (batch_count (length m.front) size) true) m.front size m.hands)) (sym h.noted)
        (open_noting o ls m.closed m.words (Todo (replicate (batch_count (length m.front) size) true) m.front size m.hands) g.few h.between
        (λ p t best target. (let has = h.front.all p (source_below ls p t target) best in let in_batch = batch_has m.front size p has.0 positive has.1 in
        inl (has.0 / size, get_replicate (batch_count (length m.front) size) (has.0 / size) true in_batch.0, in_batch.1))));
    front = h.front;
    distinct = subst (λ n. AreDistinct n) (sym h.noted) tt;
    held = λ w moves is. absurd (h.free w moves is);
    some = some;
    inside = λ b is. batch_below (length m.front) size b positive (let l = get_below (replicate (batch_count (length m.front) size) true) b true is in let e = length-replicate (batch_count (length m.front) size) true in omega (arith, l, e));
    positive = positive;
    counted = (let a = h.counted in let n = ap length h.noted in omega (arith, a, n));
  }

  takes : (m : Machine) (w b : ℕ) → Working m → slice_get m.hands w ≡ Some None → slice_get m.untaken b ≡ Some true → Working (does ls m (Take w b))
  takes m w b h is_free is_untaken = record {
    begun = h.begun;
    noting = weaken_noting o ls m.closed m.words m.noted (Todo m.untaken m.front m.size m.hands) (Todo (set m.untaken b false) m.front m.size (set m.hands w (Some (moves_in ls (batch_of m.front m.size b))))) h.noting
        (λ p t target there. elim there [
          | inl at ↦ batch p t target at (same_or_not at.0 b)
          | inr at ↦ inr (at.0, at.1, get_set_other m.hands w at.0 (Some (moves_in ls (batch_of m.front m.size b))) (λ e. (let clash : Some None ≡ Some (Some at.1) = sym is_free ∙ sym (ap (slice_get m.hands) e) ∙ at.2 in none_some at.1 clash)) ∙ at.2, at.3)
        ]);
    front = h.front;
    distinct = h.distinct;
    held = λ v moves is. (elim (same_or_not v w) [
      | inl same ↦ (let e : Some (Some (moves_in ls (batch_of m.front m.size b))) ≡ Some (Some moves) = sym (get_set_same m.hands w (Some (moves_in ls (batch_of m.front m.size b))) None is_free) ∙ sym (ap (slice_get (set m.hands w (Some (moves_in ls (batch_of m.front m.size b))))) same) ∙ is in
          subst (λ x. AllMoves (λ p t. IsBest o ls p m.closed × HasTarget ls p t) x) (some_some (moves_in ls (batch_of m.front m.size b)) moves e)
          (all_in (λ p t. IsBest o ls p m.closed × HasTarget ls p t) ls (batch_of m.front m.size b) (λ s t has target. ((h.front.best s (in_batch m.front m.size b s has)).1, target))))
      | inr other ↦ h.held v moves (sym (get_set_other m.hands w v (Some (moves_in ls (batch_of m.front m.size b))) other) ∙ is)
    ]);
    some = h.some;
    inside = λ c is. h.inside c (still c is (same_or_not c b));
    positive = h.positive;
    counted = h.counted;
  }
    where
      batch : (p t : ℕ) → HasTarget ls p t → (at : (c : ℕ) × (slice_get m.untaken c ≡ Some true) × Has (batch_of m.front m.size c) p) → (at.0 ≡ b) ⊎ (at.0 ≢ b) → Todo (set m.untaken b false) m.front m.size (set m.hands w (Some (moves_in ls (batch_of m.front m.size b)))) p t
      batch p t target at (inl same) = inr (
        w,
        moves_in ls (batch_of m.front m.size b),
        get_set_same m.hands w (Some (moves_in ls (batch_of m.front m.size b))) None is_free,
        (let has = subst (λ c. Has (batch_of m.front m.size c) p) same at.2 in in_all ls (batch_of m.front m.size b) p t has.0 has.1 target),
      )
      batch p t target at (inr other) = inl (at.0, get_set_other m.untaken b at.0 false other ∙ at.1, at.2)

      still : (c : ℕ) → slice_get (set m.untaken b false) c ≡ Some true → (c ≡ b) ⊎ (c ≢ b) → slice_get m.untaken c ≡ Some true
      still c is (inl same) = absurd (let e : Some false ≡ Some true = sym (get_set_same m.untaken b false true is_untaken) ∙ sym (ap (slice_get (set m.untaken b false)) same) ∙ is in let f : false ≡ true = cc in true≢false (sym f))
      still c is (inr other) = sym (get_set_other m.untaken b c false other) ∙ is

  ends : (m : Machine) → IsGraph o ls → Working m → none_untaken m.untaken ≡ true → all_free m.hands ≡ true → Resting (does ls m Close)
  ends m g h idle_is free_is = record {
    begun = refl;
    between = subst (λ n. IsBetween o ls n m.words) next shut.0;
    front = record {
      best = λ s has. (let b = shut.1.best s (sorted_has m.noted s has) in (b.0, subst (λ n. IsBest o ls s n) next b.1));
      all = λ s below best. has_sorted m.noted s (shut.1.all s below (subst (λ n. IsBest o ls s n) (sym next) best));
    };
    rising = sorted_rising m.noted h.distinct;
    noted = refl;
    idle = idle m.untaken idle_is;
    free = free m.hands free_is;
    counted = (let a = h.counted in let b = h.some in let e = sorted_length m.noted in omega (arith, a, b, e));
  }
    where
      next : suc m.closed ≡ m.closed + 1
      next = omega arith

      shut : IsBetween o ls (suc m.closed) m.words × IsFrontier o ls (suc m.closed) m.noted
      shut = shut_noting o ls m.closed m.words m.noted (Todo m.untaken m.front m.size m.hands) g.few (few_closed m g h) h.noting
          (λ p t there. elim there [ inl at ↦ idle m.untaken idle_is at.0 at.1 | inr at ↦ free m.hands free_is at.0 at.1 at.2 ])

  relaxes_good : (m : Machine) (w : ℕ) (hand : Option (Option (List Move))) → IsGraph o ls → Working m → slice_get m.hands w ≡ hand → is_busy hand ≡ true → Working (relaxes m w hand)
  relaxes_good m w None g h is busy = h
  relaxes_good m w (Some None) g h is busy = h
  relaxes_good m w (Some (Some [])) g h is busy = record {
    begun = h.begun;
    noting = weaken_noting o ls m.closed m.words m.noted (Todo m.untaken m.front m.size m.hands) (Todo m.untaken m.front m.size (set m.hands w None)) h.noting
        (λ p t target there. elim there [
          | inl at ↦ inl at
          | inr at ↦ elim (same_or_not at.0 w) [
            | inl same ↦ absurd (none_in p t (subst (λ x. InMoves x p t) (some_some at.1 [] (sym at.2 ∙ ap (slice_get m.hands) same ∙ is)) at.3))
            | inr other ↦ inr (at.0, at.1, get_set_other m.hands w at.0 None other ∙ at.2, at.3)
          ]
        ]);
    front = h.front;
    distinct = h.distinct;
    held = λ v moves at. (elim (same_or_not v w) [
      | inl same ↦ absurd (none_some moves (sym (get_set_same m.hands w None (Some []) is) ∙ sym (ap (slice_get (set m.hands w None)) same) ∙ at))
      | inr other ↦ h.held v moves (sym (get_set_other m.hands w v None other) ∙ at)
    ]);
    some = h.some;
    inside = h.inside;
    positive = h.positive;
    counted = h.counted;
  }
  relaxes_good m w (Some (Some (move ∷ moves))) g h is busy = record {
    begun = h.begun;
    noting = noting_step o ls m.closed m.words m.noted (Todo m.untaken m.front m.size m.hands) (Todo m.untaken m.front m.size (set m.hands w (Some moves))) move.source move.target g.few (few_closed m g h) inside h.noting mine.0.0 mine.0.1
        (λ q u there. elim there [
          | inl at ↦ inl (inl at)
          | inr at ↦ elim (same_or_not at.0 w) [
            | inl same ↦ first q u (subst (λ x. InMoves x q u) (some_some at.1 (move ∷ moves) (sym at.2 ∙ ap (slice_get m.hands) same ∙ is)) at.3)
            | inr other ↦ inl (inr (at.0, at.1, get_set_other m.hands w at.0 (Some moves) other ∙ at.2, at.3))
          ]
        ]);
    front = h.front;
    distinct = distinct (m_word == unreached) refl;
    held = λ v ms at. (elim (same_or_not v w) [
      | inl same ↦ subst (λ x. AllMoves (λ p t. IsBest o ls p m.closed × HasTarget ls p t) x) (some_some moves ms (sym (get_set_same m.hands w (Some moves) (Some (move ∷ moves)) is) ∙ sym (ap (slice_get (set m.hands w (Some moves))) same) ∙ at)) mine.1
      | inr other ↦ h.held v ms (sym (get_set_other m.hands w v (Some moves) other) ∙ at)
    ]);
    some = h.some;
    inside = h.inside;
    positive = h.positive;
    counted = (let a = h.counted in let e = sums_step (λ _. 1) m.words m.noted move.target (moved m.closed move.source) below low in let x = ones m.noted in let y = ones (noted_with m.noted move.target m_word) in omega (arith, a, e, x, y));
  }
    where
      m_word : ℕ
      m_word = get_or m.words move.target 0

      mine : AllMoves (λ p t. IsBest o ls p m.closed × HasTarget ls p t) (move ∷ moves)
      mine = h.held w (move ∷ moves) is

      inside : move.target < length ls
      inside = g.targets move.source move.target mine.0.1

      below : move.target < length m.words
      below = let c = h.noting.within.count in omega (arith, c, inside)

      low : moved m.closed move.source < unreached
      low = let f = g.few in let s = source_below ls move.source move.target mine.0.1 in let k = few_closed m g h in omega (arith, f, s, k)

      first : (q u : ℕ) → InMoves (move ∷ moves) q u → Todo m.untaken m.front m.size (set m.hands w (Some moves)) q u ⊎ ((q ≡ move.source) × (u ≡ move.target))
      first q u has = elim (in_cons move moves q u has) [
        | inl now ↦ inr now
        | inr later ↦ inl (inr (w, moves, get_set_same m.hands w (Some moves) (Some (move ∷ moves)) is, later))
      ]

      distinct : (b : Bool) → (get_or m.words move.target 0 == unreached) ≡ b → AreDistinct (cond b (m.noted ++ move.target ∷ []) m.noted)
      distinct true is_new = distinct_snoc m.noted move.target h.distinct (λ has. (h.noting.fresh move.target has).1.1 (eqb-true (get_or m.words move.target 0) unreached is_new))
      distinct false is_old = h.distinct

  abbrev pub Good : Machine → Type 0
  Good m = Resting m ⊎ Working m

  does_good : (m : Machine) (e : Event) → IsGraph o ls → Good m → is_enabled m e ≡ true → Good (does ls m e)
  does_good m (Begin size) g (inl h) on = let parts = and_parts (not m.begun) (not (is_empty m.front) && nat_lt 0 size) on in let more = and_parts (not (is_empty m.front)) (nat_lt 0 size) parts.1 in
      inr (begins m size g h (nonempty m.front more.0) (ltb-true 0 size more.1))
  does_good m (Begin size) g (inr h) on = absurd (true≢false (sym h.begun ∙ not_true m.begun (and_parts (not m.begun) (not (is_empty m.front) && nat_lt 0 size) on).0))
  does_good m (Take w b) g (inl h) on = absurd (h.idle b (untaken_is m.untaken b (and_parts (is_free (slice_get m.hands w)) (slice_index_or m.untaken b false) on).1))
  does_good m (Take w b) g (inr h) on = let parts = and_parts (is_free (slice_get m.hands w)) (slice_index_or m.untaken b false) on in inr (takes m w b h (free_is (slice_get m.hands w) parts.0) (untaken_is m.untaken b parts.1))
  does_good m (Relax w) g (inl h) on = let busy = busy_is (slice_get m.hands w) on in absurd (h.free w busy.0 busy.1)
  does_good m (Relax w) g (inr h) on = inr (relaxes_good m w (slice_get m.hands w) g h refl on)
  does_good m Close g (inl h) on = absurd (true≢false (sym (and_parts m.begun (none_untaken m.untaken && all_free m.hands) on).0 ∙ h.begun))
  does_good m Close g (inr h) on = let parts = and_parts m.begun (none_untaken m.untaken && all_free m.hands) on in let more = and_parts (none_untaken m.untaken) (all_free m.hands) parts.1 in inl (ends m g h more.0 more.1)

  -- each event keeps it
  pub after_good : (m : Machine) (e : Event) → IsGraph o ls → Good m → Good (after_event ls m e)
  after_good m e g h = by (is_enabled m e) refl
    where
      by : (b : Bool) → is_enabled m e ≡ b → Good (cond b (does ls m e) m)
      by true on = does_good m e g h on
      by false off = h

  pub run_good : (m : Machine) (es : List Event) → IsGraph o ls → Good m → Good (run ls m es)
  run_good m [] g h = h
  run_good m (e ∷ es) g h = run_good (after_event ls m e) es g (after_good m e g h)

  pub opening_good : (workers : ℕ) → IsGraph o ls → Good (opening o ls workers)
  opening_good workers g = inl (record {
    begun = refl;
    between = between_start o ls (set (replicate (length ls) unreached) o 0) g.start refl;
    front = front_start o ls g.start;
    rising = ((λ y has. absurd (has_none y has)), tt);
    noted = refl;
    idle = λ b is. (let e : None ≡ Some true = is in absurd (cc e));
    free = λ w moves is. none_some moves (ap Some (get_replicate_is workers w None (Some moves) is));
    counted = (let a = sum_first (λ _. 1) (length ls) o g.start in omega (arith, a));
  })

  pub stands_good : (m : Machine) (s : ℕ) → IsGraph o ls → Good m → s < length ls → Stands o ls s (get_or m.words s 0)
  stands_good m s g (inl h) below = stands o ls m.closed m.words (λ p t. Unit {0}) g.few (open_round o ls m.closed m.words (λ p t. Unit {0}) h.between (λ p t _ _. tt)) s below
  stands_good m s g (inr h) below = stands o ls m.closed m.words (Todo m.untaken m.front m.size m.hands) g.few h.noting.within s below

  pub between_good : (m : Machine) → Good m → m.begun ≡ false → IsBetweenRounds o ls m
  between_good m (inl h) rests = record { words = h.between; front = h.front; rising = h.rising }
  between_good m (inr h) rests = absurd (true≢false (sym h.begun ∙ rests))

  pub settled_good : (m : Machine) → Good m → m.begun ≡ false → m.front ≡ [] → AreSettled o ls m.words
  settled_good m (inl h) rests none = settled o ls m.closed m.words h.between (λ s below best. has_none s (subst (λ l. Has l s) none (h.front.all s below best)))
  settled_good m (inr h) rests none = absurd (true≢false (sym h.begun ∙ rests))
