-- One round of the plain search, and all of them.
use Rattle.std.proofs.Common.{◌≡◌, ◌≢◌, ◌==◌, ℕ, suc, ◌+◌, ◌*◌, ◌≤◌, ◌<◌, ◌⊎◌, Bool, true, false, List, [], ◌∷◌, ◌++◌, length, get_or, set, min, take, drop, sym, ap, subst, ◌∙◌, refl, arith, inl, inr, replicate, append_assoc}
use Rattle.std.proofs.lemmas.List.{set-get_or, append-nil}
use Rattle.std.proofs.lemmas.Grind.{get_or_default_zero}
use Rattle.std.proofs.lemmas.List.Sums.{sum_by_more}
use Rattle.std.specs.Prelude.{sum_by, cond}
use Rattle.std.proofs.lemmas.Bool.Decides.{eqb_tells}
use Rattle.graph_rules.specs.Graphs.{row, HasTarget, IsBest, AreSettled, moved, unreached}
use Rattle.graph_rules.proofs.Distances.{source_below}
use Rattle.graph_rules.proofs.SettledLemmas.{best_once}
use Rattle.round_core.specs.inside.InRounds.{IsNoting, IsReady, moves_of}
use Rattle.round_core.specs.Machines.{lowered, noted_with}
use Rattle.round_core.specs.Rounds.{Has, IsBetween, IsFrontier}
use Rattle.round_core.specs.Searches.{sum_reached, IsRounds}
use Rattle.round_core.proofs.Members.{has_none, has_cons, has_drop_next, has_drop_at, has_first, has_later}
use Rattle.round_core.proofs.Places.{drop_all, drop-append, drop_past}
use Rattle.round_core.proofs.Rounds.{between_start, settled, levels}
use Rattle.round_core.proofs.Sums.{ones, sum_first, sum_le, sums_step}
use Rattle.round_core.proofs.Noted.{noting_step, open_noting, weaken_noting, shut_noting, front_start}

-- the moves of the numbers before this place are made
pub record Passing (o : ℕ) (ls : List (List ℕ)) (k start at : ℕ) (old words queue : List ℕ) (moves : ℕ) : Type 0 where
  pub noted : List ℕ
  pub queue_is : queue ≡ old ++ noted
  pub noting : IsNoting o ls k words noted (λ p t. Has (drop at old) p)
  pub sums : (f : ℕ → ℕ) → sum_by f queue ≡ sum_reached f words
  pub moves_are : moves_of ls (take start old) + moves ≡ moves_of ls (take at old)
  pub bound : moves + start * 4294967296 ≤ at * 4294967296

-- and of the number at this place those that aren't left
pub record Making (o : ℕ) (ls : List (List ℕ)) (k start at state : ℕ) (old left words queue : List ℕ) (moves : ℕ) : Type 0 where
  pub noted : List ℕ
  pub queue_is : queue ≡ old ++ noted
  pub noting : IsNoting o ls k words noted (λ p t. Has (drop (suc at) old) p ⊎ ((p ≡ state) × Has left t))
  pub sums : (f : ℕ → ℕ) → sum_by f queue ≡ sum_reached f words
  pub targets : (t : ℕ) → Has left t → HasTarget ls state t
  pub moves_are : moves_of ls (take start old) + moves + length left ≡ moves_of ls (take (at + 1) old)
  pub bound : moves + length left + start * 4294967296 ≤ (at + 1) * 4294967296

noted_append : (old noted : List ℕ) (t w : ℕ) → noted_with (old ++ noted) t w ≡ old ++ noted_with noted t w
noted_append old noted t w = by (w == unreached)
  where
    by : (b : Bool) → cond b ((old ++ noted) ++ t ∷ []) (old ++ noted) ≡ old ++ cond b (noted ++ t ∷ []) noted
    by true = append_assoc old noted (t ∷ [])
    by false = refl

-- nothing changes where the settled word isn't less
pub skipped : (words queue : List ℕ) (t v : ℕ) → v < unreached → get_or words t 0 ≤ v → (words ≡ lowered words t v) × (queue ≡ noted_with queue t (get_or words t 0))
skipped words queue t v low le = (
  sym (ap (λ x. set words t x) (let e : min (get_or words t 0) v ≡ get_or words t 0 = omega (arith, le) in e) ∙ set-get_or words t 0),
  elim (eqb_tells (get_or words t 0) unreached) [
    | inl h ↦ absurd (let e = h.1 in omega (arith, low, le, e))
    | inr h ↦ (let e = h.0 in rw e refl)
  ],
)

pub lowered_is : (words : List ℕ) (t v : ℕ) → v < get_or words t 0 → set words t v ≡ lowered words t v
lowered_is words t v lt = ap (λ x. set words t x) (let e : v ≡ min (get_or words t 0) v = omega (arith, lt) in e)

pub noted_new : (queue : List ℕ) (t w : ℕ) → w ≡ unreached → queue ++ t ∷ [] ≡ noted_with queue t w
noted_new queue t w is = rw is refl

pub noted_old : (queue : List ℕ) (t w : ℕ) → w ≢ unreached → queue ≡ noted_with queue t w
noted_old queue t w other = elim (eqb_tells w unreached) [ inl h ↦ absurd (other h.1) | inr h ↦ (let e = h.0 in rw e refl) ]

module _ (o : ℕ) (ls : List (List ℕ)) where
  pub passing_start : (k start : ℕ) (words queue : List ℕ) → length ls ≤ 33554432 → IsReady o ls k start words queue → Passing o ls k start start queue words queue 0
  passing_start k start words queue few h = record {
    noted = [];
    queue_is = sym (append-nil queue);
    noting = open_noting o ls k words (λ p t. Has (drop start queue) p) few h.between (λ p t best target. h.front.all p (source_below ls p t target) best);
    sums = h.sums;
    moves_are = omega arith;
    bound = omega arith;
  }

  pub passing_end : (k start : ℕ) (old words queue : List ℕ) (moves : ℕ) → length ls ≤ 33554432 → k < 33554432 → Passing o ls k start (length old) old words queue moves → IsReady o ls (k + 1) (length old) words queue
  passing_end k start old words queue moves few low h = record {
    between = subst (λ n. IsBetween o ls n words) next ended.0;
    front = subst (λ l. IsFrontier o ls (k + 1) l) (sym rest) (subst (λ n. IsFrontier o ls n h.noted) next ended.1);
    sums = h.sums;
  }
    where
      next : suc k ≡ k + 1
      next = omega arith

      rest : drop (length old) queue ≡ h.noted
      rest = ap (drop (length old)) h.queue_is ∙ drop-append old h.noted

      ended : IsBetween o ls (suc k) words × IsFrontier o ls (suc k) h.noted
      ended = shut_noting o ls k words h.noted (λ p t. Has (drop (length old) old) p) few low h.noting (λ p t there. has_none p (subst (λ l. Has l p) (drop_all old) there))

  pub enter : (k start at state : ℕ) (old left words queue : List ℕ) (moves : ℕ) → at < length old → state ≡ get_or old at 0 → left ≡ row ls state → length (row ls state) < 4294967296
      → Passing o ls k start at old words queue moves → Making o ls k start at state old left words queue moves
  enter k start at state old left words queue moves lt is left_is few h = record {
    noted = h.noted;
    queue_is = h.queue_is;
    noting = weaken_noting o ls k words h.noted (λ p t. Has (drop at old) p) (λ p t. Has (drop (suc at) old) p ⊎ ((p ≡ state) × Has left t)) h.noting
        (λ p t target there. elim (has_drop_next old at p lt there) [
          | inl now ↦ inr (sym now ∙ sym is, subst (λ l. Has l t) (sym left_is) (subst (λ q. HasTarget ls q t) (sym now ∙ sym is) target))
          | inr later ↦ inl later
        ]);
    sums = h.sums;
    targets = λ t has. subst (λ l. Has l t) left_is has;
    moves_are = (let e = sum_by_more (λ s. length (row ls s)) old at 0 lt in let m = h.moves_are in let l = ap length left_is in let r = ap (λ s. length (row ls s)) is in omega (arith, e, m, l, r));
    bound = (let b = h.bound in let l = ap length left_is in omega (arith, b, few, l));
  }

  pub make : (k start at state t : ℕ) (old left rest words queue now longer : List ℕ) (moves : ℕ) → length ls ≤ 33554432 → k < 33554432 → t < length ls → IsBest o ls state k → left ≡ t ∷ rest
      → now ≡ lowered words t (moved k state) → longer ≡ noted_with queue t (get_or words t 0)
      → Making o ls k start at state old left words queue moves → Making o ls k start at state old rest now longer (moves + 1)
  make k start at state t old left rest words queue now longer moves few low below best left_is now_is longer_is h = record {
    noted = noted_with h.noted t (get_or words t 0);
    queue_is = longer_is ∙ ap (λ q. noted_with q t (get_or words t 0)) h.queue_is ∙ noted_append old h.noted t (get_or words t 0);
    noting = subst (λ ws. IsNoting o ls k ws (noted_with h.noted t (get_or words t 0)) (λ p t. Has (drop (suc at) old) p ⊎ ((p ≡ state) × Has rest t))) (sym now_is)
        (noting_step o ls k words h.noted (λ p t. Has (drop (suc at) old) p ⊎ ((p ≡ state) × Has left t)) (λ p t. Has (drop (suc at) old) p ⊎ ((p ≡ state) × Has rest t)) state t few low below h.noting best target
        (λ q u there. elim there [
          | inl later ↦ inl (inl later)
          | inr here ↦ elim (has_cons t rest u (subst (λ l. Has l u) left_is here.1)) [ inl is ↦ inr (here.0, sym is) | inr more ↦ inl (inr (here.0, more)) ]
        ]));
    sums = λ f. (let e = sums_step f words queue t (moved k state) t_below v_low in let a = h.sums f in let n = ap (sum_reached f) now_is in let l = ap (sum_by f) longer_is in omega (arith, e, a, n, l));
    targets = λ u has. h.targets u (subst (λ l. Has l u) (sym left_is) (has_later t rest u has));
    moves_are = (let m = h.moves_are in let l = ap length left_is in omega (arith, m, l));
    bound = (let m = h.bound in let l = ap length left_is in omega (arith, m, l));
  }
    where
      target : HasTarget ls state t
      target = h.targets t (subst (λ l. Has l t) (sym left_is) (has_first t rest))

      t_below : t < length words
      t_below = let c = h.noting.within.count in omega (arith, c, below)

      v_low : moved k state < unreached
      v_low = let s = source_below ls state t target in omega (arith, s, few, low)

  pub leave : (k start at state : ℕ) (old left words queue : List ℕ) (moves : ℕ) → left ≡ [] → Making o ls k start at state old left words queue moves → Passing o ls k start (suc at) old words queue moves
  leave k start at state old left words queue moves left_is h = record {
    noted = h.noted;
    queue_is = h.queue_is;
    noting = weaken_noting o ls k words h.noted (λ p t. Has (drop (suc at) old) p ⊎ ((p ≡ state) × Has left t)) (λ p t. Has (drop (suc at) old) p) h.noting
        (λ p t target there. elim there [ inl later ↦ later | inr here ↦ absurd (has_none t (subst (λ l. Has l t) left_is here.1)) ]);
    sums = h.sums;
    moves_are = (let m = h.moves_are in let l = ap length left_is in let n = ap (λ i. moves_of ls (take i old)) (let e : at + 1 ≡ suc at = omega arith in e) in omega (arith, m, l, n));
    bound = (let m = h.bound in let l = ap length left_is in omega (arith, m, l));
  }

  -- the state that is read is one of the frontier
  pub state_best : (k start at state : ℕ) (old : List ℕ) → IsFrontier o ls k (drop start old) → start ≤ at → at < length old → state ≡ get_or old at 0 → (state < length ls) × IsBest o ls state k
  state_best k start at state old front le lt is = let b = front.best (get_or old at 0) (has_drop_at old start at le lt) in (let l = b.0 in omega (arith, l, is), subst (λ x. IsBest o ls x k) (sym is) b.1)

  -- the three ways of the code: the settled word isn't less, it is, or the number is new
  pub make_by : (k start at state t word found : ℕ) (old left rest words queue now longer : List ℕ) (moves : ℕ) → length ls ≤ 33554432 → k < 33554432 → t < length ls → IsBest o ls state k → left ≡ t ∷ rest
      → word ≡ moved k state → found ≡ get_or words t found
      → ((found ≤ word) × (now ≡ words) × (longer ≡ queue)) ⊎ ((word < found) × (now ≡ set words t word) × (found ≢ unreached) × (longer ≡ queue)) ⊎ ((word < found) × (now ≡ set words t word) × (found ≡ unreached) × (longer ≡ queue ++ t ∷ []))
      → Making o ls k start at state old left words queue moves → Making o ls k start at state old rest now longer (moves + 1)
  make_by k start at state t word found old left rest words queue now longer moves few low below best left_is word_is found_is how h =
      make k start at state t old left rest words queue now longer moves few low below best left_is (now_is how) (longer_is how) h
    where
      is : found ≡ get_or words t 0
      is = found_is ∙ get_or_default_zero words t found (let c = h.noting.within.count in omega (arith, c, below))

      v_low : moved k state < unreached
      v_low = let s = source_below ls state t (h.targets t (subst (λ l. Has l t) (sym left_is) (has_first t rest))) in omega (arith, s, few, low)

      now_is : ((found ≤ word) × (now ≡ words) × (longer ≡ queue)) ⊎ ((word < found) × (now ≡ set words t word) × (found ≢ unreached) × (longer ≡ queue)) ⊎ ((word < found) × (now ≡ set words t word) × (found ≡ unreached) × (longer ≡ queue ++ t ∷ [])) → now ≡ lowered words t (moved k state)
      now_is (inl a) = a.1 ∙ (skipped words queue t (moved k state) v_low (let l = a.0 in omega (arith, l, is, word_is))).0
      now_is (inr (inl a)) = a.1 ∙ ap (set words t) word_is ∙ lowered_is words t (moved k state) (let l = a.0 in omega (arith, l, is, word_is))
      now_is (inr (inr a)) = a.1 ∙ ap (set words t) word_is ∙ lowered_is words t (moved k state) (let l = a.0 in omega (arith, l, is, word_is))

      longer_is : ((found ≤ word) × (now ≡ words) × (longer ≡ queue)) ⊎ ((word < found) × (now ≡ set words t word) × (found ≢ unreached) × (longer ≡ queue)) ⊎ ((word < found) × (now ≡ set words t word) × (found ≡ unreached) × (longer ≡ queue ++ t ∷ [])) → longer ≡ noted_with queue t (get_or words t 0)
      longer_is (inl a) = a.2 ∙ (skipped words queue t (moved k state) v_low (let l = a.0 in omega (arith, l, is, word_is))).1
      longer_is (inr (inl a)) = a.3 ∙ noted_old queue t (get_or words t 0) (λ bad. a.2 (is ∙ bad))
      longer_is (inr (inr a)) = a.3 ∙ noted_new queue t (get_or words t 0) (sym is ∙ a.2)

  -- the queue has no more numbers than the graph
  pub ready_short : (k start : ℕ) (words queue : List ℕ) → IsReady o ls k start words queue → length queue ≤ length ls
  ready_short k start words queue h = let a = ones queue in let b = h.sums (λ _. 1) in let d = sum_le words in let e = h.between.count in omega (arith, a, b, d, e)

  pub ready_start : (words : List ℕ) → o < length ls → words ≡ set (replicate (length ls) unreached) o 0 → IsReady o ls 0 0 words (o ∷ [])
  ready_start words below is = record {
    between = between_start o ls words below is;
    front = front_start o ls below;
    sums = λ f. (let a = sum_first f (length ls) o below in let b = ap (sum_reached f) is in omega (arith, a, b));
  }

  -- nothing is left
  pub all_settled : (k start : ℕ) (words queue : List ℕ) → length queue ≤ start → IsReady o ls k start words queue → AreSettled o ls words
  all_settled k start words queue le h = settled o ls k words h.between (λ s below best. has_none s (subst (λ l. Has l s) (drop_past start queue le) (h.front.all s below best)))

  pub all_rounds : (k start : ℕ) (words queue : List ℕ) → length queue ≤ start → IsReady o ls k start words queue → (s : ℕ) × (n : ℕ) × (s < length ls) × IsBest o ls s n × (n + 1 ≡ k) → IsRounds o ls k
  all_rounds k start words queue le h last = record { most = λ s n below best. lower s n best (levels o ls k words h.between (λ s below best. has_none s (subst (λ l. Has l s) (drop_past start queue le) (h.front.all s below best))) n s below best.walk); met = last }
    where
      lower : (s n : ℕ) → IsBest o ls s n → (j : ℕ) × (j < k) × IsBest o ls s j → n < k
      lower s n best found = let e = best_once o ls s n found.0 best found.2 in let l = found.1 in omega (arith, e, l)

  -- a round that is made has a number at its distance
  pub last_made : (k start : ℕ) (words queue : List ℕ) → IsReady o ls k start words queue → start < length queue → (s : ℕ) × (n : ℕ) × (s < length ls) × IsBest o ls s n × (n + 1 ≡ k + 1)
  last_made k start words queue h lt = let b = h.front.best (get_or queue start 0) (has_drop_at queue start start (omega arith) lt) in (get_or queue start 0, k, b.0, b.1, refl)
