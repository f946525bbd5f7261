-- Words that stand, where each move was relaxed with a least distance, are the settled ones, whatever the order of the moves.
use Rattle.std.proofs.Common.{◌≡◌, ◌≢◌, ℕ, zero, suc, ◌+◌, ◌*◌, ◌≤◌, ◌<◌, List, length, get_or, ap, subst, ◌∙◌, arith, inl, inr}
use Rattle.std.proofs.lemmas.Bool.{cases_lt}
use Rattle.graph_rules.specs.Graphs.{HasTarget, Reaches, IsBest, IsSource, IsSettledWord, AreSettled, Stands, moved, unreached}
use Rattle.graph_rules.specs.Relaxed.{AreRelaxed}
use Rattle.graph_rules.proofs.Distances.{source_below, best_below}

-- a walk of n moves goes to s, and n is the high half of the word
record Level (o : ℕ) (ls : List (List ℕ)) (s w : ℕ) : Type 0 where
  n : ℕ
  walk : Reaches o ls n s
  low : n * 4294967296 ≤ w
  high : w < (n + 1) * 4294967296

level_of : (o : ℕ) (ls : List (List ℕ)) (s w : ℕ) → w ≢ unreached → Stands o ls s w → Level o ls s w
level_of o ls s w found (inl is) = absurd (found is)
level_of o ls s w found (inr (inl h)) = let is = h.0 in record { n = 0; walk = h.1; low = omega arith; high = omega (arith, is) }
level_of o ls s w found (inr (inr h)) = let is = h.2 in let below = h.3 in record { n = suc h.0; walk = (h.1, h.4, h.5); low = omega (arith, is); high = omega (arith, is, below) }

module _ (o : ℕ) (ls : List (List ℕ)) (words : List ℕ) (few : length ls < 4294967296) (h : AreRelaxed o ls words) where
  -- the word of s has a level of at most n
  abbrev Levelled : ℕ → ℕ → Type 0
  Levelled s n = (v : Level o ls s (get_or words s 0)) × (v.n ≤ n)

  -- where no walk of any number of moves is shorter than the high half, the high half is the least distance
  level_best : (s : ℕ) (v : Level o ls s (get_or words s 0)) → ((m : ℕ) → m < v.n → Reaches o ls m s → Levelled s m) → IsBest o ls s v.n
  level_best s v shorter = record {
    walk = v.walk;
    least = λ m walk. elim (cases_lt m v.n) [
      | inr ge ↦ ge
      | inl lt ↦ (let u = shorter m lt walk in let low = v.low in let high = u.0.high in let most = u.1 in omega (arith, lt, low, high, most))
    ];
  }

  -- the last move of a walk of n + 1 moves
  last_move : (n s p : ℕ) → s < length ls → HasTarget ls p s → ((m : ℕ) → m ≤ n → Reaches o ls m p → Levelled p m) → Reaches o ls n p → Levelled s (suc n)
  last_move n s p below target before walk =
      let v = before n (omega arith) walk in let most = v.1 in
      let best = level_best p v.0 (λ m lt shorter. before m (omega (arith, lt, most)) shorter) in
      let le = h.moves p v.0.n s best target below in
      let p_below = source_below ls p s target in
      let near = best_below o ls p v.0.n p_below best in
      let found : get_or words s 0 ≢ unreached = λ is. omega (arith, is, le, near, few, p_below) in
      let u = level_of o ls s (get_or words s 0) found (h.stand s below) in
      (u, (let low = u.low in omega (arith, low, le, most, p_below, few)))

  -- a walk of n moves to s is no shorter than the high half of the word of s
  levels : (most n : ℕ) → n ≤ most → (s : ℕ) → s < length ls → Reaches o ls n s → Levelled s n
  levels most zero le s below walk =
      let is : get_or words s 0 ≡ 0 = ap (λ i. get_or words i 0) walk ∙ h.start in
      (record { n = 0; walk = walk; low = omega arith; high = omega (arith, is) }, omega arith)
  levels zero (suc n) le s below walk = absurd (omega (arith, le))
  levels (suc most) (suc n) le s below walk =
      let p_below = source_below ls walk.0 s walk.2 in
      last_move n s walk.0 below walk.2 (λ m l w. levels most m (let a : m ≤ most = omega (arith, le, l) in a) walk.0 p_below w) walk.1

  best_of : (s : ℕ) → s < length ls → (v : Level o ls s (get_or words s 0)) → IsBest o ls s v.n
  best_of s below v = level_best s v (λ m lt walk. levels m m (omega arith) s below walk)

  settled_word : (s : ℕ) → s < length ls → Stands o ls s (get_or words s 0) → IsSettledWord o ls s (get_or words s 0)
  settled_word s below (inl is) = inr (inr ((λ n walk. none n walk), is))
    where
      none : (n : ℕ) → Reaches o ls n s → ⊥
      none n walk =
          let v = levels n n (omega arith) s below walk in
          let near = best_below o ls s v.0.n below (best_of s below v.0) in let high = v.0.high in
          omega (arith, is, near, high, few)
  settled_word s below (inr (inl k)) = inl (k.1, k.0)
  settled_word s below (inr (inr k)) = inr (inl (other, (k.0, k.1, best, source, is)))
    where
      is : get_or words s 0 ≡ moved k.0 k.1
      is = k.2

      best : IsBest o ls s (k.0 + 1)
      best = let e : suc k.0 ≡ k.0 + 1 = omega arith in
          subst (λ n. IsBest o ls s n) e (best_of s below (let low = k.3 in record { n = suc k.0; walk = (k.1, k.4, k.5); low = omega (arith, is); high = omega (arith, is, low) }))

      other : s ≢ o
      other e = let no_moves = best.least 0 e in omega (arith, no_moves)

      source : IsSource o ls s k.0 k.1
      source = record {
        before = record { walk = k.4; least = λ m walk. (let longer = best.least (suc m) (k.1, walk, k.5) in omega (arith, longer)) };
        target = k.5;
        least = λ q before target. (let le = h.moves q k.0 s before target below in omega (arith, le, is));
      }

pub relaxed_settled : (o : ℕ) (ls : List (List ℕ)) (words : List ℕ) → length ls < 4294967296 → AreRelaxed o ls words → AreSettled o ls words
relaxed_settled o ls words few h = record {
  count = h.count;
  each = λ s below. (let s_below : s < length ls = (let count = h.count in omega (arith, count, below)) in settled_word o ls words few h s s_below (h.stand s s_below));
}

-- ---- settled words stand

pub settled_stands : (o : ℕ) (ls : List (List ℕ)) (s w : ℕ) → length ls ≤ 4294967296 → IsSettledWord o ls s w → Stands o ls s w
settled_stands o ls s w few (inl h) = inr (inl (h.1, h.0))
settled_stands o ls s w few (inr (inl h)) =
    let below = source_below ls h.1.1 s h.1.3.target in
    inr (inr (h.1.0, h.1.1, h.1.4, omega (arith, below, few), h.1.3.before.walk, h.1.3.target))
settled_stands o ls s w few (inr (inr h)) = inl h.1

pub words_stand : (o : ℕ) (ls : List (List ℕ)) (words : List ℕ) (s : ℕ) → length ls ≤ 4294967296 → AreSettled o ls words → s < length ls → Stands o ls s (get_or words s 0)
words_stand o ls words s few h below = settled_stands o ls s (get_or words s 0) few (h.each s (let count = h.count in omega (arith, count, below)))
