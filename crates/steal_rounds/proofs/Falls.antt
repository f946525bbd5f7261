-- Along a legal history words only fall.
use Rattle.std.proofs.Common.{◌≡◌, ℕ, zero, suc, ◌<◌, ◌≤◌, Bool, true, false, List, [], ◌∷◌, get_or, set, min, replicate, Some, refl, sym, subst, arith}
use Rattle.std.specs.Prelude.{slice_get}
use Rattle.graph_rules.specs.Graphs.{unreached}
use Rattle.dist_table.specs.declared.call.Call.{Call}
use Rattle.dist_table.specs.Histories.{call, words_after_call, replayed_words, AreReplies, opening_words}

falls_set : (ws : List ℕ) (i v s : ℕ) → get_or (set ws i (min (get_or ws i 0) v)) s 0 ≤ get_or ws s 0
falls_set [] i v s = omega arith
falls_set (w ∷ ws) zero v zero = omega arith
falls_set (w ∷ ws) zero v (suc s) = omega arith
falls_set (w ∷ ws) (suc i) v zero = omega arith
falls_set (w ∷ ws) (suc i) v (suc s) = falls_set ws i v s

pub relaxed_puts : (ws : List ℕ) (i v : ℕ) → get_or (set ws i (min (get_or ws i 0) v)) i 0 ≤ v
relaxed_puts [] i v = omega arith
relaxed_puts (w ∷ ws) zero v = omega arith
relaxed_puts (w ∷ ws) (suc i) v = relaxed_puts ws i v

after_falls : (ws : List ℕ) (c : Call) (s : ℕ) → get_or (words_after_call ws c) s 0 ≤ get_or ws s 0
after_falls ws c s = by c.relax refl
  where
    by : (b : Bool) → c.relax ≡ b → get_or (words_after_call ws c) s 0 ≤ get_or ws s 0
    by true is = rw is (falls_set ws c.state c.value s)
    by false is = rw is (omega arith)

pub fell : (ws : List ℕ) (log : List Call) (s : ℕ) → get_or (replayed_words ws log) s 0 ≤ get_or ws s 0
fell ws [] s = omega arith
fell ws (c ∷ log) s = let a = fell (words_after_call ws c) log s in let b = after_falls ws c s in omega (arith, a, b)

pub reply_below : (ws : List ℕ) (log : List Call) (i : ℕ) (c : Call) → AreReplies ws log → slice_get log i ≡ Some c → c.reply ≤ get_or ws c.state 0
reply_below ws [] i c h e = absurd (cc e)
reply_below ws (d ∷ log) zero c h e = let same : d ≡ c = cc e in subst (λ (x : Call). x.reply ≤ get_or ws x.state 0) same (let r = h.0 in omega (arith, r))
reply_below ws (d ∷ log) (suc i) c h e = let a = reply_below (words_after_call ws d) log i c h.1 e in let b = after_falls ws d c.state in omega (arith, a, b)

-- a call later than a relax replies no more than what the relax put
pub later_less : (ws : List ℕ) (log : List Call) (j i n m s v r w q : ℕ) (b : Bool) → AreReplies ws log → j < i → slice_get log j ≡ Some (call n true s v r) → slice_get log i ≡ Some (call m b s w q) → q ≤ v
later_less ws [] j i n m s v r w q b h lt e f = absurd (cc e)
later_less ws (d ∷ log) j zero n m s v r w q b h lt e f = absurd (omega (arith, lt))
later_less ws (d ∷ log) zero (suc i) n m s v r w q b h lt e f =
    let same : d ≡ call n true s v r = cc e in
    let a = reply_below (words_after_call ws d) log i (call m b s w q) h.1 f in
    let p = subst (λ (x : Call). q ≤ get_or (words_after_call ws x) s 0) same a in
    let z = relaxed_puts ws s v in omega (arith, p, z)
later_less ws (d ∷ log) (suc j) (suc i) n m s v r w q b h lt e f = later_less (words_after_call ws d) log j i n m s v r w q b h.1 (omega (arith, lt)) e f

-- at the end a word is no more than what a relax put
pub left_less : (ws : List ℕ) (log : List Call) (i n s v r : ℕ) → slice_get log i ≡ Some (call n true s v r) → get_or (replayed_words ws log) s 0 ≤ v
left_less ws [] i n s v r e = absurd (cc e)
left_less ws (d ∷ log) zero n s v r e =
    let same : d ≡ call n true s v r = cc e in
    subst (λ (x : Call). get_or (replayed_words (words_after_call ws x) log) s 0 ≤ v) (sym same) (let a = fell (words_after_call ws (call n true s v r)) log s in let z = relaxed_puts ws s v in omega (arith, a, z))
left_less ws (d ∷ log) (suc i) n s v r e = left_less (words_after_call ws d) log i n s v r e

zero_set : (ws : List ℕ) (o : ℕ) → get_or (set ws o 0) o 0 ≤ 0
zero_set [] o = omega arith
zero_set (w ∷ ws) zero = omega arith
zero_set (w ∷ ws) (suc o) = zero_set ws o

pub opens_zero : (o n : ℕ) → get_or (opening_words o n) o 0 ≤ 0
opens_zero o n = zero_set (replicate n unreached) o
