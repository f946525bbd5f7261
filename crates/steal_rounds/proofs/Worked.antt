-- What a whole round did, from what each step of it did.
use Rattle.std.proofs.Common.{◌≡◌, ℕ, zero, suc, ◌+◌, ◌*◌, ◌/◌, ◌%◌, ◌<◌, ◌≤◌, Bool, cond, List, [], ◌∷◌, ◌++◌, length, take, drop, Some, Vec, Global, refl, ap, sym, subst, ◌∙◌, ⊎_elim, inl, inr, arith, eq-eqb}
use Rattle.std.specs.Prelude.{slice_get, sum_by}
use Rattle.std.proofs.lemmas.Bool.Decides.{eqb_tells}
use Rattle.std.proofs.lemmas.List.Sums.{sum_by-append, sum_by-cons}
use mathlib.Core.List.{IsPrefix}
use Rattle.graph_rules.specs.Graphs.{row, HasTarget, moved}
use Rattle.round_core.specs.Rounds.{Has}
use Rattle.round_core.proofs.Members.{has_first, has_later, has_cons}
use Rattle.dist_table.specs.declared.call.Call.{Call}
use Rattle.dist_table.specs.Tables.{TableView, PassView}
use Rattle.steal_batches.specs.Deques.{times_in}
use Rattle.steal_batches.specs.Deques.{AreAllTaken, ThiefView}
use Rattle.steal_rounds.specs.declared.member.CrewMember.{CrewMember}
use Rattle.steal_rounds.specs.inside.Lists.{Each}
use Rattle.steal_rounds.specs.inside.Moves.{Relaxed, Worked, batch_states_of, Found, IsLaterPass}
use Rattle.round_core.specs.inside.InRounds.{moves_of}
use Rattle.round_core.proofs.Places.{take_past}
use Rattle.steal_batches.proofs.StepLemmas.{times_in-append}
use Rattle.steal_rounds.specs.inside.Crews.{Took, MadeMoves, Turned, SameThieves, batch_moves, stolen_by, taken_by}
use Rattle.steal_rounds.specs.inside.Fronts.{IsWorked}
use Rattle.steal_rounds.specs.inside.Records.{KeepsRecord, AreReturned, AreBack, IsBlank, AreMade, HadTurns, AreCollected, sum_to}
use Rattle.steal_rounds.proofs.Spreads.{prefix_trans, prefix_get, found_more, prefix_self}
use Rattle.steal_rounds.proofs.Lists.{get_there, get_below, one_there, each_get, each_length, sums_by, sum_same}

-- ---- lists in which each number stands as often

has_times : (xs : List ℕ) (b : ℕ) → Has xs b → 0 < times_in b xs
has_times [] b h = absurd (let e = h.1 in cc e)
has_times (x ∷ xs) b h = elim (has_cons x xs b h) [
  | inl is ↦ (let e = ap {B = ℕ} (λ (t : Bool). cond t 1 0) (eq-eqb x b is) in omega (arith, e))
  | inr old ↦ (let r = has_times xs b old in omega (arith, r))
]

times_has : (xs : List ℕ) (b : ℕ) → 0 < times_in b xs → Has xs b
times_has [] b lt = absurd (omega (arith, lt))
times_has (x ∷ xs) b lt = elim (eqb_tells x b) [
  | inl h ↦ subst (λ y. Has (x ∷ xs) y) h.1 (has_first x xs)
  | inr h ↦ has_later x xs b (times_has xs b (let e = ap {B = ℕ} (λ (t : Bool). cond t 1 0) h.0 in omega (arith, lt, e)))
]

split_at : (xs : List ℕ) (b : ℕ) → Has xs b → (us : List ℕ) × (vs : List ℕ) × (xs ≡ us ++ b ∷ vs)
split_at xs b (i, e) = go xs i e
  where
    go : (ys : List ℕ) (i : ℕ) → slice_get ys i ≡ Some b → (us : List ℕ) × (vs : List ℕ) × (ys ≡ us ++ b ∷ vs)
    go [] i e = absurd (cc e)
    go (y ∷ ys) zero e = ([], ys, cc e)
    go (y ∷ ys) (suc i) e = let r = go ys i e in (y ∷ r.0, r.1, ap (λ l. y ∷ l) r.2)

pub sums_of_times : (f : ℕ → ℕ) (xs ys : List ℕ) → ((x : ℕ) → times_in x xs ≡ times_in x ys) → sum_by f xs ≡ sum_by f ys
sums_of_times f [] [] h = refl
sums_of_times f [] (y ∷ ys) h = absurd (let e = h y in let t = has_times (y ∷ ys) y (has_first y ys) in omega (arith, e, t))
sums_of_times f (x ∷ xs) ys h =
    let there = times_has ys x (let e = h x in let t = has_times (x ∷ xs) x (has_first x xs) in omega (arith, e, t)) in
    let s = split_at ys x there in
    let rest = sums_of_times f xs (s.0 ++ s.1) (λ y. (let e = h y in let is = ap (times_in y) s.2 in let a = times_in-append y s.0 (x ∷ s.1) in let b = times_in-append y s.0 s.1 in omega (arith, e, is, a, b))) in
    let a = sum_by-cons f x xs in let is = ap (λ l. sum_by f l) s.2 in let b = sum_by-append f s.0 (x ∷ s.1) in let c = sum_by-cons f x s.1 in let d = sum_by-append f s.0 s.1 in
    omega (arith, rest, a, is, b, c, d)

-- ---- batches

get_drop : (n : ℕ) (xs : List ℕ) (j x : ℕ) → slice_get xs (n + j) ≡ Some x → slice_get (drop n xs) j ≡ Some x
get_drop zero xs j x e = subst (λ i. slice_get xs i ≡ Some x) (omega arith) e
get_drop (suc n) [] j x e = absurd (cc e)
get_drop (suc n) (y ∷ ys) j x e = get_drop n ys j x (by (suc n + j) (omega arith) e)
  where
    by : (i : ℕ) → i ≡ suc (n + j) → slice_get (y ∷ ys) i ≡ Some x → slice_get ys (n + j) ≡ Some x
    by zero is at = absurd (omega (arith, is))
    by (suc i) is at = subst (λ k. slice_get ys k ≡ Some x) (omega (arith, is)) at

get_take : (n : ℕ) (xs : List ℕ) (j x : ℕ) → j < n → slice_get xs j ≡ Some x → slice_get (take n xs) j ≡ Some x
get_take zero xs j x lt e = absurd (omega (arith, lt))
get_take (suc n) [] j x lt e = absurd (cc e)
get_take (suc n) (y ∷ ys) zero x lt e = e
get_take (suc n) (y ∷ ys) (suc j) x lt e = get_take n ys j x (omega (arith, lt)) e

-- where a state of the frontier stands in its batch
in_batch : (front : List ℕ) (i s : ℕ) → slice_get front i ≡ Some s → slice_get (batch_states_of front (i / 64)) (i % 64) ≡ Some s
in_batch front i s e =
    let is : i ≡ 64 * (i / 64) + i % 64 = omega arith in
    get_take 64 (drop (64 * (i / 64)) front) (i % 64) s (omega arith) (get_drop (64 * (i / 64)) front (i % 64) s (subst (λ k. slice_get front k ≡ Some s) is e))

take_plus : (m n : ℕ) (xs : List ℕ) → take (m + n) xs ≡ take m xs ++ take n (drop m xs)
take_plus zero n xs = let e : zero + n ≡ n = omega arith in ap (λ k. take k xs) e
take_plus (suc m) n [] = let e : suc m + n ≡ suc (m + n) = omega arith in ap (λ k. take {A = ℕ} k []) e ∙ none n
  where
    none : (k : ℕ) → [] ≡ take {A = ℕ} k []
    none zero = refl
    none (suc k) = refl
take_plus (suc m) n (x ∷ xs) = let e : suc m + n ≡ suc (m + n) = omega arith in ap (λ k. take k (x ∷ xs)) e ∙ ap (λ l. x ∷ l) (take_plus m n xs)

sum_batches : (lists : List (List ℕ)) (front : List ℕ) (b : ℕ) → sum_to (batch_moves lists front) b ≡ moves_of lists (take (64 * b) front)
sum_batches lists front zero = let e : 64 * 0 ≡ 0 = omega arith in sym (ap (λ k. moves_of lists (take k front)) e)
sum_batches lists front (suc b) =
    let h = sum_batches lists front b in
    let e : 64 * suc b ≡ 64 * b + 64 = omega arith in
    let p = ap (λ k. moves_of lists (take k front)) e in
    let q = ap (λ l. moves_of lists l) (take_plus (64 * b) 64 front) in
    let a = sum_by-append (λ s. length (row lists s)) (take (64 * b) front) (batch_states_of front b) in
    omega (arith, h, p, q, a)

-- ---- sums over records

sum_zero : (g : CrewMember → ℕ) (xs : List CrewMember) → ((a : ℕ) (m : CrewMember) → slice_get xs a ≡ Some m → g m ≡ 0) → sum_by g xs ≡ 0
sum_zero g [] h = refl
sum_zero g (x ∷ xs) h = let a = sum_by-cons g x xs in let b = h 0 x refl in let c = sum_zero g xs (λ i m e. h (suc i) m e) in omega (arith, a, b, c)

sum_each : (g : CrewMember → ℕ) (xs ys : List CrewMember) → length ys ≡ length xs → ((a : ℕ) (x y : CrewMember) → slice_get xs a ≡ Some x → slice_get ys a ≡ Some y → g y ≡ g x) → sum_by g ys ≡ sum_by g xs
sum_each g [] [] len h = refl
sum_each g [] (y ∷ ys) len h = absurd (omega (arith, len))
sum_each g (x ∷ xs) [] len h = absurd (omega (arith, len))
sum_each g (x ∷ xs) (y ∷ ys) len h =
    let rest = sum_each g xs ys (omega (arith, len)) (λ a u v e f. h (suc a) u v e f) in let here = h 0 x y refl refl in
    let a = sum_by-cons g x xs in let b = sum_by-cons g y ys in omega (arith, rest, here, a, b)

stolen_zero : (f : ℕ → ℕ) (l : List ThiefView) → ((j : ℕ) (th : ThiefView) → slice_get l j ≡ Some th → th.taken ≡ []) → stolen_by f l ≡ 0
stolen_zero f [] h = refl
stolen_zero f (x ∷ l) h =
    let g = λ (u : ThiefView). sum_by f u.taken in
    let a = sum_by-cons g x l in let b = ap (λ t. sum_by f t) (h 0 x refl) in let z : sum_by f [] ≡ 0 = refl in let c = stolen_zero f l (λ j th e. h (suc j) th e) in omega (arith, a, b, z, c)

no_thieves_same : (xs ys : List ThiefView) → SameThieves xs ys → xs ≡ [] → ys ≡ []
no_thieves_same [] [] s e = refl
no_thieves_same [] (y ∷ ys) s e = absurd s
no_thieves_same (x ∷ xs) ys s e = absurd (cc e)

blank_took : (t : TableView) (p : PassView) (m : CrewMember) (b : ℕ) → IsBlank t p m → Took m b → ⊥
blank_took t p m b h (inl own) = (let e = subst (λ l. slice_get l own.0 ≡ Some b) h.deque own.1 in cc e)
blank_took t p m b h (inr s) = (let e = subst (λ l. slice_get l s.1 ≡ Some b) (h.thieves s.0 s.2 s.3) s.4 in cc e)

relaxed_into : (t : TableView) (k : ℕ) (seen now : List Call) (notes more : List ℕ) (s u : ℕ) → IsPrefix seen now → ((v : ℕ) → Has notes v → Has more v) → Relaxed t k seen notes s u → Relaxed t k now more s u
relaxed_into t k seen now notes more s u p q r = (r.0, r.1, r.2, prefix_get seen now r.0 _ p r.3, r.4, ⊎_elim (λ (lt : r.2 < moved k s). inl lt) (λ (h : Has notes u). inr (q u h)) r.5)

module _ (t : TableView) (k : ℕ) (front : List ℕ) (p : PassView) (workers batches : ℕ) (xs0 xs1 xs2 xs3 : List CrewMember)
    (made : AreMade t p workers batches xs0) (run : Each (Turned t k front) xs0 xs1) (ret : AreReturned xs1 xs2) (back : AreBack xs2) (rest : HadTurns t k front xs2 xs3)
    (notes : List ℕ) (moves : ℕ) (col : AreCollected xs3 notes moves) (q : PassView) (goes : IsLaterPass t p q) (seen : (j : ℕ) (m : CrewMember) → slice_get xs3 j ≡ Some m → IsPrefix m.pass.seen q.seen)
    (covers : length front ≤ 64 * batches) where
  -- one worker's record at the four moments
  record Chain (a : ℕ) (m3 : CrewMember) : Type 0 where
    m0 : CrewMember
    m1 : CrewMember
    m2 : CrewMember
    at0 : slice_get xs0 a ≡ Some m0
    at1 : slice_get xs1 a ≡ Some m1
    at2 : slice_get xs2 a ≡ Some m2
    at3 : slice_get xs3 a ≡ Some m3
    ran : Turned t k front m0 m1
    kept : KeepsRecord m1 m2
    ended : Turned t k front m2 m3

  chain : (a : ℕ) (m3 : CrewMember) → slice_get xs3 a ≡ Some m3 → Chain a m3
  chain a m3 e =
      let x2 = rest.each a m3 e in let x1 = ret.each a x2.0 x2.1 in let x0 = each_get (Turned t k front) xs0 xs1 a x1.0 run x1.1 in
      record { m0 = x0.0; m1 = x1.0; m2 = x2.0; at0 = x0.1; at1 = x1.1; at2 = x2.1; at3 = e; ran = x0.2; kept = x1.2; ended = x2.2 }

  len1 : length xs1 ≡ length xs0
  len1 = each_length (Turned t k front) xs0 xs1 run

  last_of : (a : ℕ) → a < length xs0 → (m3 : CrewMember) × (slice_get xs3 a ≡ Some m3)
  last_of a lt = get_there xs3 a (let l = len1 in let r = ret.count in let e = rest.count in omega (arith, lt, l, r, e))

  made3 : (a : ℕ) (m3 : CrewMember) → (c : Chain a m3) → MadeMoves t k front c.m2 m3
  made3 a m3 c = c.ended.works.made (col.ample a m3 c.at3)

  made1 : (a : ℕ) (m3 : CrewMember) → (c : Chain a m3) → MadeMoves t k front c.m0 c.m1
  made1 a m3 c = c.ran.works.made (sym c.kept.short ∙ (made3 a m3 c).ample)

  grown : (a : ℕ) (m3 : CrewMember) → (c : Chain a m3) → IsPrefix c.m1.pass.seen q.seen
  grown a m3 c = prefix_trans c.m1.pass.seen m3.pass.seen q.seen (subst (λ (x : PassView). IsPrefix x.seen m3.pass.seen) c.kept.pass c.ended.works.same.seen) (seen a m3 c.at3)

  noted : (a : ℕ) (m3 : CrewMember) → (c : Chain a m3) → (v : ℕ) → Has c.m1.notes.items v → Has notes v
  noted a m3 c v has = col.some a v m3 c.at3 (c.ended.works.same.notes v (subst (λ (x : Vec ℕ Global). Has x.items v) (sym c.kept.notes) has))

  -- the moves of a batch stand in the joined history
  Done : ℕ → Type 0
  Done b = (s u i : ℕ) → slice_get (batch_states_of front b) i ≡ Some s → HasTarget t.lists s u → Relaxed t k q.seen notes s u

  all_taken : (a : ℕ) (m3 : CrewMember) → (c : Chain a m3) → AreAllTaken m3.deque
  all_taken a m3 c = c.ended.emptied (col.ample a m3 c.at3) (back a c.m2 c.at2).0

  same_offers : (a : ℕ) (m3 : CrewMember) → (c : Chain a m3) → m3.deque.offered ≡ c.m0.deque.offered
  same_offers a m3 c = c.ended.works.same.deque.5 ∙ c.kept.offered ∙ c.ran.works.same.deque.5

  worked_once : (c : ℕ) (m : CrewMember) (b : ℕ) → slice_get xs1 c ≡ Some m → Took m b → Done b
  unfolding Done
  worked_once c m b at took s u i e edge =
      let l = last_of c (let l = len1 in let g = get_below xs1 c m at in omega (arith, l, g)) in
      let ch = chain c l.0 l.1 in
      let same : ch.m1 ≡ m = one_there xs1 c ch.m1 m ch.at1 at in
      ⊎_elim
      (λ (none : Took ch.m0 b). absurd (blank_took t p ch.m0 b (made.blank c ch.m0 ch.at0) none))
      (λ (w : Worked t k ch.m1.pass.seen ch.m1.notes.items (batch_states_of front b)). relaxed_into t k ch.m1.pass.seen q.seen ch.m1.notes.items notes s u (grown c l.0 ch) (noted c l.0 ch) (w i s e u edge))
      ((made1 c l.0 ch).worked b (subst (λ x. Took x b) (sym same) took))

  done : (b : ℕ) → b < batches → Done b
  unfolding Done
  done b lt s u i e edge =
      let o = made.offered.each b lt in
      let l = last_of o.0 (get_below xs0 o.0 o.1 o.2) in
      let m3 = l.0 in
      let ch = chain o.0 m3 l.1 in
      let same : ch.m0 ≡ o.1 = one_there xs0 o.0 ch.m0 o.1 ch.at0 o.2 in
      let offered : Has m3.deque.offered b = subst (λ l. Has l b) (sym (same_offers o.0 m3 ch ∙ ap (λ (x : CrewMember). x.deque.offered) same)) o.3 in
      let taken : Has m3.deque.taken b = times_has m3.deque.taken b (let x = all_taken o.0 m3 ch b in let y = has_times m3.deque.offered b offered in omega (arith, x, y)) in
      ⊎_elim
      (λ (old : Took ch.m2 b). (let f = ret.from o.0 b ch.m2 ch.at2 old in worked_once f.0 f.1 b f.2 f.3 s u i e edge))
      (λ (w : Worked t k m3.pass.seen m3.notes.items (batch_states_of front b)). relaxed_into t k m3.pass.seen q.seen m3.notes.items notes s u (seen o.0 m3 l.1) (λ v has. col.some o.0 v m3 l.1 has) (w i s e u edge))
      ((made3 o.0 m3 ch).worked b (inl taken))

  added : (u : ℕ) → Has notes u → Found t k front p.seen q.seen u
  added u has =
      let o = col.all u has in let m3 = o.1 in let ch = chain o.0 m3 o.2 in
      let blank = made.blank o.0 ch.m0 ch.at0 in
      ⊎_elim
      (λ (old : Has ch.m2.notes.items u). ⊎_elim
      (λ (none : Has ch.m0.notes.items u). absurd (let e = subst (λ (l : List ℕ). Has l u) blank.notes none in let f = e.1 in cc f))
      (λ (f : Found t k front ch.m0.pass.seen ch.m1.pass.seen u). subst (λ l. Found t k front l q.seen u) blank.seen (found_more t k front ch.m0.pass.seen ch.m0.pass.seen ch.m1.pass.seen q.seen u (prefix_self ch.m0.pass.seen) (grown o.0 m3 ch) f))
      (ch.ran.works.adds u (subst (λ (x : Vec ℕ Global). Has x.items u) ch.kept.notes old)))
      (λ (f : Found t k front ch.m2.pass.seen m3.pass.seen u).
      (let first : IsPrefix p.seen ch.m2.pass.seen = subst (λ l. IsPrefix l ch.m2.pass.seen) blank.seen (subst (λ (x : PassView). IsPrefix ch.m0.pass.seen x.seen) (sym ch.kept.pass) ch.ran.works.same.seen) in
      found_more t k front p.seen ch.m2.pass.seen m3.pass.seen q.seen u first (seen o.0 m3 o.2) f))
      (ch.ended.works.adds u o.3)

  pub round_worked : IsWorked t k front p.seen q.seen notes
  unfolding Done
  round_worked = record {
    legal = goes.3;
    grows = goes.2;
    moves = λ s u has edge. done (has.0 / 64) (let b = get_below front has.0 s has.1 in omega (arith, b, covers)) s u (has.0 % 64) (in_batch front has.0 s has.1) edge;
    adds = added;
  }

  pub round_counted : moves ≡ moves_of t.lists front
  round_counted =
      let f = batch_moves t.lists front in
      let mv = λ (m : CrewMember). m.moves in
      let tk = λ (m : CrewMember). taken_by f m in
      let of = λ (m : CrewMember). sum_by f m.deque.offered in
      let a = sums_by mv tk xs0 xs1 len1 (λ i x y e g. (let l = last_of i (get_below xs0 i x e) in let ch = chain i l.0 l.1 in
      let s0 : ch.m0 ≡ x = one_there xs0 i ch.m0 x ch.at0 e in let s1 : ch.m1 ≡ y = one_there xs1 i ch.m1 y ch.at1 g in
      subst (λ (z : CrewMember × CrewMember). mv z.1 + tk z.0 ≡ mv z.0 + tk z.1) (λ j. (s0 j, s1 j)) (made1 i l.0 ch).counted)) in
      let b = sums_by mv tk xs2 xs3 rest.count (λ i x y e g. (let ch = chain i y g in
      let s2 : ch.m2 ≡ x = one_there xs2 i ch.m2 x ch.at2 e in
      subst (λ (z : CrewMember). mv y + tk z ≡ mv z + tk y) s2 (made3 i y ch).counted)) in
      let z0 = sum_zero mv xs0 (λ i m e. (made.blank i m e).moves) in
      let z1 = sum_zero tk xs0 (λ i m e. (let h = made.blank i m e in let x = ap (λ l. sum_by f l) h.deque in let y = stolen_zero f m.thieves.items h.thieves in let z : sum_by f [] ≡ 0 = refl in omega (arith, x, y, z))) in
      let r0 = ret.moves in let r1 = ret.taken f in
      let d = sum_same tk of xs3 (λ i m e. (let ch = chain i m e in
      let x = sums_of_times f m.deque.taken m.deque.offered (all_taken i m ch) in
      let n = no_thieves_same ch.m2.thieves.items m.thieves.items ch.ended.works.same.thieves (back i ch.m2 ch.at2).1 in
      let y = ap (λ (l : List ThiefView). stolen_by f l) n in let z : stolen_by f [] ≡ 0 = refl in
      omega (arith, x, y, z))) in
      let o3 = sum_each of xs2 xs3 rest.count (λ i x y e g. (let ch = chain i y g in let s2 : ch.m2 ≡ x = one_there xs2 i ch.m2 x ch.at2 e in ap (λ l. sum_by f l) (ch.ended.works.same.deque.5 ∙ ap (λ (m : CrewMember). m.deque.offered) s2))) in
      let o2 = ret.offered f in
      let o1 = sum_each of xs0 xs1 len1 (λ i x y e g. (let h = each_get (Turned t k front) xs0 xs1 i y run g in let s0 : h.0 ≡ x = one_there xs0 i h.0 x h.1 e in ap (λ l. sum_by f l) (h.2.works.same.deque.5 ∙ ap (λ (m : CrewMember). m.deque.offered) s0))) in
      let s = made.offered.sum f in
      let n = sum_batches t.lists front batches in
      let w = ap (λ l. moves_of t.lists l) (take_past (64 * batches) front covers) in
      let g = col.moves_made in
      omega (arith, a, b, z0, z1, r0, r1, d, o3, o2, o1, s, n, w, g)
