-- Which batches a worker took.
use Rattle.std.proofs.Common.{◌≡◌, ℕ, zero, suc, ◌+◌, ◌*◌, ◌-◌, ◌<◌, ◌≤◌, ◌⊎◌, List, [], ◌∷◌, ◌++◌, length, get_or, set, take, drop, min, Some, Bool, true, false, true≢false, Vec, Global, refl, ap, sym, subst, ◌∙◌, ⊎_elim, inl, inr, arith}
use Rattle.std.specs.Prelude.{slice_get}
use Rattle.std.proofs.lemmas.List.{take_min, length-drop}
use mathlib.Core.List.{IsPrefix}
use Rattle.dist_table.specs.Tables.{TableView, PassView, IsSamePass}
use Rattle.steal_rounds.specs.inside.Moves.{IsLegalPass}
use Rattle.steal_batches.specs.Deques.{ThiefView, DequeView}
use Rattle.steal_rounds.specs.declared.member.CrewMember.{CrewMember}
use Rattle.std.specs.Prelude.{sum_by}
use Rattle.std.proofs.lemmas.List.Sums.{sum_by-append, sum_by-cons}
use Rattle.round_core.specs.Rounds.{Has}
use Rattle.steal_rounds.specs.inside.Moves.{batch_states_of, Worked, IsLaterPass, AddsFound, Found, FoundBy}
use Rattle.round_core.specs.inside.InRounds.{moves_of}
use Rattle.round_core.proofs.Places.{get_snoc}
use Rattle.steal_rounds.specs.inside.Crews.{Stole, Took, SameThieves, SameDeque, SameTools, Same, MadeMoves, Works, Turned, batch_moves, stolen_by, taken_by}
use Rattle.steal_rounds.proofs.Spreads.{worked_into, has_more, prefix_self, prefix_trans, adds_on, adds_self}

some_same : {x y : ThiefView} → Some x ≡ Some y → x ≡ y
some_same e = cc e

pub thieves_self : (xs : List ThiefView) → SameThieves xs xs
thieves_self [] = tt
thieves_self (x ∷ xs) = ((refl, refl, refl), thieves_self xs)

pub thieves_on : (xs ys zs : List ThiefView) → SameThieves xs ys → SameThieves ys zs → SameThieves xs zs
thieves_on [] [] zs p q = q
thieves_on [] (y ∷ ys) zs p q = absurd p
thieves_on (x ∷ xs) [] zs p q = absurd p
thieves_on (x ∷ xs) (y ∷ ys) [] p q = absurd q
thieves_on (x ∷ xs) (y ∷ ys) (z ∷ zs) p q = ((q.0.0 ∙ p.0.0, q.0.1 ∙ p.0.1, q.0.2 ∙ p.0.2), thieves_on xs ys zs p.1 q.1)

-- a thief takes one batch more
abbrev pub more_by : ThiefView → ℕ → ThiefView
more_by t b = record { victim = t.victim; worker = t.worker; number = t.number; taken = t.taken ++ b ∷ [] }

pub thieves_set : (xs : List ThiefView) (i b : ℕ) (d : ThiefView) → i < length xs → SameThieves xs (set xs i (more_by (get_or xs i d) b))
thieves_set [] i b d lt = absurd (omega (arith, lt))
thieves_set (x ∷ xs) zero b d lt = ((refl, refl, refl), thieves_self xs)
thieves_set (x ∷ xs) (suc i) b d lt = ((refl, refl, refl), thieves_set xs i b d (omega (arith, lt)))

pub stole_set : (xs : List ThiefView) (i b : ℕ) (d : ThiefView) → i < length xs → (a : ℕ) → Stole (set xs i (more_by (get_or xs i d) b)) a → (b ≡ a) ⊎ Stole xs a
stole_set [] i b d lt a s = absurd (omega (arith, lt))
stole_set (x ∷ xs) zero b d lt a (zero, k, t, e, f) = ⊎_elim (λ (at : slice_get x.taken k ≡ Some a). inr (0, k, x, refl, at)) (λ (same : b ≡ a). inl same) (get_snoc x.taken b a k (subst (λ (u : ThiefView). slice_get u.taken k ≡ Some a) (sym (some_same e)) f))
stole_set (x ∷ xs) zero b d lt a (suc j, k, t, e, f) = inr (suc j, k, t, e, f)
stole_set (x ∷ xs) (suc i) b d lt a (zero, k, t, e, f) = inr (0, k, t, e, f)
stole_set (x ∷ xs) (suc i) b d lt a (suc j, k, t, e, f) = ⊎_elim (λ (same : b ≡ a). inl same) (λ (s : Stole xs a). inr (suc s.0, s.1, s.2, s.3, s.4)) (stole_set xs i b d (omega (arith, lt)) a (j, k, t, e, f))

pub drop_min : (n : ℕ) (xs : List ℕ) → drop (min n (length xs)) xs ≡ drop n xs
drop_min zero xs = let e : min 0 (length xs) ≡ 0 = omega arith in ap (λ k. drop k xs) e
drop_min (suc n) [] = let e : min (suc n) 0 ≡ 0 = omega arith in ap (λ k. drop {A = ℕ} k []) e
drop_min (suc n) (x ∷ xs) = let e : min (suc n) (suc (length xs)) ≡ suc (min n (length xs)) = omega arith in ap (λ k. drop k (x ∷ xs)) e ∙ drop_min n xs

pub batch_is : (frontier rest states : List ℕ) (b : ℕ) → rest ≡ drop (min (64 * b) (length frontier)) frontier → states ≡ take (min 64 (length rest)) rest → states ≡ batch_states_of frontier b
batch_is frontier rest states b e f = f ∙ take_min 64 rest ∙ ap (take 64) (e ∙ drop_min (64 * b) frontier)

pub batch_end : (frontier : List ℕ) (b : ℕ) → length frontier - 64 * b ≤ 64 → take (length frontier - 64 * b) (drop (64 * b) frontier) ≡ batch_states_of frontier b
batch_end frontier b le =
    let xs = drop (64 * b) frontier in
    let len : length xs ≡ length frontier - 64 * b = length-drop (64 * b) frontier in
    let e : length frontier - 64 * b ≡ min 64 (length xs) = omega (arith, len, le) in
    ap (λ k. take k xs) e ∙ take_min 64 xs

take_get : (n : ℕ) (xs : List ℕ) (i x : ℕ) → slice_get (take n xs) i ≡ Some x → slice_get xs i ≡ Some x
take_get zero xs i x e = absurd (cc e)
take_get (suc n) [] i x e = absurd (cc e)
take_get (suc n) (y ∷ ys) zero x e = e
take_get (suc n) (y ∷ ys) (suc i) x e = take_get n ys i x e

drop_get : (n : ℕ) (xs : List ℕ) (i x : ℕ) → slice_get (drop n xs) i ≡ Some x → (j : ℕ) × (slice_get xs j ≡ Some x)
drop_get zero xs i x e = (i, e)
drop_get (suc n) [] i x e = absurd (cc e)
drop_get (suc n) (y ∷ ys) i x e = let r = drop_get n ys i x e in (suc r.0, r.1)

-- a state of a batch is one of the frontier
pub batch_get : (frontier : List ℕ) (b i x : ℕ) → slice_get (batch_states_of frontier b) i ≡ Some x → (j : ℕ) × (slice_get frontier j ≡ Some x)
batch_get frontier b i x e = drop_get (64 * b) frontier i x (take_get 64 (drop (64 * b) frontier) i x e)

pub stolen_set : (f : ℕ → ℕ) (xs : List ThiefView) (i b : ℕ) (d : ThiefView) → i < length xs → stolen_by f (set xs i (more_by (get_or xs i d) b)) ≡ stolen_by f xs + f b
stolen_set f [] i b d lt = absurd (omega (arith, lt))
stolen_set f (x ∷ xs) zero b d lt =
    let g = λ (u : ThiefView). sum_by f u.taken in
    let a = sum_by-cons g x xs in let c = sum_by-cons g (more_by x b) xs in let e = sum_by-append f x.taken (b ∷ []) in let o = sum_by-cons f b [] in let z : sum_by f [] ≡ 0 = refl in
    omega (arith, a, c, e, o, z)
stolen_set f (x ∷ xs) (suc i) b d lt =
    let g = λ (u : ThiefView). sum_by f u.taken in
    let h = stolen_set f xs i b d (omega (arith, lt)) in
    let a = sum_by-cons g x xs in let c = sum_by-cons g x (set xs i (more_by (get_or xs i d) b)) in omega (arith, h, a, c)

pub same_deque_self : (d : DequeView) → SameDeque d d
same_deque_self d = (refl, refl, refl, refl, refl, refl)

pub same_self : (m : CrewMember) → Same m m
same_self m = record { worker = refl; pass = (refl, refl); seen = prefix_self m.pass.seen; notes = λ u h. h; deque = same_deque_self m.deque; thieves = thieves_self m.thieves.items }

pub same_on : (m n o : CrewMember) → Same m n → Same n o → Same m o
same_on m n o p q = record {
  worker = q.worker ∙ p.worker;
  pass = (q.pass.0 ∙ p.pass.0, q.pass.1 ∙ p.pass.1);
  seen = prefix_trans m.pass.seen n.pass.seen o.pass.seen p.seen q.seen;
  notes = λ u h. q.notes u (p.notes u h);
  deque = (q.deque.0 ∙ p.deque.0, q.deque.1 ∙ p.deque.1, q.deque.2 ∙ p.deque.2, q.deque.3 ∙ p.deque.3, q.deque.4 ∙ p.deque.4, q.deque.5 ∙ p.deque.5);
  thieves = thieves_on m.thieves.items n.thieves.items o.thieves.items p.thieves q.thieves;
}

-- nothing was taken
pub works_same : (t : TableView) (k : ℕ) (frontier : List ℕ) (m n : CrewMember) → SameTools m n → ((b : ℕ) → Took n b → Took m b) → ((f : ℕ → ℕ) → taken_by f n ≡ taken_by f m)
    → IsLegalPass t m.pass → Works t k frontier m n
works_same t k frontier m n s tooks sums h = record {
  same = record {
    worker = s.0;
    pass = pass.0;
    seen = pass.1;
    notes = λ u h. subst (λ (x : Vec ℕ Global). Has x.items u) (sym s.2) h;
    deque = s.5;
    thieves = s.6;
  };
  pass = subst (λ (q : PassView). IsLegalPass t q) (sym s.1) h;
  adds = subst (λ (v : Vec ℕ Global). AddsFound t k frontier m.pass.seen n.pass.seen m.notes.items v.items) (sym s.2) (adds_self t k frontier m.pass.seen n.pass.seen m.notes.items);
  made = λ short. record { ample = sym s.4 ∙ short; worked = λ b took. inl (tooks b took); counted = let a = sums (batch_moves t.lists frontier) in let c = s.3 in omega (arith, a, c) };
}
  where
    pass : IsSamePass m.pass n.pass × IsPrefix m.pass.seen n.pass.seen
    pass = subst (λ (x : PassView). IsSamePass m.pass x × IsPrefix m.pass.seen x.seen) (sym s.1) ((refl, refl), prefix_self m.pass.seen)

pub made_on : (t : TableView) (k : ℕ) (frontier : List ℕ) (m n o : CrewMember) → Works t k frontier n o → MadeMoves t k frontier m n → MadeMoves t k frontier n o → MadeMoves t k frontier m o
made_on t k frontier m n o w p q = record {
  ample = p.ample;
  worked = λ b took. ⊎_elim
      (λ (mid : Took n b). ⊎_elim (λ (old : Took m b). inl old) (λ h. inr (worked_into t k n.pass.seen o.pass.seen n.notes.items o.notes.items (batch_states_of frontier b) w.same.seen w.same.notes h)) (p.worked b mid))
      (λ h. inr h)
      (q.worked b took);
  counted = let a = p.counted in let b = q.counted in omega (arith, a, b);
}

pub works_self : (t : TableView) (k : ℕ) (frontier : List ℕ) (m : CrewMember) → IsLegalPass t m.pass → Works t k frontier m m
works_self t k frontier m h = record {
  same = same_self m;
  pass = h;
  adds = adds_self t k frontier m.pass.seen m.pass.seen m.notes.items;
  made = λ short. record { ample = short; worked = λ b took. inl took; counted = refl };
}

pub works_on : (t : TableView) (k : ℕ) (frontier : List ℕ) (m n o : CrewMember) → Works t k frontier m n → Works t k frontier n o → Works t k frontier m o
works_on t k frontier m n o p q = record {
  same = same_on m n o p.same q.same;
  pass = q.pass;
  adds = adds_on t k frontier m.pass.seen n.pass.seen o.pass.seen m.notes.items n.notes.items o.notes.items p.same.seen q.same.seen p.adds q.adds;
  made = λ short. (let made = q.made short in made_on t k frontier m n o q (p.made made.ample) made);
}

-- a batch was worked, at least in part
module _ (t : TableView) (k : ℕ) (frontier : List ℕ) (m n : CrewMember) (q : PassView) (more : Vec ℕ Global) (batch : ℕ) where
  stepped : ℕ → Bool → CrewMember
  stepped moves short = record n { pass = q; notes = more; moves = moves; short = short }

  works_by : (moves : ℕ) (short : Bool) → SameTools m n → IsLaterPass t n.pass q → IsPrefix n.notes.items more.items → AddsFound t k (batch_states_of frontier batch) n.pass.seen q.seen n.notes.items more.items
      → (short ≡ false → MadeMoves t k frontier m (stepped moves short)) → Works t k frontier m (stepped moves short)
  unfolding stepped
  works_by moves short s goes pre adds made = record {
    same = record {
      worker = s.0;
      pass = p.0;
      seen = p.1;
      notes = λ u h. has_more n.notes.items more.items u pre (subst (λ (v : Vec ℕ Global). Has v.items u) (sym s.2) h);
      deque = s.5;
      thieves = s.6;
    };
    pass = (goes.0, goes.3);
    adds = λ u has. ⊎_elim
        (λ (old : Has n.notes.items u). inl (subst (λ (v : Vec ℕ Global). Has v.items u) s.2 old))
        (λ (f : Found t k (batch_states_of frontier batch) n.pass.seen q.seen u). inr (f.0, batch_get frontier batch f.1.0 f.0 f.1.1, subst (λ (x : PassView). FoundBy t k x.seen q.seen f.0 u) s.1 f.2))
        (adds u has);
    made = made;
  }
    where
      p : IsSamePass m.pass q × IsPrefix m.pass.seen q.seen
      p = subst (λ (x : PassView). IsSamePass x q × IsPrefix x.seen q.seen) s.1 (goes.1, goes.2)

  made_by : (moves count : ℕ) (short : Bool) → SameTools m n → short ≡ n.short → ((b : ℕ) → Took n b → (batch ≡ b) ⊎ Took m b) → taken_by (batch_moves t.lists frontier) n ≡ taken_by (batch_moves t.lists frontier) m + batch_moves t.lists frontier batch
      → Worked t k q.seen more.items (batch_states_of frontier batch) → count ≡ moves_of t.lists (batch_states_of frontier batch) → moves ≡ n.moves + count → short ≡ false → MadeMoves t k frontier m (stepped moves short)
  unfolding stepped
  made_by moves count short s same tooks sums worked counted sum is = record {
    ample = sym s.4 ∙ sym same ∙ is;
    worked = λ b took. ⊎_elim (λ (new : batch ≡ b). inr (subst (λ x. Worked t k q.seen more.items (batch_states_of frontier x)) new worked)) (λ (old : Took m b). inl old) (tooks b took);
    counted = let c = s.3 in omega (arith, sums, counted, sum, c);
  }

pub works_more : (t : TableView) (k : ℕ) (frontier : List ℕ) (m n : CrewMember) (q : PassView) (more : Vec ℕ Global) (batch moves count : ℕ) → SameTools m n → IsLaterPass t n.pass q → IsPrefix n.notes.items more.items
    → AddsFound t k (batch_states_of frontier batch) n.pass.seen q.seen n.notes.items more.items → ((b : ℕ) → Took n b → (batch ≡ b) ⊎ Took m b) → taken_by (batch_moves t.lists frontier) n ≡ taken_by (batch_moves t.lists frontier) m + batch_moves t.lists frontier batch
    → Worked t k q.seen more.items (batch_states_of frontier batch) → count ≡ moves_of t.lists (batch_states_of frontier batch) → moves ≡ n.moves + count
    → Works t k frontier m (record n { pass = q; notes = more; moves = moves })
unfolding stepped
works_more t k frontier m n q more batch moves count s goes pre adds tooks sums worked counted sum =
    works_by t k frontier m n q more batch moves n.short s goes pre adds (made_by t k frontier m n q more batch moves count n.short s refl tooks sums worked counted sum)

pub works_short : (t : TableView) (k : ℕ) (frontier : List ℕ) (m n : CrewMember) (q : PassView) (more : Vec ℕ Global) (batch : ℕ) → SameTools m n → IsLaterPass t n.pass q → IsPrefix n.notes.items more.items
    → AddsFound t k (batch_states_of frontier batch) n.pass.seen q.seen n.notes.items more.items
    → Works t k frontier m (record n { pass = q; notes = more; short = true })
unfolding stepped
works_short t k frontier m n q more batch s goes pre adds = works_by t k frontier m n q more batch n.moves true s goes pre adds (λ e. absurd (true≢false e))

pub same_thief_at : (xs ys : List ThiefView) (j : ℕ) (y : ThiefView) → SameThieves xs ys → slice_get ys j ≡ Some y → (x : ThiefView) × (slice_get xs j ≡ Some x) × (y.victim ≡ x.victim)
same_thief_at [] [] j y s e = absurd (cc e)
same_thief_at [] (z ∷ ys) j y s e = absurd s
same_thief_at (x ∷ xs) [] j y s e = absurd s
same_thief_at (x ∷ xs) (z ∷ ys) zero y s e = let is : z ≡ y = cc e in (x, refl, sym (ap (λ (t : ThiefView). t.victim) is) ∙ s.0.0)
same_thief_at (x ∷ xs) (z ∷ ys) (suc j) y s e = same_thief_at xs ys j y s.1 e

pub same_thieves_length : (xs ys : List ThiefView) → SameThieves xs ys → length ys ≡ length xs
same_thieves_length [] [] s = refl
same_thieves_length [] (z ∷ ys) s = absurd s
same_thieves_length (x ∷ xs) [] s = absurd s
same_thieves_length (x ∷ xs) (z ∷ ys) s = ap suc (same_thieves_length xs ys s.1)

-- the notes in another order
pub turned_sorted : (t : TableView) (k : ℕ) (frontier : List ℕ) (m n : CrewMember) (v : Vec ℕ Global) → Turned t k frontier m n → ((u : ℕ) → Has n.notes.items u → Has v.items u) → ((u : ℕ) → Has v.items u → Has n.notes.items u) → Turned t k frontier m (record n { notes = v })
turned_sorted t k frontier m n v h into from = record {
  works = record {
    same = record { worker = h.works.same.worker; pass = h.works.same.pass; seen = h.works.same.seen; notes = λ u has. into u (h.works.same.notes u has); deque = h.works.same.deque; thieves = h.works.same.thieves };
    pass = h.works.pass;
    adds = λ u has. h.works.adds u (from u has);
    made = λ short. (let d = h.works.made short in record {
      ample = d.ample;
      worked = λ b took. ⊎_elim (λ (old : Took m b). inl old) (λ w. inr (worked_into t k n.pass.seen n.pass.seen n.notes.items v.items (batch_states_of frontier b) (prefix_self n.pass.seen) into w)) (d.worked b took);
      counted = d.counted;
    });
  };
  emptied = h.emptied;
}
