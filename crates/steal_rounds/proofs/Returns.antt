-- Thieves that go back to their deques.
use Rattle.std.proofs.Common.{◌≡◌, ◌≢◌, ℕ, zero, suc, ◌+◌, ◌-◌, ◌<◌, ◌⊎◌, List, [], ◌∷◌, ◌++◌, length, set, Some, Vec, Global, refl, ap, sym, subst, ◌∙◌, ⊎_elim, inl, inr, arith, length-set, length-append}
use Rattle.std.specs.Prelude.{slice_get, sum_by}
use Rattle.std.proofs.lemmas.Bool.{cases_lt}
use Rattle.std.proofs.lemmas.List.Sums.{sum_by-append, sum_by-cons}
use Rattle.steal_batches.specs.Deques.{DequeView, ThiefView}
use Rattle.round_core.proofs.Places.{get_front, get_last}
use Rattle.steal_rounds.specs.declared.member.CrewMember.{CrewMember}
use Rattle.steal_rounds.specs.inside.Crews.{Took, Stole, taken_by, stolen_by}
use Rattle.steal_rounds.specs.inside.Records.{Holds, AreHeld, KeepsRecord, AreReturned, AreBack}
use Rattle.steal_rounds.proofs.Lists.{set_get, get_set_other, get_below, one_there, sum_set}

pub keeps_self : (m : CrewMember) → KeepsRecord m m
keeps_self m = record { worker = refl; pass = refl; notes = refl; moves = refl; short = refl; offered = refl }

pub keeps_on : (m n o : CrewMember) → KeepsRecord m n → KeepsRecord n o → KeepsRecord m o
keeps_on m n o p q = record { worker = q.worker ∙ p.worker; pass = q.pass ∙ p.pass; notes = q.notes ∙ p.notes; moves = q.moves ∙ p.moves; short = q.short ∙ p.short; offered = q.offered ∙ p.offered }

pub returned_self : (xs : List CrewMember) → AreReturned xs xs
returned_self xs = record { count = refl; each = λ a n e. (n, e, keeps_self n); from = λ a b n e took. (a, n, e, took); taken = λ f. refl; offered = λ f. refl; moves = refl }

pub returned_on : (xs ys zs : List CrewMember) → AreReturned xs ys → AreReturned ys zs → AreReturned xs zs
returned_on xs ys zs p q = record {
  count = q.count ∙ p.count;
  each = λ a n e. (let m = q.each a n e in let l = p.each a m.0 m.1 in (l.0, l.1, keeps_on l.0 m.0 n l.2 m.2));
  from = λ a b n e took. (let m = q.from a b n e took in p.from m.0 b m.1 m.2 m.3);
  taken = λ f. q.taken f ∙ p.taken f;
  offered = λ f. q.offered f ∙ p.offered f;
  moves = q.moves ∙ p.moves;
}

-- a deque with what a thief took
abbrev pub with_thief : DequeView → ThiefView → DequeView
with_thief d th = record d { thieves = d.thieves - 1; taken = d.taken ++ th.taken }

-- the record of worker w without its last thief, and that of worker v with it
abbrev pub popped : CrewMember → Vec ThiefView Global → CrewMember
popped m ts = record m { thieves = ts }

abbrev pub took_in : CrewMember → ThiefView → CrewMember
took_in d th = record d { deque = with_thief d.deque th }

module _ (xs : List CrewMember) (v w : ℕ) (m d : CrewMember) (ts : Vec ThiefView Global) (th : ThiefView)
    (at : slice_get xs w ≡ Some m) (there : slice_get xs v ≡ Some d) (ne : w ≢ v) (is : m.thieves.items ≡ ts.items ++ th ∷ []) where
  after : List CrewMember
  after = set (set xs w (popped m ts)) v (took_in d th)

  -- a record afterwards: that of v, that of w, or another's
  cases : (a : ℕ) (n : CrewMember) → slice_get after a ≡ Some n
      → ((a ≡ v) × (took_in d th ≡ n)) ⊎ (((a ≡ w) × (popped m ts ≡ n)) ⊎ ((a ≢ v) × (a ≢ w) × (slice_get xs a ≡ Some n)))
  unfolding after
  cases a n e = ⊎_elim
      (λ (h : (a ≡ v) × (took_in d th ≡ n)). inl h)
      (λ (h : (a ≢ v) × (slice_get (set xs w (popped m ts)) a ≡ Some n)). ⊎_elim
      (λ (g : (a ≡ w) × (popped m ts ≡ n)). inr (inl g))
      (λ (g : (a ≢ w) × (slice_get xs a ≡ Some n)). inr (inr (h.0, g.0, g.1)))
      (set_get xs w (popped m ts) a n h.1))
      (set_get (set xs w (popped m ts)) v (took_in d th) a n e)

  still_there : slice_get (set xs w (popped m ts)) v ≡ Some d
  still_there = get_set_other xs w (popped m ts) v (λ s. ne (sym s)) ∙ there

  sums : (g : CrewMember → ℕ) → sum_by g after + (g d + g m) ≡ sum_by g xs + (g (took_in d th) + g (popped m ts))
  unfolding after
  sums g = let a = sum_set g (set xs w (popped m ts)) v d (took_in d th) still_there in let b = sum_set g xs w m (popped m ts) at in omega (arith, a, b)

  count_after : length after ≡ length xs
  unfolding after
  count_after = length-set (set xs w (popped m ts)) v (took_in d th) ∙ length-set xs w (popped m ts)

  stole_popped : (b : ℕ) → Stole ts.items b → Stole m.thieves.items b
  stole_popped b s = (s.0, s.1, s.2, subst (λ l. slice_get l s.0 ≡ Some s.2) (sym is) (get_front ts.items (th ∷ []) s.0 s.2 s.3), s.4)

  stole_last : (b i : ℕ) → slice_get th.taken i ≡ Some b → Stole m.thieves.items b
  stole_last b i e = (length ts.items, i, th, subst (λ l. slice_get l (length ts.items) ≡ Some th) (sym is) (get_last ts.items th []), e)

  taken_cases : (us ws : List ℕ) (i b : ℕ) → slice_get (us ++ ws) i ≡ Some b → ((j : ℕ) × (slice_get us j ≡ Some b)) ⊎ ((j : ℕ) × (slice_get ws j ≡ Some b))
  taken_cases [] ws i b e = inr (i, e)
  taken_cases (u ∷ us) ws zero b e = inl (0, e)
  taken_cases (u ∷ us) ws (suc i) b e = elim (taken_cases us ws i b e) [ inl h ↦ inl (suc h.0, h.1) | inr h ↦ inr h ]

  From : ℕ → Type 0
  From b = (c : ℕ) × (o : CrewMember) × (slice_get xs c ≡ Some o) × Took o b

  from_took : (b : ℕ) → Took (took_in d th) b → From b
  unfolding From
  from_took b (inl h) = elim (taken_cases d.deque.taken th.taken h.0 b h.1) [ inl old ↦ (v, d, there, inl old) | inr new ↦ (w, m, at, inr (stole_last b new.0 new.1)) ]
  from_took b (inr s) = (v, d, there, inr s)

  from_popped : (b : ℕ) → Took (popped m ts) b → From b
  unfolding From
  from_popped b (inl h) = (w, m, at, inl h)
  from_popped b (inr s) = (w, m, at, inr (stole_popped b s))

  pub step_returns : AreReturned xs (set (set xs w (popped m ts)) v (took_in d th))
  unfolding after From
  step_returns = record {
    count = count_after;
    each = λ a n e. ⊎_elim
        (λ (h : (a ≡ v) × (took_in d th ≡ n)). (d, subst (λ c. slice_get xs c ≡ Some d) (sym h.0) there, subst (KeepsRecord d) h.1 (record { worker = refl; pass = refl; notes = refl; moves = refl; short = refl; offered = refl })))
        (λ r. ⊎_elim
        (λ (h : (a ≡ w) × (popped m ts ≡ n)). (m, subst (λ c. slice_get xs c ≡ Some m) (sym h.0) at, subst (KeepsRecord m) h.1 (record { worker = refl; pass = refl; notes = refl; moves = refl; short = refl; offered = refl })))
        (λ (h : (a ≢ v) × (a ≢ w) × (slice_get xs a ≡ Some n)). (n, h.2, keeps_self n))
        r)
        (cases a n e);
    from = λ a b n e took. ⊎_elim
        (λ (h : (a ≡ v) × (took_in d th ≡ n)). from_took b (subst (λ x. Took x b) (sym h.1) took))
        (λ r. ⊎_elim
        (λ (h : (a ≡ w) × (popped m ts ≡ n)). from_popped b (subst (λ x. Took x b) (sym h.1) took))
        (λ (h : (a ≢ v) × (a ≢ w) × (slice_get xs a ≡ Some n)). (a, n, h.2, took))
        r)
        (cases a n e);
    taken = λ f. (
        let s = sums (λ x. taken_by f x) in
        let p = sum_by-append f d.deque.taken th.taken in
        let g = λ (u : ThiefView). sum_by f u.taken in
        let q = ap (λ (l : List ThiefView). stolen_by f l) is in
        let r = sum_by-append g ts.items (th ∷ []) in
        let c = sum_by-cons g th [] in
        let z : sum_by g [] ≡ 0 = refl in
        omega (arith, s, p, q, r, c, z));
    offered = λ f. (let s = sums (λ x. sum_by f x.deque.offered) in omega (arith, s));
    moves = let s = sums (λ x. x.moves) in omega (arith, s);
  }

  pub step_held : AreHeld v w xs → AreHeld v (w + 1) (set (set xs w (popped m ts)) v (took_in d th))
  unfolding after
  step_held held = (
    held.0,
    λ a n e. subst (λ len. Holds len held.0 v (w + 1) a n) (sym count_after) (⊎_elim
        (λ (h : (a ≡ v) × (took_in d th ≡ n)). subst (λ (x : ℕ × CrewMember). Holds (length xs) held.0 v (w + 1) x.0 x.1) (λ i. (sym h.0 i, h.1 i)) of_victim)
        (λ r. ⊎_elim
        (λ (h : (a ≡ w) × (popped m ts ≡ n)). subst (λ (x : ℕ × CrewMember). Holds (length xs) held.0 v (w + 1) x.0 x.1) (λ i. (sym h.0 i, h.1 i)) of_worker)
        (λ (h : (a ≢ v) × (a ≢ w) × (slice_get xs a ≡ Some n)). of_other a n h.0 h.1 (held.1 a n h.2))
        r)
        (cases a n e)),
  )
    where
      hd : Holds (length xs) held.0 v w v d
      hd = held.1 v d there

      hm : Holds (length xs) held.0 v w w m
      hm = held.1 w m at

      few_ts : length m.thieves.items ≡ length ts.items + 1
      few_ts = ap (λ (l : List ThiefView). length l) is ∙ length-append ts.items (th ∷ [])

      below_v : v < length xs
      below_v = get_below xs v d there

      below_w : w < length xs
      below_w = get_below xs w m at

      of_victim : Holds (length xs) held.0 v (w + 1) v (took_in d th)
      of_victim = record {
        id = hd.id;
        aimed = hd.aimed;
        few_later = λ lt l. absurd (omega (arith, l));
        few = λ lt l. elim (cases_lt v w) [ inl less ↦ hd.few less l | inr ge ↦ hd.many ge (omega arith) ];
        many = λ ge l. hd.many (omega (arith, ge)) l;
        many_earlier = λ ge l. absurd (omega (arith, l));
        none_out = λ l. absurd (omega (arith, l));
        all_out = λ l. absurd (omega (arith, l));
        some_out = λ s ge. (let o = hd.some_out refl (omega (arith, ge)) in omega (arith, o, ge, below_v));
        others_out = λ s lt. elim (cases_lt v w) [
          | inl less ↦ (let o = hd.others_out refl less in omega (arith, o, less, below_w))
          | inr ge ↦ (let o = hd.some_out refl ge in absurd (ne (omega (arith, ge, lt))))
        ];
      }

      of_worker : Holds (length xs) held.0 v (w + 1) w (popped m ts)
      of_worker = record {
        id = hm.id;
        aimed = λ j u thief e aims. hm.aimed j u thief (subst (λ l. slice_get l j ≡ Some thief) (sym is) (get_front ts.items (th ∷ []) j thief e)) aims;
        few_later = λ lt l. (let o = hm.many (omega arith) (omega (arith, l)) in omega (arith, o, few_ts));
        few = λ lt l. (elim (cases_lt w v) [ inl less ↦ (let o = hm.many_earlier (omega arith) less in omega (arith, o, few_ts)) | inr ge ↦ absurd (ne (omega (arith, ge, l))) ]);
        many = λ ge l. absurd (omega (arith, ge));
        many_earlier = λ ge l. absurd (omega (arith, ge));
        none_out = hm.none_out;
        all_out = hm.all_out;
        some_out = λ s. absurd (ne s);
        others_out = λ s. absurd (ne s);
      }

      of_other : (a : ℕ) (n : CrewMember) → a ≢ v → a ≢ w → Holds (length xs) held.0 v w a n → Holds (length xs) held.0 v (w + 1) a n
      of_other a n nv nw h = record {
        id = h.id;
        aimed = h.aimed;
        few_later = λ lt l. elim (cases_lt a w) [ inl less ↦ h.few_later less l | inr ge ↦ absurd (nw (omega (arith, lt, ge))) ];
        few = λ lt l. elim (cases_lt a w) [ inl less ↦ h.few less l | inr ge ↦ absurd (nw (omega (arith, lt, ge))) ];
        many = λ ge l. h.many (omega (arith, ge)) l;
        many_earlier = λ ge l. h.many_earlier (omega (arith, ge)) l;
        none_out = h.none_out;
        all_out = h.all_out;
        some_out = λ s. absurd (nv s);
        others_out = λ s. absurd (nv s);
      }

  -- the last thief of w is one of v's deque
  pub right_victim : AreHeld v w xs → th.victim ≡ d.deque.id
  right_victim held =
      let hm = held.1 w m at in let hd = held.1 v d there in
      let few_ts = ap (λ (l : List ThiefView). length l) is ∙ length-append ts.items (th ∷ []) in
      let last = subst (λ l. slice_get l (length ts.items) ≡ Some th) (sym is) (get_last ts.items th []) in
      let e = hm.aimed (length ts.items) v th last (elim (cases_lt w v) [
        | inl less ↦ (let o = hm.many_earlier (omega arith) less in inl (less, omega (arith, o, few_ts)))
        | inr ge ↦ (let o = hm.many (omega arith) ge in inr (elim (cases_lt v w) [ inl lt ↦ (lt, omega (arith, o, few_ts)) | inr ge' ↦ absurd (ne (omega (arith, ge, ge'))) ]))
      ]) in
      one_there held.0 v th.victim d.deque.id e hd.id

-- a worker other than the victim has a thief still
pub thief_left : (xs : List CrewMember) (v w : ℕ) (m : CrewMember) → slice_get xs w ≡ Some m → v < length xs → w ≢ v → AreHeld v w xs → 0 < length m.thieves.items
thief_left xs v w m at lt ne held =
    let h = held.1 w m at in let b = get_below xs w m at in
    elim (cases_lt w v) [
      | inl less ↦ (let o = h.many_earlier (omega arith) less in omega (arith, o, lt))
      | inr ge ↦ (let o = h.many (omega arith) ge in elim (cases_lt v w) [ inl less ↦ omega (arith, o, less, b) | inr ge' ↦ absurd (ne (omega (arith, ge, ge'))) ])
    ]

-- the victim itself has no thief of its own deque
pub skip_held : (xs : List CrewMember) (v : ℕ) → AreHeld v v xs → AreHeld v (v + 1) xs
skip_held xs v held = (
  held.0,
  λ a n e. (let h = held.1 a n e in record {
    id = h.id;
    aimed = h.aimed;
    few_later = λ lt l. absurd (omega (arith, lt, l));
    few = λ lt l. elim (cases_lt a v) [ inl less ↦ h.few less l | inr ge ↦ h.many ge ge ];
    many = λ ge l. h.many (omega (arith, ge)) l;
    many_earlier = λ ge l. absurd (omega (arith, ge, l));
    none_out = h.none_out;
    all_out = h.all_out;
    some_out = λ s ge. absurd (omega (arith, ge));
    others_out = λ s lt. (let o = h.some_out s (omega arith) in omega (arith, o));
  }),
)

-- all thieves of a deque are back
pub stage_held : (xs : List CrewMember) (v w : ℕ) → w ≡ length xs → AreHeld v w xs → AreHeld (v + 1) 0 xs
stage_held xs v w all held = (
  held.0,
  λ a n e. (let h = held.1 a n e in let b = get_below xs a n e in let b' : a < w = omega (arith, b, all) in record {
    id = h.id;
    aimed = h.aimed;
    few_later = λ lt l. absurd (omega (arith, lt));
    few = λ lt l. absurd (omega (arith, lt));
    many = λ ge l. (let o = h.few_later b' (omega (arith, l)) in omega (arith, o));
    many_earlier = λ ge l. (let o = h.few b' (omega (arith, l)) in omega (arith, o));
    none_out = λ l. elim (cases_lt a v) [ inl less ↦ h.none_out less | inr ge ↦ (let s : a ≡ v = omega (arith, l, ge) in let o = h.others_out s (omega (arith, s, b')) in omega (arith, o, all)) ];
    all_out = λ l. h.all_out (omega (arith, l));
    some_out = λ s ge. (let o = h.all_out (omega (arith, s)) in omega (arith, o));
    others_out = λ s lt. absurd (omega (arith, lt));
  }),
)

no_thieves : (l : List ThiefView) → length l ≡ 0 → l ≡ []
no_thieves [] e = refl
no_thieves (x ∷ l) e = absurd (omega (arith, e))

pub all_back : (xs : List CrewMember) (v : ℕ) → v ≡ length xs → AreHeld v 0 xs → AreBack xs
all_back xs v all held a n e =
    let h = held.1 a n e in let b = get_below xs a n e in
    (h.none_out (omega (arith, b, all)), no_thieves n.thieves.items (let o = h.many_earlier (omega arith) (omega (arith, b, all)) in omega (arith, o, all)))
