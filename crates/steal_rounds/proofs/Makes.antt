-- The records of a round are made: batches are offered, and each worker gets its thieves.
use Rattle.std.proofs.Common.{◌≡◌, ◌≢◌, ℕ, zero, suc, ◌+◌, ◌-◌, ◌*◌, ◌/◌, ◌%◌, ◌<◌, ◌≤◌, ◌⊎◌, List, [], ◌∷◌, ◌++◌, length, set, map, Some, Vec, Global, refl, ap, sym, subst, ◌∙◌, ⊎_elim, inl, inr, arith, length-set, length-append}
use Rattle.std.specs.Prelude.{slice_get, sum_by}
use Rattle.std.proofs.lemmas.Bool.{cases_lt}
use Rattle.std.proofs.lemmas.List.Sums.{sum_by-append, sum_by-cons}
use Rattle.std.proofs.Math.Nat.{mul-le-mul_right, lt-div-mul-add, div-mul-le_self, mod-eq-sub-div-mul}
use Rattle.round_core.specs.Rounds.{Has}
use Rattle.round_core.proofs.Members.{has_left, has_last}
use Rattle.dist_table.specs.Tables.{TableView, PassView}
use Rattle.steal_batches.specs.Deques.{DequeView, ThiefView}
use Rattle.round_core.proofs.Places.{get_snoc}
use Rattle.steal_rounds.specs.declared.member.CrewMember.{CrewMember}
use Rattle.steal_rounds.specs.inside.Records.{Aims, Holds, AreHeld, IsBlank, AreBlank, AreOffered, AreIdle, HaveRoom}
use Rattle.steal_rounds.proofs.Lists.{set_get, get_set, get_set_other, get_there, get_below, one_there, sum_set}

-- ---- offers

abbrev pub offering : CrewMember → ℕ → CrewMember
offering m b = record m { deque = record m.deque { offered = m.deque.offered ++ b ∷ [] } }

less_by : (a b n : ℕ) → a * n < b * n → a < b
less_by a b n lt = elim (cases_lt a b) [ inl h ↦ h | inr ge ↦ absurd (let m = mul-le-mul_right n ge in omega (arith, m, lt)) ]

-- the parts of b
div_parts : (b n : ℕ) → b ≡ b / n * n + b % n
div_parts b n = let m = mod-eq-sub-div-mul b n in let l = div-mul-le_self b n in omega (arith, m, l)

-- a deque with l offers, of which the next one is b, has room
pub room_left : (l b n batches : ℕ) → 0 < n → b < batches → l * n + b % n < b + n → l < (batches - 1) / n + 1
room_left l b n batches some lt few =
    let p = div_parts b n in
    let q = b / n in
    let top = lt-div-mul-add {a = batches - 1} {b = n} some in
    let one : (q + 1) * n ≡ q * n + n = mul_next q n in
    let two : ((batches - 1) / n + 1) * n ≡ (batches - 1) / n * n + n = mul_next ((batches - 1) / n) n in
    let a = less_by l (q + 1) n (omega (arith, few, p, one)) in
    let c = less_by q ((batches - 1) / n + 1) n (let m = div-mul-le_self b n in omega (arith, m, top, two, lt)) in
    omega (arith, a, c)
  where
    mul_next : (a m : ℕ) → (a + 1) * m ≡ a * m + m
    mul_next a m = omega arith

-- what is kept while batches are offered
pub record Offering (workers room b : ℕ) (crew : List CrewMember) : Type 0 where
  pub roomy : (a : ℕ) (m : CrewMember) → slice_get crew a ≡ Some m → (length m.deque.offered * workers + a < b + workers) × (m.deque.room ≡ room)
  pub offered : AreOffered b crew

pub offering_next : (workers room b a : ℕ) (xs : List CrewMember) (x : CrewMember) → 0 < workers → a ≡ b % workers → slice_get xs a ≡ Some x → Offering workers room b xs → Offering workers room (suc b) (set xs a (offering x b))
offering_next workers room b a xs x some is at h = record {
  roomy = λ i m e. ⊎_elim
      (λ (g : (i ≡ a) × (offering x b ≡ m)). subst (λ (z : ℕ × CrewMember). (length z.1.deque.offered * workers + z.0 < suc b + workers) × (z.1.deque.room ≡ room)) (λ j. (sym g.0 j, g.1 j)) here)
      (λ (g : (i ≢ a) × (slice_get xs i ≡ Some m)). (let r = h.roomy i m g.1 in let l = r.0 in (omega (arith, l), r.1)))
      (set_get xs a (offering x b) i m e);
  offered = record {
    each = λ c lt. elim (cases_lt c b) [
      | inl less ↦ (let o = h.offered.each c less in old c o.0 o.1 o.2 o.3)
      | inr ge ↦ (a, offering x b, get_set xs a (offering x b) (get_below xs a x at), subst (λ y. Has (x.deque.offered ++ b ∷ []) y) (omega (arith, ge, lt)) (has_last x.deque.offered b))
    ];
    sum = λ f. (let g = λ (m : CrewMember). sum_by f m.deque.offered in let s = sum_set g xs a x (offering x b) at in let o = h.offered.sum f in
        let p = sum_by-append f x.deque.offered (b ∷ []) in let c = sum_by-cons f b [] in let z : sum_by f [] ≡ 0 = refl in omega (arith, s, o, p, c, z));
  };
}
  where
    old : (c i : ℕ) (m : CrewMember) → slice_get xs i ≡ Some m → Has m.deque.offered c → (j : ℕ) × (n : CrewMember) × (slice_get (set xs a (offering x b)) j ≡ Some n) × Has n.deque.offered c
    old c i m e has = by (cases_lt i a) (cases_lt a i)
      where
        other : i ≢ a → (j : ℕ) × (n : CrewMember) × (slice_get (set xs a (offering x b)) j ≡ Some n) × Has n.deque.offered c
        other ne = (i, m, get_set_other xs a (offering x b) i ne ∙ e, has)

        by : (i < a) ⊎ (a ≤ i) → (a < i) ⊎ (i ≤ a) → (j : ℕ) × (n : CrewMember) × (slice_get (set xs a (offering x b)) j ≡ Some n) × Has n.deque.offered c
        by (inl lt) y = other (λ s. absurd (omega (arith, s, lt)))
        by (inr ge) (inl lt) = other (λ s. absurd (omega (arith, s, lt)))
        by (inr ge) (inr le) = (let s : i ≡ a = omega (arith, ge, le) in let same : m ≡ x = one_there xs i m x e (subst (λ j. slice_get xs j ≡ Some x) (sym s) at) in
            (a, offering x b, get_set xs a (offering x b) (get_below xs a x at), has_left x.deque.offered (b ∷ []) c (subst (λ (y : CrewMember). Has y.deque.offered c) same has)))

    here : (length (x.deque.offered ++ b ∷ []) * workers + a < suc b + workers) × (x.deque.room ≡ room)
    here =
        let r = h.roomy a x at in
        let few = r.0 in
        let p = div_parts b workers in
        let l = length-append x.deque.offered (b ∷ []) in
        let n = length x.deque.offered in
        let q = b / workers in
        let one : (q + 1) * workers ≡ q * workers + workers = omega arith in
        let a' = less_by n (q + 1) workers (omega (arith, few, p, one, is)) in
        let m = mul-le-mul_right {m = n} {n = q} workers (omega (arith, a')) in
        let e = ap (λ k. k * workers) l in
        let two : (n + 1) * workers ≡ n * workers + workers = omega arith in
        (omega (arith, m, e, two, p, is), r.1)

-- records that differ by offers alone
pub offering_blank : (t : TableView) (p : PassView) (xs : List CrewMember) (a b : ℕ) (x : CrewMember) → slice_get xs a ≡ Some x → AreBlank t p xs → AreBlank t p (set xs a (offering x b))
offering_blank t p xs a b x at h i m e = ⊎_elim
    (λ (g : (i ≡ a) × (offering x b ≡ m)). subst (IsBlank t p) g.1 (let o = h a x at in record { pass = o.pass; seen = o.seen; deque = o.deque; thieves = o.thieves; notes = o.notes; moves = o.moves; short = o.short }))
    (λ (g : (i ≢ a) × (slice_get xs i ≡ Some m)). h i m g.1)
    (set_get xs a (offering x b) i m e)

pub offering_idle : (xs : List CrewMember) (a b : ℕ) (x : CrewMember) → slice_get xs a ≡ Some x → AreIdle xs → AreIdle (set xs a (offering x b))
offering_idle xs a b x at h i m e = ⊎_elim
    (λ (g : (i ≡ a) × (offering x b ≡ m)). subst (λ (y : CrewMember). (y.thieves.items ≡ []) × (y.deque.thieves ≡ 0)) g.1 (h a x at))
    (λ (g : (i ≢ a) × (slice_get xs i ≡ Some m)). h i m g.1)
    (set_get xs a (offering x b) i m e)

offers_zero : (f : ℕ → ℕ) (xs : List CrewMember) → ((a : ℕ) (m : CrewMember) → slice_get xs a ≡ Some m → m.deque.offered ≡ []) → sum_by (λ (m : CrewMember). sum_by f m.deque.offered) xs ≡ 0
offers_zero f [] h = refl
offers_zero f (x ∷ xs) h = let g = λ (m : CrewMember). sum_by f m.deque.offered in let a = sum_by-cons g x xs in let b = ap (λ l. sum_by f l) (h 0 x refl) in let z : sum_by f [] ≡ 0 = refl in let c = offers_zero f xs (λ i m e. h (suc i) m e) in omega (arith, a, b, z, c)

pub offering_first : (workers room : ℕ) (xs : List CrewMember) → length xs ≡ workers → HaveRoom room xs → Offering workers room 0 xs
offering_first workers room xs count h = record {
  roomy = λ a m e. (let r = h a m e in let l = ap (λ (l : List ℕ). length l * workers) r.0 in let z : length {A = ℕ} [] * workers ≡ 0 = omega arith in let b = get_below xs a m e in (omega (arith, l, z, b, count), r.1));
  offered = record { each = λ b lt. absurd (omega (arith, lt)); sum = λ f. offers_zero f xs (λ a m e. (h a m e).0) };
}

-- ---- thieves

abbrev pub hiring : CrewMember → DequeView → CrewMember
hiring m d = record m { deque = d }

abbrev pub hired : DequeView → DequeView
hired d = record d { made = d.made + 1; thieves = d.thieves + 1 }

abbrev pub armed : CrewMember → Vec ThiefView Global → CrewMember
armed m ts = record m { thieves = ts }

snoc_at : (xs : List ThiefView) (x y : ThiefView) (i : ℕ) → slice_get (xs ++ x ∷ []) i ≡ Some y → (slice_get xs i ≡ Some y) ⊎ ((i ≡ length xs) × (x ≡ y))
snoc_at [] x y zero e = inr (refl, cc e)
snoc_at [] x y (suc i) e = absurd (cc e)
snoc_at (z ∷ xs) x y zero e = inl e
snoc_at (z ∷ xs) x y (suc i) e = elim (snoc_at xs x y i e) [ inl h ↦ inl h | inr h ↦ inr (ap suc h.0, h.1) ]

module _ (xs : List CrewMember) (v w : ℕ) (m d : CrewMember) (ts : Vec ThiefView Global) (th : ThiefView)
    (at : slice_get xs w ≡ Some m) (there : slice_get xs v ≡ Some d) (ne : w ≢ v) (is : ts.items ≡ m.thieves.items ++ th ∷ []) (own : th.victim ≡ d.deque.id) (none : th.taken ≡ []) where
  after : List CrewMember
  after = set (set xs v (hiring d (hired d.deque))) w (armed m ts)

  cases : (a : ℕ) (n : CrewMember) → slice_get after a ≡ Some n
      → ((a ≡ w) × (armed m ts ≡ n)) ⊎ (((a ≡ v) × (hiring d (hired d.deque) ≡ n)) ⊎ ((a ≢ w) × (a ≢ v) × (slice_get xs a ≡ Some n)))
  unfolding after
  cases a n e = ⊎_elim
      (λ (h : (a ≡ w) × (armed m ts ≡ n)). inl h)
      (λ (h : (a ≢ w) × (slice_get (set xs v (hiring d (hired d.deque))) a ≡ Some n)). ⊎_elim
      (λ (g : (a ≡ v) × (hiring d (hired d.deque) ≡ n)). inr (inl g))
      (λ (g : (a ≢ v) × (slice_get xs a ≡ Some n)). inr (inr (h.0, g.0, g.1)))
      (set_get xs v (hiring d (hired d.deque)) a n h.1))
      (set_get (set xs v (hiring d (hired d.deque))) w (armed m ts) a n e)

  still_there : slice_get (set xs v (hiring d (hired d.deque))) w ≡ Some m
  still_there = get_set_other xs v (hiring d (hired d.deque)) w ne ∙ at

  pub count_hired : length (set (set xs v (hiring d (hired d.deque))) w (armed m ts)) ≡ length xs
  count_hired = length-set (set xs v (hiring d (hired d.deque))) w (armed m ts) ∙ length-set xs v (hiring d (hired d.deque))

  pub hired_blank : (t : TableView) (p : PassView) → AreBlank t p xs → AreBlank t p (set (set xs v (hiring d (hired d.deque))) w (armed m ts))
  unfolding after
  hired_blank t p h a n e = ⊎_elim
      (λ (g : (a ≡ w) × (armed m ts ≡ n)). subst (IsBlank t p) g.1 (let o = h w m at in record {
        pass = o.pass;
        seen = o.seen;
        deque = o.deque;
        notes = o.notes;
        moves = o.moves;
        short = o.short;
        thieves = λ j thief e'. ⊎_elim (λ old. o.thieves j thief old) (λ (s : (j ≡ length m.thieves.items) × (th ≡ thief)). subst (λ (x : ThiefView). x.taken ≡ []) s.1 none) (snoc_at m.thieves.items th thief j (subst (λ l. slice_get l j ≡ Some thief) is e'));
      }))
      (λ r. ⊎_elim
      (λ (g : (a ≡ v) × (hiring d (hired d.deque) ≡ n)). subst (IsBlank t p) g.1 (let o = h v d there in record { pass = o.pass; seen = o.seen; deque = o.deque; thieves = o.thieves; notes = o.notes; moves = o.moves; short = o.short }))
      (λ (g : (a ≢ w) × (a ≢ v) × (slice_get xs a ≡ Some n)). h a n g.2)
      r)
      (cases a n e)

  pub hired_offered : (b : ℕ) → AreOffered b xs → AreOffered b (set (set xs v (hiring d (hired d.deque))) w (armed m ts))
  unfolding after
  hired_offered b h = record {
    each = λ c lt. (let o = h.each c lt in let x = get_there after o.0 (let g = get_below xs o.0 o.1 o.2 in let l = count_hired in omega (arith, g, l)) in
        (o.0, x.0, x.1, subst (λ l. Has l c) (same o.0 o.1 x.0 o.2 (cases o.0 x.0 x.1)) o.3));
    sum = λ f. (let g = λ (y : CrewMember). sum_by f y.deque.offered in let a = sum_set g (set xs v (hiring d (hired d.deque))) w m (armed m ts) still_there in let c = sum_set g xs v d (hiring d (hired d.deque)) there in let s = h.sum f in omega (arith, a, c, s));
  }
    where
      same : (a : ℕ) (o n : CrewMember) → slice_get xs a ≡ Some o → ((a ≡ w) × (armed m ts ≡ n)) ⊎ (((a ≡ v) × (hiring d (hired d.deque) ≡ n)) ⊎ ((a ≢ w) × (a ≢ v) × (slice_get xs a ≡ Some n))) → o.deque.offered ≡ n.deque.offered
      same a o n e (inl g) = ap (λ (x : CrewMember). x.deque.offered) (one_there xs a o m e (subst (λ i. slice_get xs i ≡ Some m) (sym g.0) at)) ∙ ap (λ (x : CrewMember). x.deque.offered) g.1
      same a o n e (inr (inl g)) = ap (λ (x : CrewMember). x.deque.offered) (one_there xs a o d e (subst (λ i. slice_get xs i ≡ Some d) (sym g.0) there)) ∙ ap (λ (x : CrewMember). x.deque.offered) g.1
      same a o n e (inr (inr g)) = ap (λ (x : CrewMember). x.deque.offered) (one_there xs a o n e g.2)

  pub hired_held : AreHeld v (w + 1) xs → AreHeld v w (set (set xs v (hiring d (hired d.deque))) w (armed m ts))
  unfolding after
  hired_held held = (
    held.0,
    λ a n e. subst (λ len. Holds len held.0 v w a n) (sym count_hired) (⊎_elim
        (λ (h : (a ≡ w) × (armed m ts ≡ n)). subst (λ (x : ℕ × CrewMember). Holds (length xs) held.0 v w x.0 x.1) (λ i. (sym h.0 i, h.1 i)) of_worker)
        (λ r. ⊎_elim
        (λ (h : (a ≡ v) × (hiring d (hired d.deque) ≡ n)). subst (λ (x : ℕ × CrewMember). Holds (length xs) held.0 v w x.0 x.1) (λ i. (sym h.0 i, h.1 i)) of_victim)
        (λ (h : (a ≢ w) × (a ≢ v) × (slice_get xs a ≡ Some n)). of_other a n h.1 h.0 (held.1 a n h.2))
        r)
        (cases a n e)),
  )
    where
      hd : Holds (length xs) held.0 v (w + 1) v d
      hd = held.1 v d there

      hm : Holds (length xs) held.0 v (w + 1) w m
      hm = held.1 w m at

      more_ts : length ts.items ≡ length m.thieves.items + 1
      more_ts = ap (λ (l : List ThiefView). length l) is ∙ length-append m.thieves.items (th ∷ [])

      of_victim : Holds (length xs) held.0 v w v (hiring d (hired d.deque))
      of_victim = record {
        id = hd.id;
        aimed = hd.aimed;
        few_later = λ lt l. absurd (omega (arith, l));
        few = λ lt l. hd.few (omega (arith, lt)) l;
        many = λ ge l. elim (cases_lt w v) [ inl less ↦ hd.many (omega (arith, less)) l | inr ge' ↦ absurd (ne (omega (arith, ge, ge'))) ];
        many_earlier = λ ge l. absurd (omega (arith, l));
        none_out = λ l. absurd (omega (arith, l));
        all_out = λ l. absurd (omega (arith, l));
        some_out = λ s ge. elim (cases_lt w v) [ inl less ↦ (let o = hd.some_out refl (omega (arith, less)) in omega (arith, o)) | inr ge' ↦ absurd (ne (omega (arith, ge, ge'))) ];
        others_out = λ s lt. (let o = hd.others_out refl (omega (arith, lt)) in omega (arith, o));
      }

      aim : (j u : ℕ) (thief : ThiefView) → slice_get ts.items j ≡ Some thief → Aims (length xs) w j u → slice_get held.0 u ≡ Some thief.victim
      aim j u thief e aims = ⊎_elim
          (λ old. hm.aimed j u thief old aims)
          (λ (s : (j ≡ length m.thieves.items) × (th ≡ thief)). subst (λ (x : ThiefView). slice_get held.0 u ≡ Some x.victim) s.1
          (subst (λ y. slice_get held.0 u ≡ Some y) (sym own) (subst (λ i. slice_get held.0 i ≡ Some d.deque.id) (right s.0 aims (cases_lt v w)) hd.id)))
          (snoc_at m.thieves.items th thief j (subst (λ l. slice_get l j ≡ Some thief) is e))
        where
          right : j ≡ length m.thieves.items → Aims (length xs) w j u → (v < w) ⊎ (w ≤ v) → v ≡ u
          right s (inl x) (inl lt) = (let o = hm.few_later (omega arith) lt in let a = x.0 in let b = x.1 in absurd (omega (arith, s, o, a, b, lt)))
          right s (inr x) (inl lt) = (let o = hm.few_later (omega arith) lt in let b = x.1 in omega (arith, s, o, b))
          right s (inl x) (inr ge) = (let o = hm.few (omega arith) ge in let b = x.1 in omega (arith, s, o, b))
          right s (inr x) (inr ge) = (let o = hm.few (omega arith) ge in let a = x.0 in let b = x.1 in absurd (omega (arith, s, o, a, b, ge)))

      of_worker : Holds (length xs) held.0 v w w (armed m ts)
      of_worker = record {
        id = hm.id;
        aimed = aim;
        few_later = λ lt l. absurd (omega (arith, lt));
        few = λ lt l. absurd (omega (arith, lt));
        many = λ ge l. elim (cases_lt v w) [ inl less ↦ (let o = hm.few_later (omega arith) less in omega (arith, o, more_ts)) | inr ge' ↦ absurd (ne (omega (arith, l, ge'))) ];
        many_earlier = λ ge l. (let o = hm.few (omega arith) (omega (arith, l)) in omega (arith, o, more_ts));
        none_out = hm.none_out;
        all_out = hm.all_out;
        some_out = λ s. absurd (ne s);
        others_out = λ s. absurd (ne s);
      }

      of_other : (a : ℕ) (n : CrewMember) → a ≢ v → a ≢ w → Holds (length xs) held.0 v (w + 1) a n → Holds (length xs) held.0 v w a n
      of_other a n nv nw h = record {
        id = h.id;
        aimed = h.aimed;
        few_later = λ lt l. h.few_later (omega (arith, lt)) l;
        few = λ lt l. h.few (omega (arith, lt)) l;
        many = λ ge l. elim (cases_lt w a) [ inl less ↦ h.many (omega (arith, less)) l | inr ge' ↦ absurd (nw (omega (arith, ge, ge'))) ];
        many_earlier = λ ge l. elim (cases_lt w a) [ inl less ↦ h.many_earlier (omega (arith, less)) l | inr ge' ↦ absurd (nw (omega (arith, ge, ge'))) ];
        none_out = h.none_out;
        all_out = h.all_out;
        some_out = λ s. absurd (nv s);
        others_out = λ s. absurd (nv s);
      }

-- the victim gets no thief of its own deque
pub skip_hiring : (xs : List CrewMember) (v : ℕ) → AreHeld v (v + 1) xs → AreHeld v v xs
skip_hiring xs v held = (
  held.0,
  λ a n e. (let h = held.1 a n e in record {
    id = h.id;
    aimed = h.aimed;
    few_later = λ lt l. absurd (omega (arith, lt, l));
    few = λ lt l. h.few (omega (arith, lt)) l;
    many = λ ge l. elim (cases_lt v a) [ inl less ↦ h.many (omega (arith, less)) l | inr ge' ↦ h.few (omega (arith, ge')) ge' ];
    many_earlier = λ ge l. absurd (omega (arith, ge, l));
    none_out = h.none_out;
    all_out = h.all_out;
    some_out = λ s ge. (let o = h.others_out s (omega arith) in omega (arith, o));
    others_out = λ s lt. absurd (omega (arith, lt));
  }),
)

-- on to the deque before
pub next_victim : (xs : List CrewMember) (v : ℕ) → AreHeld (v + 1) 0 xs → AreHeld v (length xs) xs
next_victim xs v held = (
  held.0,
  λ a n e. (let h = held.1 a n e in let b = get_below xs a n e in record {
    id = h.id;
    aimed = h.aimed;
    few_later = λ lt l. (let o = h.many (omega arith) (omega (arith, l)) in omega (arith, o));
    few = λ lt l. (let o = h.many_earlier (omega arith) (omega (arith, l)) in omega (arith, o));
    many = λ ge l. absurd (omega (arith, ge, b));
    many_earlier = λ ge l. absurd (omega (arith, ge, b));
    none_out = λ l. h.none_out (omega (arith, l));
    all_out = λ l. elim (cases_lt (v + 1) a) [ inl less ↦ h.all_out less | inr ge ↦ (let o = h.some_out (omega (arith, l, ge)) (omega arith) in omega (arith, o)) ];
    some_out = λ s ge. absurd (omega (arith, s, ge, b));
    others_out = λ s lt. (let o = h.none_out (omega (arith, s)) in omega (arith, o));
  }),
)

get_map : (xs : List CrewMember) (a : ℕ) (m : CrewMember) → slice_get xs a ≡ Some m → slice_get (map (λ (x : CrewMember). x.deque.id) xs) a ≡ Some m.deque.id
get_map [] a m e = absurd (cc e)
get_map (x ∷ xs) zero m e = let s : x ≡ m = cc e in ap (λ (y : CrewMember). Some y.deque.id) s
get_map (x ∷ xs) (suc a) m e = get_map xs a m e

-- before the first thief
pub first_held : (xs : List CrewMember) → AreIdle xs → AreHeld (length xs) 0 xs
first_held xs idle = (
  map (λ (x : CrewMember). x.deque.id) xs,
  λ a n e. (let i = idle a n e in let b = get_below xs a n e in let l = ap (λ (t : List ThiefView). length t) i.0 in record {
    id = get_map xs a n e;
    aimed = λ j u thief at aims. absurd (let f = subst (λ t. slice_get t j ≡ Some thief) i.0 at in cc f);
    few_later = λ lt l. absurd (omega (arith, lt));
    few = λ lt l. absurd (omega (arith, lt));
    many = λ ge l. absurd (omega (arith, l, b));
    many_earlier = λ ge lt. omega (arith, l);
    none_out = λ lt. i.1;
    all_out = λ lt. absurd (omega (arith, lt, b));
    some_out = λ s. absurd (omega (arith, s, b));
    others_out = λ s. absurd (omega (arith, s, b));
  }),
)

-- ---- records one after the other

pub fresh_snoc : (t : TableView) (p : PassView) (room : ℕ) (xs : List CrewMember) (x : CrewMember) → AreBlank t p xs × AreIdle xs × HaveRoom room xs → IsBlank t p x → x.thieves.items ≡ [] → x.deque.thieves ≡ 0 → x.deque.offered ≡ [] → x.deque.room ≡ room
    → AreBlank t p (xs ++ x ∷ []) × AreIdle (xs ++ x ∷ []) × HaveRoom room (xs ++ x ∷ [])
fresh_snoc t p room xs x h blank thieves out offered is = (
  λ a m e. ⊎_elim (λ at. h.0 a m at) (λ (s : x ≡ m). subst (IsBlank t p) s blank) (get_snoc xs x m a e),
  λ a m e. ⊎_elim (λ at. h.1 a m at) (λ (s : x ≡ m). subst (λ (y : CrewMember). (y.thieves.items ≡ []) × (y.deque.thieves ≡ 0)) s (thieves, out)) (get_snoc xs x m a e),
  λ a m e. ⊎_elim (λ at. h.2 a m at) (λ (s : x ≡ m). subst (λ (y : CrewMember). (y.deque.offered ≡ []) × (y.deque.room ≡ room)) s (offered, is)) (get_snoc xs x m a e),
)

pub fresh_none : (t : TableView) (p : PassView) (room : ℕ) → AreBlank t p [] × AreIdle [] × HaveRoom room []
fresh_none t p room = (λ a m e. absurd (cc e), λ a m e. absurd (cc e), λ a m e. absurd (cc e))
