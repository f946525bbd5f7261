-- Each step keeps the count of the batches.
use Rattle.std.proofs.Common.{◌≡◌, ◌≢◌, ◌⊎◌, ℕ, zero, suc, ◌+◌, ◌<◌, ◌≤◌, Bool, true, false, true≢false, List, [], ◌∷◌, ◌++◌, length, set, refl, ap, sym, subst, ◌∙◌, ⊎_elim, arith}
use mathlib.Core.Option.{some, some-ne-none, some-injective}
use lib.ListN.{get_elem?}
use Rattle.crossbeam_deque.specs.Tasks.{Pushes, Takes, Finds, FindsFew, Forks, Merges}
use Rattle.crossbeam_deque.proofs.Lists.{at_set, at_snoc, at_longer, set_here, set_else}
use Rattle.steal_batches.specs.declared.hand.Hand.{Hand}
use Rattle.steal_batches.specs.Deques.{times_in}
use Rattle.steal_batches.specs.Rules.{total, FitsSeat, IsEachOnce, WasEmpty}
use Rattle.steal_batches.specs.inside.Steps.{first_owner, no_hand, offering, taking, hiring, hired, taking_back, TellsTaken}

pub times_in-append : (x : ℕ) (xs ys : List ℕ) → times_in x (xs ++ ys) ≡ times_in x xs + times_in x ys
times_in-append x [] ys = omega arith
times_in-append x (y ∷ xs) ys = let h = times_in-append x xs ys in omega (arith, h)

total_set : (f : Hand → ℕ) (views : List Hand) (port : ℕ) (v w : Hand) → get_elem? views port ≡ some v → total f (set views port w) + f v ≡ total f views + f w
total_set f [] port v w e = absurd (some-ne-none v (sym e))
total_set f (u ∷ us) zero v w e = let h : f u ≡ f v = ap f (some-injective u v e) in omega (arith, h)
total_set f (u ∷ us) (suc port) v w e = let h = total_set f us port v w e in omega (arith, h)

total_push : (f : Hand → ℕ) (views : List Hand) (r : Hand) → total f (views ++ r ∷ []) ≡ total f views + f r
total_push f [] r = omega arith
total_push f (u ∷ us) r = let h = total_push f us r in omega (arith, h)

total_none : (f : Hand → ℕ) (views : List Hand) → ((j : ℕ) (u : Hand) → get_elem? views j ≡ some u → f u ≡ 0) → total f views ≡ 0
total_none f [] h = refl
total_none f (u ∷ us) h = let a = h 0 u refl in let b = total_none f us (λ j w e. h (suc j) w e) in omega (arith, a, b)

total_lone : (f : Hand → ℕ) (views : List Hand) (port : ℕ) (v : Hand) → get_elem? views port ≡ some v → ((j : ℕ) (u : Hand) → j ≢ port → get_elem? views j ≡ some u → f u ≡ 0) → total f views ≡ f v
total_lone f [] port v e h = absurd (some-ne-none v (sym e))
total_lone f (u ∷ us) zero v e h = let a : f u ≡ f v = ap f (some-injective u v e) in let b = total_none f us (λ j w d. h (suc j) w (λ z. absurd (omega (arith, z))) d) in omega (arith, a, b)
total_lone f (u ∷ us) (suc port) v e h = let a = h 0 u (λ z. absurd (omega (arith, z))) refl in let b = total_lone f us port v e (λ j w ne d. h (suc j) w (λ z. ne (omega (arith, z))) d) in omega (arith, a, b)

total_zero : (f : Hand → ℕ) (views : List Hand) (j : ℕ) (u : Hand) → total f views ≡ 0 → get_elem? views j ≡ some u → f u ≡ 0
total_zero f [] j u t e = absurd (some-ne-none u (sym e))
total_zero f (w ∷ ws) zero u t e = let a : f w ≡ f u = ap f (some-injective w u e) in omega (arith, a, t)
total_zero f (w ∷ ws) (suc j) u t e = total_zero f ws j u (omega (arith, t)) e

below_length : (views : List Hand) (u : Hand) (j : ℕ) → get_elem? views j ≡ some u → j < length views
below_length [] u j e = absurd (some-ne-none u (sym e))
below_length (x ∷ xs) u zero e = omega arith
below_length (x ∷ xs) u (suc j) e = let h = below_length xs u j e in omega (arith, h)

off : {b : Bool} → b ≡ false → b ≡ true → ⊥
off e t = true≢false (sym t ∙ e)

-- the owner's view is the one that the rule speaks of
the_owner : (items : List ℕ) (views : List Hand) (port : ℕ) (v : Hand) → (h : IsEachOnce items views) → get_elem? views port ≡ some v → v.owns ≡ true → (port ≡ h.seat) × (v ≡ h.hand)
the_owner items views port v h at own =
    let place = (h.fits port v at).0 own in
    (place, some-injective v h.hand (sym at ∙ ap (λ (j : ℕ). get_elem? views j) place ∙ h.there))

-- a thief's view is another
a_thief : (items : List ℕ) (views : List Hand) (port : ℕ) (v : Hand) → (h : IsEachOnce items views) → get_elem? views port ≡ some v → v.owns ≡ false → h.seat ≢ port
a_thief items views port v h at own same = off own (ap (λ (u : Hand). u.owns) (some-injective v h.hand (sym at ∙ ap (λ (j : ℕ). get_elem? views j) (sym same) ∙ h.there)) ∙ h.owned.0)

fits_set : (seat : ℕ) (views : List Hand) (port : ℕ) (w : Hand) → ((j : ℕ) (u : Hand) → j ≢ port → get_elem? views j ≡ some u → FitsSeat seat j u) → FitsSeat seat port w → (j : ℕ) (u : Hand) → get_elem? (set views port w) j ≡ some u → FitsSeat seat j u
fits_set seat views port w others mine j u e =
    ⊎_elim
    (λ (x : (j ≡ port) × (w ≡ u)). subst (λ (y : ℕ × Hand). FitsSeat seat y.0 y.1) (λ t. (sym x.0 t, x.1 t)) mine)
    (λ (x : (j ≢ port) × (get_elem? views j ≡ some u)). others j u x.0 x.1)
    (at_set views port j w u e)

-- the owner's view changes, and the deque
owner_moves : (items now : List ℕ) (views : List Hand) (port : ℕ) (v w : Hand) → IsEachOnce items views → get_elem? views port ≡ some v → v.owns ≡ true → w.owns ≡ true → w.live ≡ 0 → w.thieves ≡ v.thieves
    → ((x : ℕ) → times_in x w.offered + times_in x v.taken + times_in x items ≡ times_in x v.offered + times_in x w.taken + times_in x now)
    → IsEachOnce now (set views port w)
owner_moves items now views port v w h at own own' live same even =
    let o = the_owner items views port v h at own in
    let was : v.live ≡ 0 = ap (λ (u : Hand). u.live) o.1 ∙ h.owned.1 in
    record {
      seat = port;
      hand = w;
      there = set_here views port w (below_length views v port at);
      owned = (own', live);
      counted = let s = total_set (λ u. u.live) views port v w at in let c = h.counted in let t = ap (λ (u : Hand). u.thieves) o.1 in omega (arith, s, c, t, was, live, same);
      balance = λ x. let s = total_set (λ u. times_in x u.taken) views port v w at in let b = h.balance x in let t = ap (λ (u : Hand). times_in x u.offered) o.1 in let e = even x in omega (arith, s, b, t, e);
      fits = fits_set port views port w (λ j u ne e. subst (λ s. FitsSeat s j u) (sym o.0) (h.fits j u e)) ((λ _. refl), (λ f. absurd (off f own')));
    }

thief_takes : (xs items : List ℕ) (views : List Hand) (port : ℕ) (v : Hand) → IsEachOnce (xs ++ items) views → get_elem? views port ≡ some v → v.owns ≡ false → v.live ≡ 1 → IsEachOnce items (set views port (taking v xs))
thief_takes xs items views port v h at own live =
    let w = taking v xs in
    record {
      seat = h.seat;
      hand = h.hand;
      there = set_else views port h.seat w (a_thief (xs ++ items) views port v h at own) ∙ h.there;
      owned = h.owned;
      counted = let s = total_set (λ u. u.live) views port v w at in let c = h.counted in omega (arith, s, c);
      balance = λ x. let s = total_set (λ u. times_in x u.taken) views port v w at in let b = h.balance x in let p = times_in-append x v.taken xs in let q = times_in-append x xs items in omega (arith, s, b, p, q);
      fits = fits_set h.seat views port w (λ j u ne e. h.fits j u e) ((λ t. absurd (off own t)), (λ _ z. absurd (omega (arith, z, live))));
    }

pub begins : IsEachOnce [] (first_owner ∷ [])
begins = record {
  seat = 0;
  hand = first_owner;
  there = refl;
  owned = (refl, refl);
  counted = refl;
  balance = λ x. refl;
  fits = one;
}
  where
    one : (port : ℕ) (v : Hand) → get_elem? (first_owner ∷ []) port ≡ some v → FitsSeat 0 port v
    one zero v e = subst (FitsSeat 0 0) (some-injective first_owner v e) ((λ _. refl), (λ f. absurd (true≢false f)))
    one (suc port) v e = absurd (some-ne-none v (sym e))

pub pushes : (port : ℕ) (v : Hand) (xs : List ℕ) → v.owns ≡ true → v.live ≡ 0 → Pushes IsEachOnce port v xs (λ w. w ≡ offering v xs)
pushes port v xs own live items views h at = (
  offering v xs,
  owner_moves items (items ++ xs) views port v (offering v xs) h at own own live refl (λ x. let p = times_in-append x v.offered xs in let q = times_in-append x items xs in omega (arith, p, q)),
  refl,
)

-- who may take: the owner, or a thief that is out
abbrev pub MayTake : Hand → Type 0
MayTake v = ((v.owns ≡ true) × (v.live ≡ 0)) ⊎ ((v.owns ≡ false) × (v.live ≡ 1))

total_least : (f : Hand → ℕ) (views : List Hand) (port : ℕ) (v : Hand) → get_elem? views port ≡ some v → f v ≤ total f views
total_least f [] port v e = absurd (some-ne-none v (sym e))
total_least f (u ∷ us) zero v e = let same : f u ≡ f v = ap f (some-injective u v e) in omega (arith, same)
total_least f (u ∷ us) (suc port) v e = let rest = total_least f us port v e in omega (arith, rest)

-- an owner takes no batch more often than it had offered it
was_offered : (xs items : List ℕ) (views : List Hand) (port : ℕ) (v : Hand) → IsEachOnce (xs ++ items) views → get_elem? views port ≡ some v → v.owns ≡ true → (x : ℕ)
    → times_in x (v.taken ++ xs) ≤ times_in x v.offered
was_offered xs items views port v h at own x =
    let same = ap (λ (u : Hand). times_in x u.offered) (the_owner (xs ++ items) views port v h at own).1 in
    let balance = h.balance x in
    let most = total_least (λ u. times_in x u.taken) views port v at in
    let p = times_in-append x v.taken xs in
    let q = times_in-append x xs items in
    omega (arith, same, balance, most, p, q)

pub gets : (port : ℕ) (v : Hand) → MayTake v → Takes IsEachOnce port v 1 (TellsTaken v)
gets port v may xs items views _ _ h at = (
  taking v xs,
  ⊎_elim
      (λ (m : (v.owns ≡ true) × (v.live ≡ 0)). owner_moves (xs ++ items) items views port v (taking v xs) h at m.0 m.0 m.1 refl (λ x. let p = times_in-append x v.taken xs in let q = times_in-append x xs items in omega (arith, p, q)))
      (λ (m : (v.owns ≡ false) × (v.live ≡ 1)). thief_takes xs items views port v h at m.0 m.1)
      may,
  (refl, λ own x. was_offered xs items views port v h at own x),
)

pub finds : (port : ℕ) (v : Hand) → Finds IsEachOnce port v (WasEmpty v)
finds port v views h at = (port, views, h, at)

pub finds_few : (most port : ℕ) (v : Hand) → most ≡ 0 → FindsFew IsEachOnce most port v (WasEmpty v)
finds_few most port v none [] views le h at = (port, views, h, at)
finds_few most port v none (x ∷ xs) views le h at = absurd (omega (arith, le, none))

pub forks : (port : ℕ) (v : Hand) → v.owns ≡ true → Forks IsEachOnce port v (hiring v) (hired v)
forks port v own items views h at =
    let o = the_owner items views port v h at own in
    let l = hiring v in
    let r = hired v in
    let vs = set views port l in
    let was : v.live ≡ 0 = ap (λ (u : Hand). u.live) o.1 ∙ h.owned.1 in
    record {
      seat = port;
      hand = l;
      there = at_longer vs (r ∷ []) port l (set_here views port l (below_length views v port at));
      owned = (own, was);
      counted = let s = total_set (λ u. u.live) views port v l at in let p = total_push (λ u. u.live) vs r in let c = h.counted in let t = ap (λ (u : Hand). u.thieves) o.1 in omega (arith, s, p, c, t);
      balance = λ x. let s = total_set (λ u. times_in x u.taken) views port v l at in let p = total_push (λ u. times_in x u.taken) vs r in let b = h.balance x in let t = ap (λ (u : Hand). times_in x u.offered) o.1 in omega (arith, s, p, b, t);
      fits = λ j u e. ⊎_elim
          (λ a. fits_set port views port l (λ i y _ e'. subst (λ s. FitsSeat s i y) (sym o.0) (h.fits i y e')) ((λ _. refl), (λ f. absurd (off f own))) j u a)
          (λ (is : r ≡ u). subst (FitsSeat port j) is ((λ t. absurd (true≢false (sym t))), (λ _ z. absurd (omega (arith, z)))))
          (at_snoc vs r u j e);
    }

pub merges : (port : ℕ) (v : Hand) (other : ℕ) (w : Hand) → v.owns ≡ true → w.owns ≡ false → w.live ≡ 1 → Merges IsEachOnce port v other w (taking_back v w) no_hand
merges port v other w own own' live items views h at two there =
    let o = the_owner items views port v h at own in
    let b = taking_back v w in
    let vs = set views port b in
    let was : v.live ≡ 0 = ap (λ (u : Hand). u.live) o.1 ∙ h.owned.1 in
    record {
      seat = port;
      hand = b;
      there = set_else vs other port no_hand (λ same. two (sym same)) ∙ set_here views port b (below_length views v port at);
      owned = (own, was);
      counted = let s = total_set (λ u. u.live) views port v b at in let p = total_set (λ u. u.live) vs other w no_hand there in let c = h.counted in let t = ap (λ (u : Hand). u.thieves) o.1 in omega (arith, s, p, c, t, live);
      balance = λ x. let s = total_set (λ u. times_in x u.taken) views port v b at in let p = total_set (λ u. times_in x u.taken) vs other w no_hand there in let q = times_in-append x v.taken w.taken in let c = h.balance x in let t = ap (λ (u : Hand). times_in x u.offered) o.1 in omega (arith, s, p, q, c, t);
      fits = fits_set port vs other no_hand (λ j u _ e. fits_set port views port b (λ i y _ e'. subst (λ s. FitsSeat s i y) (sym o.0) (h.fits i y e')) ((λ _. refl), (λ f. absurd (off f own))) j u e)
          ((λ t. absurd (true≢false (sym t))), (λ _ _. refl));
    }

-- where the deque is empty and no thief is out, the owner has all that was offered
pub all_taken : (v : Hand) → v.owns ≡ true → v.thieves ≡ 0 → WasEmpty v → (x : ℕ) → times_in x v.taken ≡ times_in x v.offered
all_taken v own none e x =
    let port = e.0 in
    let views = e.1 in
    let h = e.2 in
    let o = the_owner [] views port v h e.3 own in
    let lives : total (λ u. u.live) views ≡ 0 = h.counted ∙ sym (ap (λ (u : Hand). u.thieves) o.1) ∙ none in
    let idle = total_lone (λ u. times_in x u.taken) views port v e.3
    (λ j u ne d. let f = h.fits j u d in elim u.owns as (λ b. u.owns ≡ b → times_in x u.taken ≡ 0) [
      | true ↦ λ t. absurd (ne (f.0 t ∙ sym o.0))
      | false ↦ λ t. ap (times_in x) (f.1 t (total_zero (λ y. y.live) views j u lives d))
    ] refl) in
    let b = h.balance x in
    let t = ap (λ (u : Hand). times_in x u.offered) o.1 in
    omega (arith, idle, b, t)
