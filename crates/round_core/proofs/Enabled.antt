-- What the tests of an enabled event tell.
use Rattle.std.proofs.Common.{◌≡◌, ℕ, zero, suc, ◌≤◌, ◌<◌, ◌&&◌, not, Bool, true, false, true≢false, List, [], ◌∷◌, length, get_or, drop, Option, Some, None, sym, ap, ◌∙◌, refl, arith}
use Rattle.std.specs.Prelude.{slice_get, slice_index_or, is_some}
use Rattle.round_core.specs.Machines.{Move, is_empty, is_free, is_busy, none_untaken, all_free}

pub free_is : (h : Option (Option (List Move))) → is_free h ≡ true → h ≡ Some None
free_is None e = absurd (true≢false (sym e))
free_is (Some None) e = refl
free_is (Some (Some moves)) e = absurd (true≢false (sym e))

pub busy_is : (h : Option (Option (List Move))) → is_busy h ≡ true → (moves : List Move) × (h ≡ Some (Some moves))
busy_is None e = absurd (true≢false (sym e))
busy_is (Some None) e = absurd (true≢false (sym e))
busy_is (Some (Some moves)) e = (moves, refl)

pub untaken_is : (us : List Bool) (b : ℕ) → slice_index_or us b false ≡ true → slice_get us b ≡ Some true
untaken_is [] b e = absurd (true≢false (sym e))
untaken_is (u ∷ us) zero e = ap Some e
untaken_is (u ∷ us) (suc b) e = untaken_is us b e

pub idle : (us : List Bool) → none_untaken us ≡ true → (b : ℕ) → slice_get us b ≡ Some true → ⊥
idle [] e b is = absurd (cc is)
idle (true ∷ us) e b is = absurd (true≢false (sym e))
idle (false ∷ us) e zero is = let f : false ≡ true = cc in absurd (true≢false (sym f))
idle (false ∷ us) e (suc b) is = idle us e b is

pub free : (hs : List (Option (List Move))) → all_free hs ≡ true → (w : ℕ) (moves : List Move) → slice_get hs w ≡ Some (Some moves) → ⊥
free [] e w moves is = absurd (cc is)
free (None ∷ hs) e zero moves is = absurd (cc is)
free (None ∷ hs) e (suc w) moves is = free hs e w moves is
free (Some ms ∷ hs) e w moves is = absurd (true≢false (sym e))

pub nonempty : (xs : List ℕ) → not (is_empty xs) ≡ true → 0 < length xs
nonempty [] e = absurd (true≢false (sym e))
nonempty (x ∷ xs) e = omega arith

pub not_true : (b : Bool) → not b ≡ true → b ≡ false
not_true true e = absurd (true≢false (sym e))
not_true false e = refl

pub none_some : (moves : List Move) → Some None ≡ Some (Some moves) → ⊥
none_some moves e = absurd (cc e)

pub some_some : (xs ys : List Move) → Some (Some xs) ≡ Some (Some ys) → xs ≡ ys
some_some xs ys e = cc e

-- ---- the loops over flags and hands

pub idle_false : (us : List Bool) (i : ℕ) → slice_get us i ≡ Some true → none_untaken us ≡ false
idle_false [] i e = absurd (cc e)
idle_false (true ∷ us) i e = refl
idle_false (false ∷ us) zero e = absurd (let f : false ≡ true = cc e in true≢false (sym f))
idle_false (false ∷ us) (suc i) e = idle_false us i e

pub idle_step : (us : List Bool) (i : ℕ) → i < length us → get_or us i false ≡ false → none_untaken (drop i us) ≡ none_untaken (drop (suc i) us)
idle_step [] i lt is = absurd (omega (arith, lt))
idle_step (u ∷ us) zero lt is = ap (λ b. not b && none_untaken us) is
idle_step (u ∷ us) (suc i) lt is = idle_step us i (omega (arith, lt)) is

pub idle_end : (us : List Bool) (i : ℕ) → length us ≤ i → none_untaken (drop i us) ≡ true
idle_end [] zero le = refl
idle_end [] (suc i) le = refl
idle_end (u ∷ us) zero le = absurd (omega (arith, le))
idle_end (u ∷ us) (suc i) le = idle_end us i (omega (arith, le))

module _ {A : Type 0} where
  pub held_some : (hs : List (Option A)) (i : ℕ) (h : Option A) → slice_get hs i ≡ Some h → is_some h ≡ true → all_free hs ≡ false
  held_some [] i h e is = absurd (cc e)
  held_some (Some k ∷ hs) i h e is = refl
  held_some (None ∷ hs) zero h e is = absurd (let same : None ≡ h = cc e in true≢false (sym is ∙ sym (ap is_some same)))
  held_some (None ∷ hs) (suc i) h e is = held_some hs i h e is

  pub free_step : (hs : List (Option A)) (i : ℕ) (h : Option A) → slice_get hs i ≡ Some h → is_some h ≡ false → all_free (drop i hs) ≡ all_free (drop (suc i) hs)
  free_step [] i h e is = absurd (cc e)
  free_step (None ∷ hs) zero h e is = refl
  free_step (Some k ∷ hs) zero h e is = absurd (let same : Some k ≡ h = cc e in true≢false (ap is_some same ∙ is))
  free_step (k ∷ hs) (suc i) h e is = free_step hs i h e is

  pub free_end : (hs : List (Option A)) (i : ℕ) → length hs ≤ i → all_free (drop i hs) ≡ true
  free_end [] zero le = refl
  free_end [] (suc i) le = refl
  free_end (u ∷ us) zero le = absurd (omega (arith, le))
  free_end (u ∷ us) (suc i) le = free_end us i (omega (arith, le))
