-- The first slots of outlines, one after another.
use Rattle.std.proofs.Common.{◌≡◌, ℕ, ◌+◌, ◌<◌, ◌≤◌, zero, suc, List, [], ◌∷◌, ◌++◌, length, get_or, All, refl, ap, ◌∙◌, arith, inl, inr}
use Rattle.std.proofs.lemmas.Bool.{cases_lt}
use Rattle.std.proofs.lemmas.List.{get_or_append_left, get_or_at, length_push}
use Rattle.steno_rules.specs.Outlines.{IsOutline, outline_of}
use Rattle.pair_slots.specs.Slots.{AreStarts, first_slot, inner_places}
use Rattle.pair_slots.proofs.Slots.{few_slots, next_slots}

-- the first so many outlines have their starts, and the next one's is the last
pub record AreStartsSoFar (outlines : List (List ℕ)) (n end : ℕ) (starts : List ℕ) : Type 0 where
  pub end_is : end ≡ first_slot outlines n
  pub count : length starts ≡ n + 1
  pub each : (e : ℕ) → e ≤ n → get_or starts e 0 ≡ first_slot outlines e

pub starts_none : (outlines : List (List ℕ)) → AreStartsSoFar outlines 0 0 (0 ∷ [])
starts_none outlines = record { end_is = refl; count = refl; each = λ e low. let none : e ≡ 0 = omega arith in ap (λ k. get_or (0 ∷ []) k 0) none ∙ zero_is e none }
  where
    zero_is : (e : ℕ) → e ≡ 0 → 0 ≡ first_slot outlines e
    zero_is zero none = refl
    zero_is (suc e) none = absurd (omega arith)

-- one outline more
pub starts_more : (outlines : List (List ℕ)) (n end added : ℕ) (starts : List ℕ) → n < length outlines → added ≡ inner_places (outline_of outlines n) →
    AreStartsSoFar outlines n end starts → AreStartsSoFar outlines (n + 1) (end + added) (starts ++ (end + added) ∷ [])
starts_more outlines n end added starts inside is h =
    let next : end + added ≡ first_slot outlines (n + 1) = omega (arith, h.end_is, is, next_slots outlines n inside) in
    record {
      end_is = next;
      count = omega (arith, length_push starts (end + added), h.count);
      each = λ e low. elim (cases_lt e (n + 1)) [
        | inl lt ↦ get_or_append_left starts ((end + added) ∷ []) 0 e (omega (arith, h.count)) ∙ h.each e (omega arith)
        | inr ge ↦ let same : n + 1 ≡ e = omega arith in get_or_at starts (end + added) [] 0 e (h.count ∙ same) ∙ next ∙ ap (first_slot outlines) same
      ];
    }

-- the next start is small
pub start_small : (outlines : List (List ℕ)) (n end added : ℕ) (starts : List ℕ) → All IsOutline outlines → length outlines ≤ 1048576 → n < length outlines →
    added ≡ inner_places (outline_of outlines n) → AreStartsSoFar outlines n end starts → end + added ≤ 66060288
start_small outlines n end added starts are few inside is h =
    omega (arith, few_slots outlines (n + 1) are (omega arith), few, h.end_is, is, next_slots outlines n inside)

-- At the end they are all there.
pub starts_all : (outlines : List (List ℕ)) (n end : ℕ) (starts : List ℕ) → n ≡ length outlines → AreStartsSoFar outlines n end starts → AreStarts outlines starts
starts_all outlines n end starts all h = record { count = omega (arith, h.count, all); each = λ e low. h.each e (omega (arith, all)) }
