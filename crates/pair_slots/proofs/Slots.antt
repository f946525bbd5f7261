-- The slots of different pairs differ.
use Rattle.std.proofs.Common.{◌≡◌, ℕ, ◌+◌, ◌-◌, ◌*◌, ◌<◌, ◌≤◌, List, [], length, All, ap, zero, suc, arith, inl, inr, Option, None, Some}
use Rattle.std.proofs.lemmas.Bool.{cases_order}
use Rattle.std.proofs.lemmas.List.Sums.{sum_by_more}
use Rattle.steno_rules.specs.Outlines.{IsOutline, outline_of}
use Rattle.steno_rules.specs.States.{State, IsHit, IsHitMark}
use Rattle.pair_slots.specs.Slots.{IsInside, inner_places, first_slot, slot_of}

-- the slots of the next entry begin behind those of this one
pub next_slots : (entries : List (List ℕ)) (e : ℕ) → e < length entries →
    first_slot entries (e + 1) ≡ first_slot entries e + inner_places (outline_of entries e)
next_slots entries e inside = sum_by_more inner_places entries e [] inside

-- the slots of later entries begin later
pub slots_rise : (entries : List (List ℕ)) (e n : ℕ) → e + n ≤ length entries → first_slot entries e ≤ first_slot entries (e + n)
slots_rise entries e zero fits = let is : e + 0 ≡ e = omega arith in omega (arith, ap (first_slot entries) is)
slots_rise entries e (suc n) fits =
    let before = slots_rise entries e n (omega arith) in
    let is : e + n + 1 ≡ e + suc n = omega arith in
    omega (arith, before, next_slots entries (e + n) (omega arith), ap (first_slot entries) is)

pub slots_later : (entries : List (List ℕ)) (e f : ℕ) → e ≤ f → f ≤ length entries → first_slot entries e ≤ first_slot entries f
slots_later entries e f up fits =
    let same : e + (f - e) ≡ f = omega arith in
    rw same at (slots_rise entries e (f - e) (omega arith))

-- a slot lies before those of the next entry
pub slot_before : (entries : List (List ℕ)) (e place : ℕ) → IsInside entries e place → slot_of entries e place < first_slot entries (e + 1)
slot_before entries e place h = omega (arith, next_slots entries e h.entry, h.after_start, h.before_end)

-- A slot is one of the slots.
pub slot_below : (entries : List (List ℕ)) (e place : ℕ) → IsInside entries e place → slot_of entries e place < first_slot entries (length entries)
slot_below entries e place h =
    let before = slot_before entries e place h in
    let later = slots_later entries (e + 1) (length entries) (omega (arith, h.entry)) (omega arith) in
    omega (arith, before, later)

-- a pair of an earlier entry has an earlier slot
earlier : (entries : List (List ℕ)) (e place f other : ℕ) → IsInside entries e place → IsInside entries f other → e < f → slot_of entries e place < slot_of entries f other
earlier entries e place f other h g lt =
    let before = slot_before entries e place h in
    let later = slots_later entries (e + 1) f (omega arith) (omega (arith, g.entry)) in
    omega (arith, before, later)

-- Different pairs have different slots.
pub slots_apart : (entries : List (List ℕ)) (e place f other : ℕ) → IsInside entries e place → IsInside entries f other →
    slot_of entries e place ≡ slot_of entries f other → (e ≡ f) × (place ≡ other)
slots_apart entries e place f other h g same = elim (cases_order e f) [
  | inl is ↦ (is, omega (arith, ap (first_slot entries) is, h.after_start, g.after_start))
  | inr (inl lt) ↦ let l = earlier entries e place f other h g lt in absurd (omega arith)
  | inr (inr gt) ↦ let l = earlier entries f other e place g h gt in absurd (omega arith)
]

-- Outlines have at most 63 slots each.
pub few_slots : (entries : List (List ℕ)) (e : ℕ) → All IsOutline entries → e ≤ length entries → first_slot entries e ≤ 63 * e
few_slots entries zero are fits = omega arith
few_slots entries (suc e) are fits =
    let before = few_slots entries e are (omega arith) in
    let few : length (outline_of entries e) ≤ 64 = (are e [] (omega arith)).at_most in
    let is : e + 1 ≡ suc e = omega arith in
    omega (arith, before, few, next_slots entries e (omega arith), ap (first_slot entries) is)

-- The place of a hit lies inside its entry.
pub hit_inside : (entries : List (List ℕ)) (s : State) (e place : ℕ) → e < length entries → IsHit entries s e place → IsInside entries e place
hit_inside entries s e place inside h = by s.mark (length (outline_of entries e)) h.mark (λ some fits. record { entry = inside; after_start = some; before_end = fits })
  where
    by : (m : Option ℕ) (n : ℕ) → IsHitMark m n place → (0 < place → place < n → IsInside entries e place) → IsInside entries e place
    by None n h make = absurd h
    by (Some m) n h make = make (omega (arith, h.0, h.1, h.2)) (omega (arith, h.0, h.1, h.2))
