-- The least distance of each pair, in the pair's slot.
--     ForClosures v P                  P holds of the closure that the numbering is about
--     AreLeast closure all slots       the least distances of the listed hits of each pair
--     founds_in entries slots pairs    those of these pairs that have one
use Rattle.std.specs.Prelude.{ℕ, ◌≡◌, List, [], ◌∷◌, Bool, true, length, min, flat_map, get_or, Option, Some, None}
use Rattle.steno_rules.specs.Outlines.{flagged_entries}
use Rattle.pair_slots.specs.Slots.{IsInside, first_slot, slot_of}
use Rattle.state_numbering.specs.Numberings.{NumberingView}
use Rattle.certificate.specs.CertTexts.{Listed}
use Rattle.certificate_laws.specs.Closures.{Closure, Pair, closure_of}
use Rattle.certificate_laws.specs.Validity.{hit_distances, is_least_of}
use Rattle.cert_check.specs.declared.founds.Found.{Found}

-- this holds of the closure that the numbering is about, whichever flags its words have
abbrev pub ForClosures : NumberingView → (Closure → Type 0) → Type 0
ForClosures v P = (flags : List Bool) → v.words ≡ flagged_entries v.entries flags → P (closure_of v.entries flags)

-- with one distance more
abbrev pub least_with : Option ℕ → ℕ → ℕ
least_with None d = d
least_with (Some least) d = min least d

-- there are no distances, or the least of them is this one
abbrev pub IsLeastOf : Option ℕ → List ℕ → Type 0
IsLeastOf None distances = distances ≡ []
IsLeastOf (Some d) distances = is_least_of d distances ≡ true

-- the distance in the slot of a pair
abbrev pub slot_distance : List (List ℕ) → List (Option ℕ) → ℕ → ℕ → Option ℕ
slot_distance entries slots e place = get_or slots (slot_of entries e place) None

-- each slot has the least distance of the listed hits of its pair, if there is one
pub record AreLeast (closure : Closure) (all : List Listed) (slots : List (Option ℕ)) : Type 0 where
  pub count : length slots ≡ first_slot closure.outlines (length closure.outlines)
  pub each : (e place : ℕ) → IsInside closure.outlines e place
      → IsLeastOf (slot_distance closure.outlines slots e place)
      (hit_distances closure all (record { entry = e; place = place }))

abbrev pub found_if : Pair → Option ℕ → List Found
found_if p None = []
found_if p (Some d) = record { entry = p.entry; place = p.place; distance = d } ∷ []

-- those of these pairs that have a distance
abbrev pub founds_in : List (List ℕ) → List (Option ℕ) → List Pair → List Found
founds_in entries slots pairs = flat_map (λ p. found_if p (slot_distance entries slots p.entry p.place)) pairs
