-- The chosen hit of each pair among the first so many numbers. A hit is kept as one word, its distance times 2^32 and its
-- number, so the chosen hit has the least word.
--     IsFirstOf entries words e place bound word    the word of the chosen hit below the bound, if there is one
--     AreFirst entries words bound best             such a word in the slot of each pair
use Rattle.std.specs.Prelude.{ℕ, ◌≡◌, ◌+◌, ◌*◌, ◌<◌, ◌≤◌, ◌⊎◌, List, length, get_or}
use Rattle.graph_rules.specs.Graphs.{unreached}
use Rattle.closure_laws.specs.NumberedHits.{IsHitNumber}
use Rattle.pair_slots.specs.Slots.{IsInside, first_slot, slot_of}

abbrev pub hit_word : ℕ → ℕ → ℕ
hit_word n number = n * 4294967296 + number

-- no number below the bound is that of a hit of the pair
abbrev pub HasNoHitBelow : List (List ℕ) → List (List ℕ) → ℕ → ℕ → ℕ → Type 0
HasNoHitBelow entries words e place bound =
    (number n : ℕ) → number < bound → IsHitNumber entries words e place number n → ⊥

pub record IsFirstHit (entries words : List (List ℕ)) (e place bound word : ℕ) : Type 0 where
  pub number : ℕ
  pub n : ℕ
  pub below : number < bound
  pub is : IsHitNumber entries words e place number n
  pub word_is : word ≡ hit_word n number
  pub least : (other k : ℕ) → other < bound → IsHitNumber entries words e place other k
      → word ≤ hit_word k other

abbrev pub IsFirstOf : List (List ℕ) → List (List ℕ) → ℕ → ℕ → ℕ → ℕ → Type 0
IsFirstOf entries words e place bound word =
    (HasNoHitBelow entries words e place bound × (word ≡ unreached))
    ⊎ IsFirstHit entries words e place bound word

pub record AreFirst (entries words : List (List ℕ)) (bound : ℕ) (best : List ℕ) : Type 0 where
  pub count : length best ≡ first_slot entries (length entries)
  pub each : (e place : ℕ) → IsInside entries e place
      → IsFirstOf entries words e place bound (get_or best (slot_of entries e place) 0)
