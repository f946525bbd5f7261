-- The chosen open hit of each pair among the first so many numbers. It is kept as one word, its sum times 2^32 and its
-- number, so the chosen one has the least word.
--     IsFirstSumOf entries words e place bound word    the word of the chosen open hit below the bound, if there is one
--     AreFirstSums entries words bound least           such a word in the slot of each pair
use Rattle.std.specs.Prelude.{ℕ, ◌≡◌, ◌+◌, ◌<◌, ◌≤◌, ◌⊎◌, List, length, get_or}
use Rattle.graph_rules.specs.Graphs.{unreached}
use Rattle.steno_rules.specs.States.{State}
use Rattle.closure_state.specs.declared.state.Hit.{Hit}
use Rattle.pair_slots.specs.Slots.{IsInside, first_slot, slot_of}
use Rattle.conflict_example.specs.inside.FirstHits.{hit_word}
use Rattle.settled_laws.specs.OpenHits.{IsOpenHit}
use Rattle.settled_laws.specs.OpenNumbers.{IsOpenNumber}
use Rattle.settled_pairs.specs.declared.sums.Sum.{Sum}

-- ---- one state

pub record IsNodeOpenHit (entries : List (List ℕ)) (s : State) (h : Hit) : Type 0 where
  pub entry : h.entry < length entries
  pub hit : IsOpenHit entries s h.entry h.place

abbrev pub HasNoOpenHit : List (List ℕ) → State → Type 0
HasNoOpenHit entries s = (e place : ℕ) → IsOpenHit entries s e place → ⊥

-- ---- one number

-- an open hit of the pair has the number and finishes with n strokes in all, its moves and those of the finish, and not with fewer
pub record IsSum (entries words : List (List ℕ)) (e place number n : ℕ) : Type 0 where
  pub moves : ℕ
  pub z : List ℕ
  pub is : IsOpenNumber entries words e place number moves z
  pub sum : moves + length z ≡ n
  pub least : (k : ℕ) (y : List ℕ) → IsOpenNumber entries words e place number k y → n ≤ k + length y

pub record IsSumOf (entries words : List (List ℕ)) (number : ℕ) (sum : Sum) : Type 0 where
  pub entry : sum.entry < length entries
  pub is : IsSum entries words sum.entry sum.place number sum.strokes

-- no open hit that finishes has the number
abbrev pub HasNoSum : List (List ℕ) → List (List ℕ) → ℕ → Type 0
HasNoSum entries words number = (e place k : ℕ) (z : List ℕ) → IsOpenNumber entries words e place number k z → ⊥

-- some does
pub record HasOpenNumber (entries words : List (List ℕ)) (number : ℕ) : Type 0 where
  pub entry : ℕ
  pub place : ℕ
  pub moves : ℕ
  pub z : List ℕ
  pub is : IsOpenNumber entries words entry place number moves z

-- ---- the numbers below a bound

abbrev pub HasNoSumBelow : List (List ℕ) → List (List ℕ) → ℕ → ℕ → ℕ → Type 0
HasNoSumBelow entries words e place bound =
    (number k : ℕ) (z : List ℕ) → number < bound → IsOpenNumber entries words e place number k z → ⊥

pub record IsFirstSum (entries words : List (List ℕ)) (e place bound word : ℕ) : Type 0 where
  pub number : ℕ
  pub n : ℕ
  pub below : number < bound
  pub is : IsSum entries words e place number n
  pub word_is : word ≡ hit_word n number
  pub least : (other k : ℕ) (y : List ℕ) → other < bound → IsOpenNumber entries words e place other k y
      → word ≤ hit_word (k + length y) other

abbrev pub IsFirstSumOf : List (List ℕ) → List (List ℕ) → ℕ → ℕ → ℕ → ℕ → Type 0
IsFirstSumOf entries words e place bound word =
    (HasNoSumBelow entries words e place bound × (word ≡ unreached))
    ⊎ IsFirstSum entries words e place bound word

pub record AreFirstSums (entries words : List (List ℕ)) (bound : ℕ) (least : List ℕ) : Type 0 where
  pub count : length least ≡ first_slot entries (length entries)
  pub each : (e place : ℕ) → IsInside entries e place
      → IsFirstSumOf entries words e place bound (get_or least (slot_of entries e place) 0)
