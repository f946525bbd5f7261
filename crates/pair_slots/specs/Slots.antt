-- The slots of the pairs of an entry and an inner place, one after another by entry and then by place.
--     IsInside entries e place     the place lies strictly inside the entry
--     slot_of entries e place      the slot of the pair
--     AreStarts entries starts     where the slots of each entry begin
use Rattle.std.specs.Prelude.{ℕ, ◌≡◌, ◌+◌, ◌-◌, ◌<◌, ◌≤◌, List, length, take, sum_by, get_or}
use Rattle.steno_rules.specs.Outlines.{outline_of}

pub record IsInside (entries : List (List ℕ)) (e place : ℕ) : Type 0 where
  pub entry : e < length entries
  pub after_start : 0 < place
  pub before_end : place < length (outline_of entries e)

-- how many places lie inside an outline
abbrev pub inner_places : List ℕ → ℕ
inner_places outline = length outline - 1

-- the first slot of an entry; that of their number is the number of all slots
abbrev pub first_slot : List (List ℕ) → ℕ → ℕ
first_slot entries e = sum_by inner_places (take e entries)

abbrev pub slot_of : List (List ℕ) → ℕ → ℕ → ℕ
slot_of entries e place = first_slot entries e + (place - 1)

-- the first slot of each entry, and behind them the number of all slots
pub record AreStarts (entries : List (List ℕ)) (starts : List ℕ) : Type 0 where
  pub count : length starts ≡ length entries + 1
  pub each : (e : ℕ) → e ≤ length entries → get_or starts e 0 ≡ first_slot entries e
