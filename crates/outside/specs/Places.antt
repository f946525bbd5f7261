-- Names that were opened and written, and where the latest fault was.
use Rattle.std.specs.Prelude.{ℕ, ◌+◌, ◌-◌, ◌^◌, min, List, Option, None}
use Rattle.outside.specs.declared.fault.Way.{Way}

pub record PlacesView : Type 0 where
  -- the name last opened
  pub opened : Option (List ℕ)
  -- the name that is being written
  pub writing : Option (List ℕ)
  -- where the latest fault was
  pub latest : Option (List ℕ × Way)
  pub faults : ℕ

-- nothing was opened or is being written, and there was no fault
abbrev pub no_places : PlacesView
no_places = record { opened = None; writing = None; latest = None; faults = 0 }

-- one more, but for the last value of a count
abbrev pub raised : ℕ → ℕ
raised count = min (count + 1) (2 ^ 64 - 1)
