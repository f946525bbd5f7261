-- Bars between the parts of a line.
use Rattle.std.specs.Prelude.{ℕ, List, [], codes, nat_lt, if◌then◌else◌}

-- what stands before the part at a place: a bar, where it isn't the first
abbrev pub bar_at : ℕ → List ℕ
bar_at place = if nat_lt 0 place then (codes " | ") else []
