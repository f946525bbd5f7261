use Rattle.std.proofs.Common.{◌≡◌, ℕ, ◌<◌, [], get_or, map, string_bytes, false}
use Rattle.commands.specs.Reading.{is_dashes}
use Rattle.commands.proofs.typed.place_of_dashes.Given as goal

-- no argument so far is the dashes
abbrev pub invariant-loop-place : goal.invariant-loop-place
invariant-loop-place l = (k : ℕ) → k < l.place → is_dashes (get_or (map string_bytes l.args) k []) ≡ false
