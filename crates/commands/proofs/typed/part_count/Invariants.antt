use Rattle.std.proofs.Common.{◌≡◌, ◌≤◌, ◌+◌, take}
use Rattle.std.specs.Prelude.{count_by, ◌==◌}
use Rattle.commands.proofs.typed.part_count.Given as goal

-- one part, and one more for each of these bytes so far
abbrev pub invariant-loop-byte : goal.invariant-loop-byte
invariant-loop-byte l = (l.parts ≡ count_by (λ c. c == l.separator) (take l.byte-index l.text) + 1) × (l.parts ≤ l.byte-index + 1)
