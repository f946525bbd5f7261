use Rattle.std.proofs.Common.{◌≡◌, take, flat_map}
use Rattle.text_rules.specs.Quoted.{escaped}
use Rattle.pages.proofs.quoting.are_plain.Given as goal

-- the bytes so far stand as they are
abbrev pub invariant-loop-byte : goal.invariant-loop-byte
invariant-loop-byte l = flat_map escaped (take l.byte-index l.text) ≡ take l.byte-index l.text
