use Rattle.std.proofs.Common.{◌≡◌, ◌++◌, take, flat_map}
use Rattle.text_rules.specs.Quoted.{escaped}
use Rattle.pages.proofs.quoting.push_each.Given as goal

-- the bytes so far, each as it is written
abbrev pub invariant-loop-byte : goal.invariant-loop-byte
invariant-loop-byte l = l.text.items ≡ l.fn.text.items ++ flat_map escaped (take l.byte-index l.inner)
