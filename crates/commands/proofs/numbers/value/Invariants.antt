use Rattle.std.proofs.Common.{◌≡◌, ◌≤◌, take}
use Rattle.text_rules.specs.Decimals.{digits_value}
use Rattle.commands.proofs.numbers.value.Given as goal

abbrev pub invariant-loop-byte : goal.invariant-loop-byte
invariant-loop-byte l = (l.value ≡ digits_value (take l.byte-index l.text)) × (l.value ≤ l.most)
