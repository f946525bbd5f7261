use Rattle.std.proofs.Common.{◌≡◌, map, string_bytes, take, true}
use Rattle.std.specs.List.{list_all}
use Rattle.commands.specs.Commands.{is_spelt}
use Rattle.commands.proofs.typed.all_readable.Given as goal

-- each of the arguments so far
abbrev pub invariant-loop-arg : goal.invariant-loop-arg
invariant-loop-arg l = list_all is_spelt (take l.arg-index (map string_bytes l.args)) ≡ true
