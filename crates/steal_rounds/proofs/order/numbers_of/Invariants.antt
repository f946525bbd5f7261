use Rattle.std.proofs.Common.{◌≡◌, take, map}
use Rattle.steal_rounds.specs.inside.Orders.{low_half}
use Rattle.steal_rounds.proofs.order.numbers_of.Given as goal

abbrev pub invariant-loop-key : goal.invariant-loop-key
invariant-loop-key l = l.numbers.items ≡ map low_half (take l.key-index l.keys)
