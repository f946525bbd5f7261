use Rattle.std.proofs.Common.{take}
use Rattle.steal_rounds.specs.inside.Orders.{AreKeys}
use Rattle.steal_rounds.proofs.order.keys_of.Given as goal

abbrev pub invariant-loop-number : goal.invariant-loop-number
invariant-loop-number g l = AreKeys (g.G.StepGraph.has_rank l.graph) (take l.number-index l.frontier) l.keys.items
