use Rattle.std.proofs.Common.{◌-◌, length}
use Rattle.state_numbering.specs.inside.Blocks.{BeginsBy}
use Rattle.state_numbering.proofs.blocks.last_begun.Given as goal

abbrev pub invariant-loop-node : goal.invariant-loop-node
invariant-loop-node l = BeginsBy l.parts l.number l.node

abbrev pub decreases-loop-node : goal.decreases-loop-node
decreases-loop-node l = length l.parts - l.node
