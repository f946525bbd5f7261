use Rattle.std.proofs.Common.{arith}
use Rattle.conflict_example.proofs.Walks.{listing_more}
use Rattle.conflict_example.proofs.examples.walk_back.Goals as goal

pub loop-preserved : goal.loop-preserved
loop-preserved c =
    rw c.in_ok-push.ensures.items
    (listing_more c.args.words.now c.args.number c.args.distance c.loop.counter c.loop.at c.loop.path.items (omega arith) c.loop.invariant)
