use Rattle.std.proofs.Common.{take}
use Rattle.steal_rounds.specs.inside.Records.{AreCollected}
use Rattle.steal_rounds.proofs.gather.collect.Given as goal

abbrev pub invariant-loop-member : goal.invariant-loop-member
invariant-loop-member l = AreCollected (take l.member-index l.crew) l.notes.items l.moves
