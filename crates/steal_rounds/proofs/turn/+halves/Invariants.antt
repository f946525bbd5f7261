use Rattle.std.proofs.Common.{length, ◌+◌, ◌*◌, max}
use Rattle.steal_rounds.proofs.turn.+halves.Given as goal

abbrev pub decreases-turn_both-left : goal.decreases-turn_both-left
decreases-turn_both-left g l = 4 * length l.low.now + 1

abbrev pub decreases-turn_both-right : goal.decreases-turn_both-right
decreases-turn_both-right g l = 4 * length l.high.now + 1

abbrev pub decreases-turn_all : goal.decreases-turn_all
decreases-turn_all g l = 4 * length l.crew.now

abbrev pub decreases-turn_both : goal.decreases-turn_both
decreases-turn_both g l = 4 * max (length l.low.now) (length l.high.now) + 2
