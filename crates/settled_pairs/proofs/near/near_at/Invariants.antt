use Rattle.std.proofs.Common.{take}
use Rattle.settled_pairs.proofs.NearLemmas.{NearAmong}
use Rattle.settled_pairs.proofs.near.near_at.Given as goal

-- no child so far is nearer to a word
abbrev pub invariant-loop-pair : goal.invariant-loop-pair
invariant-loop-pair l = NearAmong l.near (take l.pair-index l.pair-items) l.least
