use Rattle.std.proofs.Common.{take}
use Rattle.steal_rounds.proofs.Spreads.{Working}
use Rattle.steal_rounds.proofs.alone.spread_gated.Given as goal

abbrev pub invariant-loop-place : goal.invariant-loop-place
invariant-loop-place g l = Working l.table l.distance l.frontier (take l.place l.frontier) l.initial.pass l.pass l.initial.notes.items l.notes.items l.moves
