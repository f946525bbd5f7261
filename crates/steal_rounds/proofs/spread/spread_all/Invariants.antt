use Rattle.std.proofs.Common.{take}
use Rattle.steal_rounds.proofs.Spreads.{Working}
use Rattle.steal_rounds.proofs.spread.spread_all.Given as goal

abbrev pub invariant-loop-state : goal.invariant-loop-state
invariant-loop-state g l = Working l.table l.distance l.states (take l.state-index l.states) l.initial.pass l.pass l.initial.notes.items l.notes.items l.moves
