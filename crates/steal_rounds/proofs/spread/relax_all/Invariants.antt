use Rattle.std.proofs.Common.{drop}
use Rattle.graph_rules.specs.Graphs.{row}
use Rattle.steal_rounds.proofs.Spreads.{Spreading}
use Rattle.steal_rounds.proofs.spread.relax_all.Given as goal

abbrev pub invariant-loop-target : goal.invariant-loop-target
invariant-loop-target g l = Spreading l.table l.distance l.state l.initial.pass l.pass l.initial.notes.items l.notes.items (row l.table.lists l.state) (drop l.target-index l.targets) l.target-index
