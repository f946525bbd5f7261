use Rattle.std.proofs.Common.{◌≡◌, ◌+◌, ◌-◌, ◌/◌, length}
use Rattle.dist_table.specs.Tables.{TableView, PassView}
use Rattle.steal_rounds.specs.inside.Records.{AreBlank, AreIdle}
use Rattle.steal_rounds.proofs.Makes.{Offering}
use Rattle.steal_rounds.proofs.make.offer_all.Given as goal

abbrev pub invariant-loop-batch : goal.invariant-loop-batch
invariant-loop-batch l = record {
  count : length l.crew.items ≡ length l.initial.crew.items;
  blank : (t : TableView) (p : PassView) → AreBlank t p l.initial.crew.items → AreBlank t p l.crew.items;
  idle : AreIdle l.initial.crew.items → AreIdle l.crew.items;
  offering : Offering l.workers ((l.batches - 1) / l.workers + 1) l.batch l.crew.items;
}
