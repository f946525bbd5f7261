use Rattle.std.proofs.Common.{◌≡◌, length}
use Rattle.steal_rounds.specs.inside.Records.{AreBlank, AreIdle, HaveRoom}
use Rattle.steal_rounds.proofs.make.blank_crew.Given as goal

abbrev pub invariant-loop-worker : goal.invariant-loop-worker
invariant-loop-worker g l = record {
  same : l.pass ≡ l.initial.pass;
  count : length l.crew.items ≡ l.worker;
  fresh : AreBlank l.table l.initial.pass l.crew.items × AreIdle l.crew.items × HaveRoom l.room l.crew.items;
}
