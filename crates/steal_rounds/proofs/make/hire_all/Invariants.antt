use Rattle.std.proofs.Common.{◌≡◌, ◌≤◌, ℕ, length}
use Rattle.dist_table.specs.Tables.{TableView, PassView}
use Rattle.steal_rounds.specs.inside.Records.{AreBlank, AreHeld, AreOffered}
use Rattle.steal_rounds.proofs.make.hire_all.Given as goal

abbrev pub invariant-loop-victim : goal.invariant-loop-victim
invariant-loop-victim l = record {
  count : length l.crew.items ≡ length l.initial.crew.items;
  below : l.victim ≤ length l.crew.items;
  blank : (t : TableView) (p : PassView) → AreBlank t p l.initial.crew.items → AreBlank t p l.crew.items;
  offered : (b : ℕ) → AreOffered b l.initial.crew.items → AreOffered b l.crew.items;
  held : AreHeld l.victim 0 l.crew.items;
}

abbrev pub decreases-loop-victim : goal.decreases-loop-victim
decreases-loop-victim l = l.victim
