use Rattle.std.proofs.Common.{ap, arith, length}
use Rattle.conflict_example.proofs.rows.all_rows.Goals as goal

pub loop-entry-preserved : goal.loop-entry-preserved
loop-entry-preserved c = record {
  fits = omega (arith, ap length c.requires.entries);
  rows = c.in_ok-push_rows.ensures 0 (omega arith) c.loop-entry.invariant.rows;
}
