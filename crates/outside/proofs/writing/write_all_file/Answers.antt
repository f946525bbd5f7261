use Rattle.std.proofs.Common.{◌∙◌, arith, refl}
use Rattle.outside.proofs.Extended.{IfSome-Extends-more}
use Rattle.outside.proofs.writing.write_all_file.Goals as goal

pub loop-done-preserved : goal.loop-done-preserved
loop-done-preserved g c =
    let taken = c.in_ok-done.ensures.taken in
    record {
      within = grind (arith, taken);
      held = IfSome-Extends-more _ _ _ _ _ _ _ c.loop-done.invariant.held (rw c.loop-done.invariant.writing at c.in_ok-done.ensures.added);
      writing = c.put.ensures.writing ∙ c.loop-done.invariant.writing;
      opened = c.put.ensures.opened ∙ c.loop-done.invariant.opened;
      latest = c.in_ok-done.ensures.latest ∙ c.loop-done.invariant.latest;
      faults = c.in_ok-done.ensures.steady refl ∙ c.loop-done.invariant.faults;
    }
