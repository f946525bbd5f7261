use Rattle.std.proofs.Common.{◌∙◌, arith, refl}
use Rattle.outside.proofs.Known.{append_known-more}
use Rattle.outside.proofs.writing.write_all.Goals as goal

pub loop-done-preserved : goal.loop-done-preserved
loop-done-preserved g c =
    let taken = c.in_ok-done.ensures.taken in
    record {
      within = grind (arith, taken);
      text = append_known-more _ _ _ _ _ _ c.loop-done.invariant.text c.in_ok-done.ensures.appends;
      faults = c.in_ok-done.ensures.steady refl ∙ c.loop-done.invariant.faults;
    }
