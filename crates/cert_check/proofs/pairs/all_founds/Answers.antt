use Rattle.std.proofs.Common.{◌∙◌, ap, arith}
use Rattle.cert_check.specs.inside.LeastDistances.{founds_in}
use Rattle.cert_check.proofs.FoundLemmas.{founds_entry, pairs_all}
use Rattle.cert_check.proofs.pairs.all_founds.Goals as goal

pub loop-entry-preserved : goal.loop-entry-preserved
loop-entry-preserved c = record {
  fits = omega (arith, c.loop-entry-test.true, c.entry_count-entry-end.ensures.count);
  founds = founds_entry c.args.stack.now.outlines c.args.slots.now c.loop-entry.entry c.loop-entry.founds.items c.push_founds.new.founds.items (omega (arith, c.loop-entry-test.true, c.entry_count-entry-end.ensures.count)) c.in_ok-push_founds.ensures c.loop-entry.invariant.founds;
}

pub returns : goal.returns
returns c = c.loop-entry.invariant.founds ∙ ap (founds_in c.args.stack.now.outlines c.args.slots.now) (pairs_all c.args.stack.now.outlines c.loop-entry.entry (omega (arith, c.loop-entry-test.false, c.entry_count-entry-end.ensures.count)))
