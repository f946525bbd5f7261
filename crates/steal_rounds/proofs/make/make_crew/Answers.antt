use Rattle.std.proofs.Common.{◌∙◌}
use Rattle.steal_rounds.proofs.make.make_crew.Goals as goal

pub returns-clause-made : goal.returns-clause-made
returns-clause-made g c =
    let b = c.in_ok-crew.ensures in let o = c.offer_all.ensures in let h = c.in_ok-hire_all.ensures in
    record {
      count = h.count ∙ o.count ∙ b.count;
      blank = h.blank c.args.table.now c.args.pass.now (o.blank c.args.table.now c.args.pass.now b.fresh.0);
      offered = h.offered c.args.batches o.offered;
      held = h.held;
    }
