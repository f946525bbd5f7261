use Rattle.std.proofs.Common.{All, sym, subst}
use Rattle.std.proofs.lemmas.List.Elements.{All-push}
use Rattle.report_json.specs.JsonReports.{IsJsonRow}
use Rattle.report_json.proofs.JsonRows.{next_rows}
use Rattle.report_json.proofs.making.rows.Goals as goal

pub loop-conflict-preserved : goal.loop-conflict-preserved
loop-conflict-preserved c =
    let items = c.in_ok-push.ensures.items in
    let row = c.in_ok-row.ensures in
    record {
      rows = next_rows c.args.outlines.now c.args.conflicts.now c.loop-conflict.conflict-index c.conflict-item.result _ _ _ c.loop-conflict-test.true c.conflict-item.is c.loop-conflict.invariant.rows row.row items;
      are_rows = subst (All IsJsonRow) (sym items) (All-push IsJsonRow _ _ c.loop-conflict.invariant.are_rows row.is_row);
    }
