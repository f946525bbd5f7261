use Rattle.std.proofs.Common.{All, sym, subst, map}
use Rattle.std.proofs.lemmas.List.Elements.{All-push}
use Rattle.std.proofs.lemmas.Result.{err_from_is_err_and}
use Rattle.serde_json.specs.View.{view}
use Rattle.report_json.specs.JsonReports.{IsJsonRow, row_value}
use Rattle.report_json.proofs.Refusals.{exit_by, next_has, next_made}
use Rattle.report_json.proofs.reading.rows_of.Goals as goal

pub loop-value-preserved : goal.loop-value-preserved
loop-value-preserved c =
    let items = c.in_ok-push.ensures.items in
    record {
      ok = next_made view row_value c.args.values.now c.loop-value.value-index c.value-item.result c.loop-value.rows.items _ c.in_ok-row_in.field-0 c.loop-value-test.true c.value-item.is c.loop-value.invariant.ok c.in_ok-row_in.ensures.ok items;
      are = subst (All IsJsonRow) (sym items) (All-push IsJsonRow _ _ c.loop-value.invariant.are c.in_ok-row_in.ensures.is_row);
    }

pub returns-in_err-row_in-clause-err : goal.returns-in_err-row_in-clause-err
returns-in_err-row_in-clause-err c =
    let p = err_from_is_err_and c.from_residual-in_err-row_in.result c.from_residual-in_err-row_in.ensures.1 in
    exit_by IsJsonRow (All IsJsonRow) row_value (map row_value) (view c.value-item.result) (map view c.args.values.now) _ p.0 _ p.1 p.2
    (next_has IsJsonRow view row_value c.args.values.now c.loop-value.value-index c.value-item.result c.loop-value-test.true c.value-item.is) c.in_err-row_in.ensures.err
