use Rattle.std.proofs.Common.{All, sym, subst, map}
use Rattle.std.proofs.lemmas.List.Elements.{All-push}
use Rattle.std.proofs.lemmas.Result.{err_from_is_err_and}
use Rattle.serde_json.specs.View.{view}
use Rattle.steno_rules.specs.Outlines.{IsOutline}
use Rattle.report_json.specs.JsonReports.{outline_value}
use Rattle.report_json.proofs.Refusals.{exit_by, next_has, next_made}
use Rattle.report_json.proofs.reading.outlines_in.Goals as goal

pub loop-value-preserved : goal.loop-value-preserved
loop-value-preserved c =
    let items = c.in_ok-push.ensures.items in
    record {
      ok = next_made view outline_value c.args.values.now c.loop-value.value-index c.value-item.result c.loop-value.outlines.items _ c.in_ok-outline_in.field-0 c.loop-value-test.true c.value-item.is c.loop-value.invariant.ok c.in_ok-outline_in.ensures.ok items;
      are = subst (All IsOutline) (sym items) (All-push IsOutline _ _ c.loop-value.invariant.are c.in_ok-outline_in.ensures.is_outline);
    }

pub returns-in_err-outline_in-clause-err : goal.returns-in_err-outline_in-clause-err
returns-in_err-outline_in-clause-err c =
    let p = err_from_is_err_and c.from_residual-in_err-outline_in.result c.from_residual-in_err-outline_in.ensures.1 in
    exit_by IsOutline (All IsOutline) outline_value (map outline_value) (view c.value-item.result) (map view c.args.values.now) _ p.0 _ p.1 p.2
    (next_has IsOutline view outline_value c.args.values.now c.loop-value.value-index c.value-item.result c.loop-value-test.true c.value-item.is) c.in_err-outline_in.ensures.err
