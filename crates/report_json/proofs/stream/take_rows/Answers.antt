use Rattle.std.proofs.Common.{All, ap, arith, length, subst, sym}
use Rattle.std.proofs.lemmas.List.Elements.{All-push}
use Rattle.report_json.specs.JsonReports.{IsJsonRow}
use Rattle.report_json.specs.inside.Tokens.{row_tokens}
use Rattle.report_json.proofs.TokensTaken.{longer_row, one_more}
use Rattle.report_json.proofs.stream.take_rows.Goals as goal

pub rows-smaller : goal.rows-smaller
rows-smaller c = omega (arith, longer_row c.in_ok-take_row.field-0 c.take_row.new.reader, ap length c.in_ok-take_row.ensures.taken, ap length c.rows-test.ensures.1)

pub rows-preserved : goal.rows-preserved
rows-preserved c =
    let items = c.in_ok-push.ensures.items in
    record {
      taken = one_more row_tokens c.rows.rows.items _ c.in_ok-take_row.field-0 c.args.reader.now c.rows.reader c.take_end_array.new.self c.take_row.new.reader c.rows.invariant.taken c.rows-test.ensures.1 c.in_ok-take_row.ensures.taken items;
      are = subst (All IsJsonRow) (sym items) (All-push IsJsonRow _ _ c.rows.invariant.are c.in_ok-take_row.ensures.is_row);
    }
