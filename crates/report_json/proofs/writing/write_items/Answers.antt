use Rattle.std.proofs.Common.{◌+◌, List, arith, drop, nat_lt, false}
use Rattle.std.proofs.lemmas.List.{at_drop_all}
use Rattle.std.proofs.lemmas.Result.{err_from_is_err_and}
use Rattle.pages.proofs.PageSteps.{adding_as, adding_more, adds_early, adds_whole}
use Rattle.report_json.specs.JsonReports.{JsonRowView}
use Rattle.report_json.specs.inside.Rests.{item_text, rows_left}
use Rattle.report_json.proofs.RowTexts.{next_text}
use Rattle.report_json.proofs.writing.write_items.Goals as goal

pub loop-i-preserved : goal.loop-i-preserved
loop-i-preserved g c =
    let rows : List JsonRowView = c.args.rows.now in
    let i = c.loop-i.i in
    let row : JsonRowView = c.index-rows-i.result in
    adding_more _ _ _ (rows_left false rows) (item_text (nat_lt 0 i) row) (rows_left (nat_lt 0 (i + 1)) (drop (i + 1) rows)) tt
    (adding_as _ _ (rows_left false rows) (rows_left (nat_lt 0 i) (drop i rows)) _ (next_text rows i row row (omega arith) c.index-rows-i.is) c.loop-i.invariant) c.in_ok-write_row.ensures

pub returns-in_err-write_row : goal.returns-in_err-write_row
returns-in_err-write_row g c =
    let rows : List JsonRowView = c.args.rows.now in
    let i = c.loop-i.i in
    let row : JsonRowView = c.index-rows-i.result in
    let p = err_from_is_err_and c.from_residual.result c.from_residual.ensures.1 in
    adds_early _ _ _ (rows_left false rows) (item_text (nat_lt 0 i) row) (rows_left (nat_lt 0 (i + 1)) (drop (i + 1) rows)) _ _ p.0
    (adding_as _ _ (rows_left false rows) (rows_left (nat_lt 0 i) (drop i rows)) _ (next_text rows i row row (omega arith) c.index-rows-i.is) c.loop-i.invariant) c.in_err-write_row.ensures p.1 p.2

pub returns : goal.returns
returns g c = adds_whole _ _ _ _ tt (at_drop_all (rows_left (nat_lt 0 c.loop-i.i)) c.args.rows.now c.loop-i.i (omega arith)) c.loop-i.invariant
