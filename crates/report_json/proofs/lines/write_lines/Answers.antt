use Rattle.std.proofs.Common.{◌+◌, arith, drop, flat_map}
use Rattle.std.proofs.lemmas.List.{at_drop_all}
use Rattle.std.proofs.lemmas.Result.{err_from_is_err_and}
use Rattle.report_json.specs.JsonLines.{row_listing}
use Rattle.pages.proofs.PageSteps.{adding_more, adds_early, adds_whole, next_part}
use Rattle.report_json.proofs.lines.write_lines.Goals as goal

pub returns-in_err-write_row_lines : goal.returns-in_err-write_row_lines
returns-in_err-write_row_lines g c =
    let rows = c.args.rows.now in
    let i = c.loop-row.row-index in
    let row = c.row-item.result in
    let next = next_part row_listing rows i row row _ _ (omega arith) c.row-item.is c.loop-row.invariant in
    let p = err_from_is_err_and c.from_residual.result c.from_residual.ensures.1 in
    adds_early _ _ _ _ (row_listing row) (flat_map row_listing (drop (i + 1) rows)) _ _ p.0 next c.in_err-write_row_lines.ensures p.1 p.2

pub loop-row-preserved : goal.loop-row-preserved
loop-row-preserved g c =
    let rows = c.args.rows.now in
    let i = c.loop-row.row-index in
    let row = c.row-item.result in
    let next = next_part row_listing rows i row row _ _ (omega arith) c.row-item.is c.loop-row.invariant in
    adding_more _ _ _ _ (row_listing row) (flat_map row_listing (drop (i + 1) rows)) tt next c.in_ok-write_row_lines.ensures

pub returns : goal.returns
returns g c = adds_whole _ _ _ _ tt (at_drop_all (flat_map row_listing) c.args.rows.now c.loop-row.row-index (omega arith)) c.loop-row.invariant
