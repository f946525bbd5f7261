use Rattle.std.proofs.Common.{[], sym, append-nil, flat_map}
use Rattle.report_json.specs.JsonLines.{row_listing}
use Rattle.pages.proofs.PageSteps.{adding_all, adding_as, adding_more, puts_last}
use Rattle.report_json.proofs.RowAdded.{lines_put}
use Rattle.report_json.proofs.lines.write_rows.Goals as goal

pub returns : goal.returns
returns g c =
    let text = flat_map row_listing c.rows.result.now in
    let none = adding_more _ _ _ text text [] tt (adding_as _ _ text text _ (sym (append-nil text)) (adding_all _ text)) c.in_ok-write_lines.ensures in
    lines_put c.args.report.now c.rows.result.now _ _ _ _ _ c.rows.ensures (puts_last _ _ _ [] _ _ text _ c.in_ok-page.ensures c.deref.ensures.value none c.write_all.ensures)
