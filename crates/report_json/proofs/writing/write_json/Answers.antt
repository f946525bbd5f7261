use Rattle.std.proofs.Common.{[], ◌++◌, sym, append-nil, drop, false}
use Rattle.std.specs.Prelude.{codes}
use Rattle.std.proofs.lemmas.Result.{err_from_is_err_and}
use Rattle.serde_json.specs.Written.{compact_text}
use Rattle.pages.proofs.PageSteps.{adding_all, adding_as, adding_more, adding_pushed, adds_early, adds_memory, puts_early, puts_last}
use Rattle.report_json.specs.inside.Rests.{rest_value, rows_left}
use Rattle.report_json.proofs.RowTexts.{json_puts}
use Rattle.report_json.proofs.writing.write_json.Goals as goal

pub returns-in_err-write_items : goal.returns-in_err-write_items
returns-in_err-write_items g c =
    let front = codes "{\"conflicts\":[" in
    let rows = rows_left false c.rows.result.now in
    let rest = codes "]," ++ drop 1 (compact_text (rest_value c.args.report.now)) in
    let p = err_from_is_err_and c.from_residual-in_err-write_items.result c.from_residual-in_err-write_items.ensures.1 in
    let adds = adds_early _ _ _ (rows ++ rest) rows rest _ _ p.0 (adding_all _ (rows ++ rest)) c.in_err-write_items.ensures p.1 p.2 in
    json_puts c.args.report.now c.rows.result.now _ _ _ _ _ c.rows.ensures (puts_early _ _ front (rows ++ rest) _ p.0 c.in_ok-page.ensures p.1 adds)

pub returns-in_err-push_rest : goal.returns-in_err-push_rest
returns-in_err-push_rest g c =
    let front = codes "{\"conflicts\":[" in
    let rows = rows_left false c.rows.result.now in
    let rest = codes "]," ++ drop 1 (compact_text (rest_value c.args.report.now)) in
    let p = err_from_is_err_and c.from_residual-in_err-push_rest.result c.from_residual-in_err-push_rest.ensures.1 in
    let left = adding_more _ _ _ (rows ++ rest) rows rest tt (adding_all _ (rows ++ rest)) c.in_ok-write_items.ensures in
    let adds = adds_memory _ _ c.push_rest.new.page.items (rows ++ rest) rest _ p.0 left p.1 p.2 in
    json_puts c.args.report.now c.rows.result.now _ _ _ _ _ c.rows.ensures (puts_early _ _ front (rows ++ rest) _ p.0 c.in_ok-page.ensures p.1 adds)

pub returns : goal.returns
returns g c =
    let front = codes "{\"conflicts\":[" in
    let rows = rows_left false c.rows.result.now in
    let rest = codes "]," ++ drop 1 (compact_text (rest_value c.args.report.now)) in
    let left = adding_more _ _ _ (rows ++ rest) rows rest tt (adding_all _ (rows ++ rest)) c.in_ok-write_items.ensures in
    let none = adding_pushed _ _ c.push_rest.new.page.items (rows ++ rest) rest [] (adding_as _ _ (rows ++ rest) rest (rest ++ []) (sym (append-nil rest)) left) c.in_ok-push_rest.ensures in
    json_puts c.args.report.now c.rows.result.now _ _ _ _ _ c.rows.ensures (puts_last _ _ _ front _ _ (rows ++ rest) _ c.in_ok-page.ensures c.deref.ensures.value none c.write_all.ensures)
