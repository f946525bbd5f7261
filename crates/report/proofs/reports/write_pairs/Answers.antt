use Rattle.std.proofs.Common.{[], ◌++◌, sym, append-nil}
use Rattle.std.proofs.lemmas.Result.{err_from_is_err_and}
use Rattle.report.specs.Reports.{head_text, rows_text, skipped_text}
use Rattle.pages.proofs.PageSteps.{adding_all, adding_as, adding_more, adds_early, puts_early, puts_last}
use Rattle.report.proofs.reports.write_pairs.Goals as goal

pub returns-in_err-write_skipped : goal.returns-in_err-write_skipped
returns-in_err-write_skipped g c =
    let keys = skipped_text c.args.stack.now in
    let rows = rows_text c.args.one.now c.args.stack.now c.args.rows.now in
    let p = err_from_is_err_and c.from_residual-in_err-write_skipped.result c.from_residual-in_err-write_skipped.ensures.1 in
    let adds = adds_early _ _ _ (keys ++ rows) keys rows _ _ p.0 (adding_all _ (keys ++ rows)) c.in_err-write_skipped.ensures p.1 p.2 in
    puts_early _ _ (head_text c.args.many.now c.args.stack.now c.args.summary.now) (keys ++ rows) _ p.0 c.in_ok-page.ensures p.1 adds

pub returns-in_err-write_indexed : goal.returns-in_err-write_indexed
returns-in_err-write_indexed g c =
    let keys = skipped_text c.args.stack.now in
    let rows = rows_text c.args.one.now c.args.stack.now c.args.rows.now in
    let p = err_from_is_err_and c.from_residual-in_err-write_indexed.result c.from_residual-in_err-write_indexed.ensures.1 in
    let left = adding_more _ _ _ (keys ++ rows) keys rows tt (adding_all _ (keys ++ rows)) c.in_ok-write_skipped.ensures in
    let adds = adds_early _ _ _ (keys ++ rows) rows [] _ _ p.0 (adding_as _ _ (keys ++ rows) rows (rows ++ []) (sym (append-nil rows)) left) c.in_err-write_indexed.ensures p.1 p.2 in
    puts_early _ _ (head_text c.args.many.now c.args.stack.now c.args.summary.now) (keys ++ rows) _ p.0 c.in_ok-page.ensures p.1 adds

pub returns : goal.returns
returns g c =
    let keys = skipped_text c.args.stack.now in
    let rows = rows_text c.args.one.now c.args.stack.now c.args.rows.now in
    let left = adding_more _ _ _ (keys ++ rows) keys rows tt (adding_all _ (keys ++ rows)) c.in_ok-write_skipped.ensures in
    let none = adding_more _ _ _ (keys ++ rows) rows [] tt (adding_as _ _ (keys ++ rows) rows (rows ++ []) (sym (append-nil rows)) left) c.in_ok-write_indexed.ensures in
    puts_last _ _ _ (head_text c.args.many.now c.args.stack.now c.args.summary.now) _ _ (keys ++ rows) _ c.in_ok-page.ensures c.deref.ensures.value none c.write_all.ensures
