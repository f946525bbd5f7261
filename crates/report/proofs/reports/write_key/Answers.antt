use Rattle.std.proofs.lemmas.Result.{err_from_is_err_and}
use Rattle.pages.proofs.PageSteps.{line_added, memory_first}
use Rattle.report.proofs.reports.write_key.Goals as goal

pub returns-in_err-push_skipped : goal.returns-in_err-push_skipped
returns-in_err-push_skipped g c =
    let p = err_from_is_err_and c.from_residual.result c.from_residual.ensures.1 in
    memory_first _ _ _ _ p.0 p.1 p.2

pub returns : goal.returns
returns g c = line_added _ _ _ _ c.put_full.result c.in_ok-push_skipped.ensures c.put_full.ensures
