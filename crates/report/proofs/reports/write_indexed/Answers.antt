use Rattle.std.proofs.lemmas.Result.{err_from_is_err_and}
use Rattle.pages.proofs.PageSteps.{memory_first}
use Rattle.report.proofs.reports.write_indexed.Goals as goal

pub returns-in_err-index : goal.returns-in_err-index
returns-in_err-index g c =
    let p = err_from_is_err_and c.from_residual.result c.from_residual.ensures.1 in
    memory_first _ _ _ _ p.0 p.1 p.2
