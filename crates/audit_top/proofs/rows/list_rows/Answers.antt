use Rattle.std.proofs.Common.{refl}
use Rattle.std.proofs.lemmas.Result.{err_from_is_err_and}
use Rattle.report_json.specs.JsonLines.{listing_text}
use Rattle.audit_top.specs.Listed.{IsListed}
use Rattle.audit_top.specs.Outcomes.{prints}
use Rattle.audit_top.specs.declared.status.Status.TheVariants.{Clean}
use Rattle.audit_top.proofs.Listing.{no-report, report-listed}
use Rattle.audit_top.proofs.Stops.{put-stopped, put-whole}
use Rattle.audit_top.proofs.rows.list_rows.Goals as goal

pub returns-in_err-report : goal.returns-in_err-report
returns-in_err-report g c =
    let p = err_from_is_err_and c.from_residual.result c.from_residual.ensures.1 in
    no-report c.args.bytes.now _ _ _ c.in_err-report.field-0.0 c.requires c.in_err-report.ensures.err p.1 p.2

pub returns-in_err-write_rows : goal.returns-in_err-write_rows
returns-in_err-write_rows g c =
    let p = err_from_is_err_and c.from_residual-in_err-write_rows.result c.from_residual-in_err-write_rows.ensures.1 in
    let may = report-listed c.args.bytes.now c.in_ok-report.report c.requires c.in_ok-report.ensures.ok c.in_ok-report.ensures.is_report in
    put-stopped (IsListed c.args.bytes.now) _ _ (prints Clean (listing_text c.in_ok-report.report)) _ _ p.0 may c.in_err-write_rows.ensures p.1 p.2

pub returns : goal.returns
returns g c =
    let may = report-listed c.args.bytes.now c.in_ok-report.report c.requires c.in_ok-report.ensures.ok c.in_ok-report.ensures.is_report in
    put-whole (IsListed c.args.bytes.now) _ _ (prints Clean (listing_text c.in_ok-report.report)) _ may refl refl c.in_ok-write_rows.ensures.all (c.in_ok-write_rows.ensures.steady refl)
