use Rattle.std.proofs.Common.{ap, subst, sym, ◌∙◌}
use Rattle.certificate.specs.Readers.{ahead}
use Rattle.report.specs.declared.faults.Why.TheVariants as why
use Rattle.certificate_laws.specs.Checks.{rejected}
use Rattle.cert_upgrade.specs.inside.Stages.{AreRowsRead}
use Rattle.cert_upgrade.proofs.AddedLines.{on_result}
use Rattle.cert_upgrade.proofs.RowReading.{row_fails, row_missing, row_on}
use Rattle.cert_upgrade.proofs.rows.read_row.Goals as goal
use Rattle.cert_upgrade.proofs.rows.read_row.Goals.{in-Err-push, in-Ok-push}

pub returns-in-Err-clause-err : goal.returns-in-Err-clause-err
returns-in-Err-clause-err g c bytes n left at = row_missing bytes c.args.reader.now (g.F.Files.view c.args.files.now) c.args.lines.now.items n left c.in-Err.fault at c.requires.limit c.in-Err.ensures.none

pub returns-then-not-is_row-clause-err : goal.returns-then-not-is_row-clause-err
returns-then-not-is_row-clause-err g c bytes n left at =
    row_fails bytes c.args.reader.now c.required_line.new.reader (g.F.Files.view c.args.files.now) (g.F.Files.view c.required_line.new.files) c.args.lines.now.items n left c.in-Ok.line at c.in-Ok.ensures.line (c.in-Ok.ensures.limit ∙ c.requires.limit) (sym c.if-not-is_row.ensures)
    ∙ ap (λ k. rejected k why.Form) (sym c.lines.ensures.lines)

pub returns-clause-read : goal.returns-clause-read
returns-clause-read g c = elim c.match-push.branch [
  | in-Ok-push w ↦ on_result c.match-push.result _ _ w.result-is (λ bytes n left at.
      subst (λ ls. AreRowsRead bytes c.required_line.new.reader.given ls n left c.required_line.new.reader.lines (ahead c.required_line.new.reader (g.F.Files.view c.required_line.new.files))) (sym w.in-Ok-push.ensures.items)
      (row_on bytes c.args.reader.now c.required_line.new.reader (g.F.Files.view c.args.files.now) (g.F.Files.view c.required_line.new.files) c.args.lines.now.items n left c.in-Ok.line at c.in-Ok.ensures.line (c.in-Ok.ensures.limit ∙ c.requires.limit) (sym c.if-not-is_row.ensures)))
  | in-Err-push w ↦ on_result c.match-push.result _ _ w.result-is tt
]
