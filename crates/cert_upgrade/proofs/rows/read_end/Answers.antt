use Rattle.std.proofs.Common.{◌+◌, ◌∙◌, ap, sym}
use Rattle.report.specs.declared.faults.Why.TheVariants as why
use Rattle.certificate_laws.specs.Checks.{rejected}
use Rattle.cert_check.proofs.RowLoop.{begins_bad, begins_long, gives_none, gives_some}
use Rattle.cert_upgrade.proofs.RowReading.{end_done, end_fails, end_missing, rest_bad, rest_line, rest_long}
use Rattle.cert_upgrade.proofs.rows.read_end.Goals as goal

pub returns-in-Ok-None-clause-read : goal.returns-in-Ok-None-clause-read
returns-in-Ok-None-clause-read g c bytes lines n at =
    end_done bytes c.args.reader.now c.required_line.new.reader (g.F.Files.view c.args.files.now) (g.F.Files.view c.required_line.new.files) lines n c.in-Ok.line at c.in-Ok.ensures.line (c.in-Ok.ensures.limit ∙ c.requires.limit) c.in-End.is
    (gives_none _ _ _ _ _ c.in-Ok-None.field-0-is c.in-Ok-None.ensures.answer)

pub returns-in-Err-clause-err : goal.returns-in-Err-clause-err
returns-in-Err-clause-err g c bytes lines n at = end_missing bytes c.args.reader.now (g.F.Files.view c.args.files.now) lines n c.in-Err.fault at c.requires.limit c.in-Err.ensures.none

pub returns-in_default-clause-err : goal.returns-in_default-clause-err
returns-in_default-clause-err g c bytes lines n at =
    end_fails bytes c.args.reader.now c.required_line.new.reader (g.F.Files.view c.args.files.now) (g.F.Files.view c.required_line.new.files) lines n c.in-Ok.line at c.in-Ok.ensures.line (c.in-Ok.ensures.limit ∙ c.requires.limit) c.in_default.not-End
    ∙ ap (λ k. rejected k why.Form) (sym c.lines.ensures.lines)

pub returns-in-Err-TooLong-clause-err : goal.returns-in-Err-TooLong-clause-err
returns-in-Err-TooLong-clause-err g c bytes lines n at =
    rest_long bytes c.args.reader.now c.required_line.new.reader (g.F.Files.view c.args.files.now) (g.F.Files.view c.required_line.new.files) lines n c.in-Ok.line at c.in-Ok.ensures.line (c.in-Ok.ensures.limit ∙ c.requires.limit) c.in-End.is
    (begins_long _ _ _ _ c.in-Err-TooLong.field-0-is c.in-Err-TooLong.ensures.fault)

pub returns-in-Ok-Some-clause-err : goal.returns-in-Ok-Some-clause-err
returns-in-Ok-Some-clause-err g c bytes lines n at =
    rest_line bytes c.args.reader.now c.required_line.new.reader (g.F.Files.view c.args.files.now) (g.F.Files.view c.required_line.new.files) lines n c.in-Ok.line at c.in-Ok.ensures.line (c.in-Ok.ensures.limit ∙ c.requires.limit) c.line.new.self (g.F.Files.view c.line.new.files) _ _ c.in-End.is
    (ap (λ k. k + 1) c.lines-next.ensures.lines) (gives_some _ _ _ _ _ _ c.in-Ok-Some.field-0-is c.in-Ok-Some.ensures.answer) (c.line.ensures.limit ∙ (c.in-Ok.ensures.limit ∙ c.requires.limit))

pub returns-in-Err-Bad-clause-err : goal.returns-in-Err-Bad-clause-err
returns-in-Err-Bad-clause-err g c bytes lines n at =
    rest_bad bytes c.args.reader.now c.required_line.new.reader (g.F.Files.view c.args.files.now) (g.F.Files.view c.required_line.new.files) lines n c.in-Ok.line at c.in-Ok.ensures.line (c.in-Ok.ensures.limit ∙ c.requires.limit) _ c.in-End.is
    (ap (λ k. k + 1) c.lines-next.ensures.lines) (begins_bad _ _ _ _ _ c.in-Err-Bad.field-0-is c.in-Err-Bad.ensures.fault)
