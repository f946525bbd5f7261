use Rattle.std.proofs.Common.{arith, ◌∙◌, ◌+◌}
use Rattle.certificate.specs.declared.lines.CertLine.TheVariants as of
use Rattle.certificate.specs.Readers.{BeginsBad}
use Rattle.report.specs.declared.faults.Why.TheVariants as why
use Rattle.cert_check.proofs.RowLoop.{next_end, end_missing, end_wrong, end_done, end_rest, end_long, some_next, gives_some, gives_none, begins_bad, begins_long}
use Rattle.std.proofs.Common.{◌-◌, inl, inr}
use Rattle.cert_check.proofs.UpperLoop.{if_some}
use Rattle.cert_check.proofs.rows.read_end.Goals as goal

pub returns-in-Ok-None-clause-read : goal.returns-in-Ok-None-clause-read
returns-in-Ok-None-clause-read g c closure all bytes at =
    let e = c.in-Ok.ensures in
    let next = next_end closure all bytes c.args.reader.now.given c.required_line.new.reader.given c.args.reader.now.lines c.in-Ok.line _ _ at e.line.split e.line.fit e.line.given (let w = e.line.within in let l = e.limit in let m = c.requires.limit in omega (arith, w, l, m)) in
    end_done closure bytes c.required_line.new.reader.given c.args.reader.now.lines c.in-Ok.line _ next c.in-End.is (gives_none _ _ _ _ _ c.in-Ok-None.field-0-is c.in-Ok-None.ensures.answer)

pub returns-in-Err-clause-err : goal.returns-in-Err-clause-err
returns-in-Err-clause-err g c closure all bytes at = end_missing closure all bytes c.args.reader.now.given c.args.reader.now.limit c.args.reader.now.lines _ c.in-Err.fault at c.requires.limit c.in-Err.ensures.none

pub returns-in_default : goal.returns-in_default
returns-in_default g c = record {
  read = tt;
  err = λ closure all bytes at.
      let e = c.in-Ok.ensures in
      let next = next_end closure all bytes c.args.reader.now.given c.required_line.new.reader.given c.args.reader.now.lines c.in-Ok.line _ _ at e.line.split e.line.fit e.line.given (let w = e.line.within in let l = e.limit in let m = c.requires.limit in omega (arith, w, l, m)) in
      end_wrong closure bytes c.required_line.new.reader.given c.args.reader.now.lines c.lines.result c.in-Ok.line _ next c.in_default.not-End (c.lines.ensures.lines ∙ e.line.lines);
  takes = c.in-Ok.ensures.takes;
}

pub returns-in-Err-TooLong-clause-err : goal.returns-in-Err-TooLong-clause-err
returns-in-Err-TooLong-clause-err g c closure all bytes at =
    let e = c.in-Ok.ensures in
    let next = next_end closure all bytes c.args.reader.now.given c.required_line.new.reader.given c.args.reader.now.lines c.in-Ok.line _ _ at e.line.split e.line.fit e.line.given (let w = e.line.within in let l = e.limit in let m = c.requires.limit in omega (arith, w, l, m)) in
    end_long closure bytes c.required_line.new.reader.given c.required_line.new.reader.limit c.args.reader.now.lines c.in-Ok.line _ next c.in-End.is (e.limit ∙ c.requires.limit) (begins_long _ _ _ _ c.in-Err-TooLong.field-0-is c.in-Err-TooLong.ensures.fault)

pub returns-in-Ok-Some-clause-err : goal.returns-in-Ok-Some-clause-err
returns-in-Ok-Some-clause-err g c closure all bytes at =
    let e = c.in-Ok.ensures in
    let next = next_end closure all bytes c.args.reader.now.given c.required_line.new.reader.given c.args.reader.now.lines c.in-Ok.line _ _ at e.line.split e.line.fit e.line.given (let w = e.line.within in let l = e.limit in let m = c.requires.limit in omega (arith, w, l, m)) in
    end_rest closure bytes c.required_line.new.reader.given c.required_line.new.reader.limit c.args.reader.now.lines (c.lines-next.result + 1) c.in-Ok.line _ next c.in-End.is (e.limit ∙ c.requires.limit) (let a = c.lines-next.ensures.lines in let b = e.line.lines in omega (arith, a, b))
    (λ rest is. inl (some_next _ _ _ _ _ rest (gives_some _ _ _ _ _ _ c.in-Ok-Some.field-0-is c.in-Ok-Some.ensures.answer) is (c.line.ensures.limit ∙ (e.limit ∙ c.requires.limit))))

pub returns-in-Err-Bad-clause-err : goal.returns-in-Err-Bad-clause-err
returns-in-Err-Bad-clause-err g c closure all bytes at =
    let e = c.in-Ok.ensures in
    let next = next_end closure all bytes c.args.reader.now.given c.required_line.new.reader.given c.args.reader.now.lines c.in-Ok.line _ _ at e.line.split e.line.fit e.line.given (let w = e.line.within in let l = e.limit in let m = c.requires.limit in omega (arith, w, l, m)) in
    end_rest closure bytes c.required_line.new.reader.given c.required_line.new.reader.limit c.args.reader.now.lines (c.lines-next.result + 1) c.in-Ok.line _ next c.in-End.is (e.limit ∙ c.requires.limit) (let a = c.lines-next.ensures.lines in let b = e.line.lines in omega (arith, a, b))
    (λ rest is. inr (if_some _ rest (BeginsBad (c.required_line.new.reader.limit - c.required_line.new.reader.given)) is (begins_bad _ _ _ _ _ c.in-Err-Bad.field-0-is c.in-Err-Bad.ensures.fault)))
