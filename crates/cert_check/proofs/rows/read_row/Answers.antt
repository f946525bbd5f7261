use Rattle.std.proofs.Common.{arith, subst, sym, ◌∙◌}
use Rattle.certificate.specs.declared.lines.CertLine.TheVariants as of
use Rattle.cert_check.specs.inside.Founds.{AtRows}
use Rattle.certificate.specs.Readers.{ahead}
use Rattle.certificate_laws.specs.Closures.{closure_of}
use Rattle.report.specs.declared.faults.Why.TheVariants as why
use Rattle.cert_check.proofs.RowLoop.{next_row, row_on, row_wrong, row_missing_form, row_missing, row_test}
use Rattle.cert_check.proofs.rows.read_row.Goals as goal

pub returns-in-Ok-true-clause-read : goal.returns-in-Ok-true-clause-read
returns-in-Ok-true-clause-read g c all bytes others at =
    let e = c.in-Ok.ensures in
    let next = next_row (closure_of c.args.stack.now.outlines c.args.stack.now.words) all bytes c.args.reader.now.given c.required_line.new.reader.given c.args.reader.now.lines c.args.found others c.in-Ok.line _ _ at e.line.split e.line.fit e.line.given
    (let w = e.line.within in let l = e.limit in let m = c.requires.limit in omega (arith, w, l, m)) in
    subst (λ k. AtRows (closure_of c.args.stack.now.outlines c.args.stack.now.words) all bytes c.required_line.new.reader.given k others (ahead c.required_line.new.reader (g.F.Files.view c.required_line.new.files))) (sym e.line.lines)
    (row_on (closure_of c.args.stack.now.outlines c.args.stack.now.words) all bytes c.required_line.new.reader.given c.args.reader.now.lines next.0 next.1 c.args.found others c.in-Ok.line c.in-Row.conflict _ next.2 c.in-Row.is c.in-Ok-true.field-0 c.in-Ok-true.field-0-test
    (row_test c.args.stack.now.outlines c.args.stack.now.words all bytes c.required_line.new.reader.given c.args.reader.now.lines next.0 next.1 c.args.found others c.in-Ok.line c.in-Row.conflict _ c.in-Ok-true.field-0 next.2 c.in-Ok-true.ensures))

pub returns-in-Err-clause-err : goal.returns-in-Err-clause-err
returns-in-Err-clause-err g c all bytes others at =
    row_missing (closure_of c.args.stack.now.outlines c.args.stack.now.words) all bytes c.args.reader.now.given c.args.reader.now.limit c.args.reader.now.lines c.args.found others _ c.in-Err.fault at c.requires.limit c.in-Err.ensures.none

pub returns-in_default : goal.returns-in_default
returns-in_default g c =
    let e = c.in-Ok.ensures in
    record {
      read = tt;
      limit = e.limit;
      err = λ all bytes others at.
          let next = next_row (closure_of c.args.stack.now.outlines c.args.stack.now.words) all bytes c.args.reader.now.given c.required_line.new.reader.given c.args.reader.now.lines c.args.found others c.in-Ok.line _ _ at e.line.split e.line.fit e.line.given
          (let w = e.line.within in let l = e.limit in let m = c.requires.limit in omega (arith, w, l, m)) in
          row_missing_form (closure_of c.args.stack.now.outlines c.args.stack.now.words) all bytes c.required_line.new.reader.given c.args.reader.now.lines c.lines.result next.0 next.1 c.args.found others c.in-Ok.line _ next.2 c.in_default.not-Row (c.lines.ensures.lines ∙ e.line.lines);
      takes = e.takes;
    }

pub returns-in-Ok-false-clause-err : goal.returns-in-Ok-false-clause-err
returns-in-Ok-false-clause-err g c all bytes others at =
    let e = c.in-Ok.ensures in
    let next = next_row (closure_of c.args.stack.now.outlines c.args.stack.now.words) all bytes c.args.reader.now.given c.required_line.new.reader.given c.args.reader.now.lines c.args.found others c.in-Ok.line _ _ at e.line.split e.line.fit e.line.given
    (let w = e.line.within in let l = e.limit in let m = c.requires.limit in omega (arith, w, l, m)) in
    row_wrong (closure_of c.args.stack.now.outlines c.args.stack.now.words) all bytes c.required_line.new.reader.given c.args.reader.now.lines c.lines-in-Ok-false.result next.0 next.1 c.args.found others c.in-Ok.line c.in-Row.conflict _ next.2 c.in-Row.is c.in-Ok-false.field-0 c.in-Ok-false.field-0-test
    (row_test c.args.stack.now.outlines c.args.stack.now.words all bytes c.required_line.new.reader.given c.args.reader.now.lines next.0 next.1 c.args.found others c.in-Ok.line c.in-Row.conflict _ c.in-Ok-false.field-0 next.2 c.in-Ok-false.ensures) (c.lines-in-Ok-false.ensures.lines ∙ e.line.lines)
