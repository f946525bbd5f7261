use Rattle.std.proofs.lemmas.List.{get_or_default}
use Rattle.certificate_laws.specs.Closures.{closure_of}
use Rattle.cert_check.proofs.RowLoop.{rows_next, rows_stop}
use Rattle.cert_check.proofs.rows.read_rows.Goals as goal

pub loop-found-preserved : goal.loop-found-preserved
loop-found-preserved g c =
    rows_next (closure_of c.args.stack.now.outlines c.args.stack.now.words) c.args.reader.now c.loop-found.reader c.read_row.new.reader (g.F.Files.view c.args.files.now) (g.F.Files.view c.loop-found.files) (g.F.Files.view c.read_row.new.files) c.args.founds.now c.loop-found.found-index _
    c.loop-found.invariant c.loop-found-test.true (get_or_default c.args.founds.now c.loop-found.found-index _ _ c.loop-found-test.true) c.in-Ok.ensures.limit c.in-Ok.ensures.takes c.in-Ok.ensures.read

pub returns-in-Err-clause-err : goal.returns-in-Err-clause-err
returns-in-Err-clause-err g c =
    rows_stop (closure_of c.args.stack.now.outlines c.args.stack.now.words) c.args.reader.now c.loop-found.reader (g.F.Files.view c.args.files.now) (g.F.Files.view c.loop-found.files) c.args.founds.now c.loop-found.found-index _ c.in-Err.fault
    c.loop-found.invariant c.loop-found-test.true (get_or_default c.args.founds.now c.loop-found.found-index _ _ c.loop-found-test.true) c.in-Err.ensures.err
