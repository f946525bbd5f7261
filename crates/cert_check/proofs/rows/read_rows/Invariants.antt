use Rattle.std.proofs.Common.{drop}
use Rattle.certificate_laws.specs.Closures.{closure_of}
use Rattle.cert_check.proofs.RowLoop.{IsReadingRows}
use Rattle.cert_check.proofs.rows.read_rows.Given as goal

abbrev pub invariant-loop-found : goal.invariant-loop-found
invariant-loop-found g l = IsReadingRows (closure_of l.stack.outlines l.stack.words) l.fn.reader l.reader (g.F.Files.view l.fn.files) (g.F.Files.view l.files) l.founds (drop l.found-index l.founds)
