use Rattle.std.proofs.Common.{subst, sym}
use Rattle.cert_check.specs.inside.Founds.{IsFoundListing}
use Rattle.cert_check.specs.inside.Uppers.{Represents}
use Rattle.certificate.specs.Readers.{OnlyTakes, ahead}
use Rattle.certificate_laws.specs.Checks.{Lines}
use Rattle.certificate_laws.specs.Closures.{closure_of}
use Rattle.cert_check.proofs.CheckLemmas.{listing_fault, to_rows, all_done}
use Rattle.cert_check.proofs.checking.check_lines.Goals as goal

pub returns-in-Err-check_listing-clause-fault : goal.returns-in-Err-check_listing-clause-fault
returns-in-Err-check_listing-clause-fault g c bytes announced =
    listing_fault (closure_of c.args.stack.now.outlines c.args.stack.now.words) bytes c.read_upper.new.reader.given c.in-Ok.read.0 c.in-Ok.read.1 (ahead c.read_upper.new.reader (g.F.Files.view c.read_upper.new.files)) c.in-Err-check_listing.fault (c.in-Ok.ensures.read bytes announced) c.in-Err-check_listing.ensures.err

pub returns-in-Err-check_listing-clause-takes : goal.returns-in-Err-check_listing-clause-takes
returns-in-Err-check_listing-clause-takes g c =
    subst (λ b. OnlyTakes b (g.F.Files.view c.args.files.now) (g.F.Files.view c.read_upper.new.files)) (sym c.in-Err-check_listing.ensures.calm) c.in-Ok.ensures.takes

pub returns-in-Err-read_rows-clause-fault : goal.returns-in-Err-read_rows-clause-fault
returns-in-Err-read_rows-clause-fault g c bytes announced =
    let rows = to_rows (closure_of c.args.stack.now.outlines c.args.stack.now.words) bytes c.read_upper.new.reader.given c.in-Ok.read.0 c.in-Ok.read.1 c.read_upper.new.reader.lines (ahead c.read_upper.new.reader (g.F.Files.view c.read_upper.new.files)) c.deref.result.now (c.in-Ok.ensures.read bytes announced) (subst (λ fs. (before : Lines) → Represents c.in-Ok.read.0 before → IsFoundListing (closure_of c.args.stack.now.outlines c.args.stack.now.words) before c.in-Ok.read.1 fs) (sym c.deref.ensures.value) c.in-Ok-check_listing.ensures.found) c.in-Ok.ensures.lines in
    c.in-Err-read_rows.ensures.err rows.0 bytes rows.1

pub returns-in-Ok-read_end-clause-done : goal.returns-in-Ok-read_end-clause-done
returns-in-Ok-read_end-clause-done g c bytes announced =
    let rows = to_rows (closure_of c.args.stack.now.outlines c.args.stack.now.words) bytes c.read_upper.new.reader.given c.in-Ok.read.0 c.in-Ok.read.1 c.read_upper.new.reader.lines (ahead c.read_upper.new.reader (g.F.Files.view c.read_upper.new.files)) c.deref.result.now (c.in-Ok.ensures.read bytes announced) (subst (λ fs. (before : Lines) → Represents c.in-Ok.read.0 before → IsFoundListing (closure_of c.args.stack.now.outlines c.args.stack.now.words) before c.in-Ok.read.1 fs) (sym c.deref.ensures.value) c.in-Ok-check_listing.ensures.found) c.in-Ok.ensures.lines in
    all_done (closure_of c.args.stack.now.outlines c.args.stack.now.words) bytes c.read_upper.new.reader.given c.in-Ok.read.0 c.in-Ok.read.1 (ahead c.read_upper.new.reader (g.F.Files.view c.read_upper.new.files)) (c.in-Ok.ensures.read bytes announced)
    (c.in-Ok-read_end.ensures.read (closure_of c.args.stack.now.outlines c.args.stack.now.words) rows.0 bytes (c.in_default.ensures.read rows.0 bytes rows.1))

pub returns-clause-fault : goal.returns-clause-fault
returns-clause-fault g c bytes announced =
    let rows = to_rows (closure_of c.args.stack.now.outlines c.args.stack.now.words) bytes c.read_upper.new.reader.given c.in-Ok.read.0 c.in-Ok.read.1 c.read_upper.new.reader.lines (ahead c.read_upper.new.reader (g.F.Files.view c.read_upper.new.files)) c.deref.result.now (c.in-Ok.ensures.read bytes announced) (subst (λ fs. (before : Lines) → Represents c.in-Ok.read.0 before → IsFoundListing (closure_of c.args.stack.now.outlines c.args.stack.now.words) before c.in-Ok.read.1 fs) (sym c.deref.ensures.value) c.in-Ok-check_listing.ensures.found) c.in-Ok.ensures.lines in
    c.in-Err-read_end.ensures.err (closure_of c.args.stack.now.outlines c.args.stack.now.words) rows.0 bytes (c.in_default.ensures.read rows.0 bytes rows.1)
