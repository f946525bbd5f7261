use Rattle.std.proofs.Common.{◌-◌, ap, arith, subst}
use Rattle.std.specs.Prelude.{IfSome}
use Rattle.certificate.specs.Readers.{BeginsLong, ahead, room}
use Rattle.certificate.specs.inside.Reads.{IsNextLine}
use Rattle.certificate.proofs.FirstLines.{line_not_empty}
use Rattle.certificate.proofs.reading.CertReader.line.Goals as goal

pub invariant_of-self : goal.invariant_of-self
invariant_of-self g c =
    let reader = c.self.inside in
    let within = c.self.invariant in
    let first = within.0 in
    let most = within.1 in
    let few = within.2 in
    let counted = within.3 in
    let files = g.F.Files.view c.args.files.now in
    let read = subst (λ a. IsNextLine a (reader.limit - reader.given) reader.pieces c.next_line.new.pieces files (g.F.Files.view c.next_line.new.files)) c.in-Ok-Line.field-0-is c.in-Ok-Line.ensures.read in
    let len = read.2 in
    let fits_room = read.3 in
    let some = line_not_empty c.in-Ok-Line.line read.1 in
    let taken = read.0.least reader.given (omega arith) counted in
    (omega arith, most, omega arith, omega arith)

pub invariant_of-self-in-Ok-End : goal.invariant_of-self-in-Ok-End
invariant_of-self-in-Ok-End g c =
    let reader = c.self.inside in
    let within = c.self.invariant in
    let first = within.0 in
    let most = within.1 in
    let counted = within.3 in
    let files = g.F.Files.view c.args.files.now in
    let read = subst (λ a. IsNextLine a (reader.limit - reader.given) reader.pieces c.next_line.new.pieces files (g.F.Files.view c.next_line.new.files)) c.in-Ok-End.field-0-is c.in-Ok-End.ensures.read in
    let taken = read.0.least reader.given (omega arith) counted in
    (first, most, within.2, omega arith)

pub returns-in-Ok-Long-clause-fault : goal.returns-in-Ok-Long-clause-fault
returns-in-Ok-Long-clause-fault g c =
    let reader = c.self.inside in
    let within = c.self.invariant in
    let first = within.0 in
    let most = within.1 in
    let counted = within.3 in
    let files = g.F.Files.view c.args.files.now in
    let read = subst (λ a. IsNextLine a (reader.limit - reader.given) reader.pieces c.next_line.new.pieces files (g.F.Files.view c.next_line.new.files)) c.in-Ok-Long.field-0-is c.in-Ok-Long.ensures.read in
    let more = read.0 reader.given (omega arith) counted in
    let kept = ap (λ v. v.taken) c.clear-in-Ok-Long.ensures in
    (omega arith, subst (λ v. IfSome (ahead v files) (BeginsLong (room v))) c.self.view_is read.1)
