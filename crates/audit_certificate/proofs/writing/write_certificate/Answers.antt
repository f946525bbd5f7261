use Rattle.std.proofs.Common.{subst, sym}
use Rattle.outside.specs.Files.{FilesView}
use Rattle.audit_certificate.specs.Written.{LeavesFile, own_certificate_lines}
use Rattle.audit_certificate.proofs.Proving.{answer_proves}
use Rattle.audit_certificate.proofs.Whole.{ends_whole, fails_part}
use Rattle.audit_certificate.proofs.writing.write_certificate.Goals as goal

pub returns-in-Ok-end-clause-proves : goal.returns-in-Ok-end-clause-proves
returns-in-Ok-end-clause-proves g c =
    let old : FilesView = g.F.Files.view c.args.files.now in
    let mid : FilesView = g.F.Files.view c.begin.new.files in
    let new : FilesView = g.F.Files.view c.put_lines-written.new.files in
    let last : FilesView = g.F.Files.view c.end.new.files in
    let lines = own_certificate_lines c.args.entries c.args.words.now c.args.rows.now in
    answer_proves c.put_lines-written.result c.args.name.now c.args.entries c.args.words.now c.args.rows.now old.held last.held
    (ends_whole c.args.name.now lines c.put_lines-written.result _ _ c.in-Ok.ensures.writer old mid new last c.in-Ok.ensures.begins.writing c.in-Ok.ensures.emptied c.put_lines-written.ensures c.in-Ok-end.ensures.ends.held)

pub returns-in-Err-end-clause-leaves : goal.returns-in-Err-end-clause-leaves
returns-in-Err-end-clause-leaves g c =
    let old : FilesView = g.F.Files.view c.args.files.now in
    let mid : FilesView = g.F.Files.view c.begin.new.files in
    let new : FilesView = g.F.Files.view c.put_lines-written.new.files in
    let last : FilesView = g.F.Files.view c.end.new.files in
    let lines = own_certificate_lines c.args.entries c.args.words.now c.args.rows.now in
    subst (λ f. LeavesFile c.args.name.now lines f old.held last.held) (sym c.in-Err-end.ensures.fault)
    (fails_part c.args.name.now lines c.put_lines-written.result _ _ c.in-Ok.ensures.writer old mid new last c.in-Ok.ensures.begins.writing c.in-Ok.ensures.emptied c.put_lines-written.ensures c.in-Err-end.ensures.ends.held)
