use Rattle.std.proofs.Common.{ap, subst, sym, ◌+◌, ◌∙◌}
use Rattle.certificate.specs.Readers.{ahead}
use Rattle.certificate_laws.specs.Checks.{rejected}
use Rattle.cert_check.proofs.UpperLoop.{not_conflicts}
use Rattle.cert_upgrade.specs.inside.Stages.{AreRowsRead}
use Rattle.cert_upgrade.specs.inside.Uppers.{upper_failure}
use Rattle.cert_upgrade.proofs.AddedLines.{ok_of}
use Rattle.cert_upgrade.proofs.UpperReading.{upper_ends, upper_more, upper_none, upper_start, upper_stops}
use Rattle.cert_upgrade.proofs.top.read_upper.Goals as goal

pub loop-line-init : goal.loop-line-init
loop-line-init g c = upper_start c.args.reader.now (g.F.Files.view c.args.files.now) c.new-upper.result c.requires.begun c.new-upper.ensures.next c.new-upper.ensures.lines

pub returns-in-Err-clause-err : goal.returns-in-Err-clause-err
returns-in-Err-clause-err g c bytes told =
    upper_none c.args.reader.now c.loop-line.reader (g.F.Files.view c.args.files.now) (g.F.Files.view c.loop-line.files) c.loop-line.upper c.in-Err.fault c.loop-line.invariant c.in-Err.ensures.none bytes told

pub returns-in-Some-clause-err : goal.returns-in-Some-clause-err
returns-in-Some-clause-err g c bytes told =
    upper_stops c.args.reader.now c.loop-line.reader c.required_line.new.reader (g.F.Files.view c.args.files.now) (g.F.Files.view c.loop-line.files) (g.F.Files.view c.required_line.new.files) c.loop-line.upper c.in-Ok.line c.in-Some.why c.loop-line.invariant c.in-Ok.ensures.line c.in-Ok.ensures.limit
    (ap (λ n. upper_failure c.loop-line.upper n c.in-Ok.line) (sym c.lines-before.ensures.lines) ∙ sym c.in-Some.ensures) bytes told
    ∙ ap (λ n. rejected (n + 1) c.in-Some.why) (sym c.lines-before.ensures.lines)

pub returns-in-Ok-push-clause-read : goal.returns-in-Ok-push-clause-read
returns-in-Ok-push-clause-read g c bytes told =
    subst (λ ls. AreRowsRead bytes c.required_line.new.reader.given ls c.in-Conflicts.count c.in-Conflicts.count c.required_line.new.reader.lines (ahead c.required_line.new.reader (g.F.Files.view c.required_line.new.files))) (sym c.in-Ok-push.ensures.items)
    (upper_ends c.args.reader.now c.loop-line.reader c.required_line.new.reader (g.F.Files.view c.args.files.now) (g.F.Files.view c.loop-line.files) (g.F.Files.view c.required_line.new.files) c.loop-line.upper c.in-Ok.line c.in-Conflicts.count c.loop-line.invariant c.in-Ok.ensures.line c.in-Ok.ensures.limit
    (ap (λ n. upper_failure c.loop-line.upper n c.in-Ok.line) (sym c.lines-before.ensures.lines) ∙ sym c.in_default.ensures) c.in-Conflicts.is bytes told)

pub loop-line-preserved : goal.loop-line-preserved
loop-line-preserved g c =
    upper_more c.args.reader.now c.loop-line.reader c.required_line.new.reader (g.F.Files.view c.args.files.now) (g.F.Files.view c.loop-line.files) (g.F.Files.view c.required_line.new.files) c.loop-line.upper c.take.new.self c.in-Ok.line c.loop-line.invariant c.in-Ok.ensures.line c.in-Ok.ensures.limit c.in-Ok.ensures.takes
    (ap (λ n. upper_failure c.loop-line.upper n c.in-Ok.line) (sym c.lines-before.ensures.lines) ∙ sym c.in_default.ensures)
    (ok_of c.take.result _ c.is_err.result c.is_err.ensures.value c.if-is_err.false c.take.ensures) (not_conflicts c.in-Ok.line c.in_default-line.not-Conflicts)
