use Rattle.std.proofs.Common.{arith, subst, sym, ◌∙◌, ap, ◌+◌, ◌≤◌, ◌-◌, true, false}
use Rattle.steno_rules.specs.Outlines.{flagged_entries}
use Rattle.steno_rules.specs.StateNumbers.{number_count}
use Rattle.certificate.specs.declared.lines.CertLine.TheVariants as of
use Rattle.report.specs.declared.faults.Why.TheVariants as why
use Rattle.certificate.specs.Readers.{ReaderView}
use Rattle.certificate_laws.specs.Checks.{rejected}
use Rattle.certificate_laws.specs.Closures.{closure_of}
use Rattle.cert_check.proofs.AnswerLemmas.{over_of}
use Rattle.cert_check.proofs.UpperLoop.{upper_start, takes_on, next_upper, told_missing, told_early_at, told_done_at, not_conflicts, upper_more, upper_stops, few_lines}
use Rattle.cert_check.proofs.top.read_upper.Goals as goal

pub loop-line-init : goal.loop-line-init
loop-line-init g c =
    let over = over_of c.args.numbering.now c.args.stack.now.outlines (flagged_entries c.args.stack.now.outlines c.args.stack.now.words) c.requires.over in
    upper_start c.args.stack.now.outlines c.args.stack.now.words c.args.reader.now (g.F.Files.view c.args.files.now) c.in-Ok.upper c.requires.begun
    (subst (λ es. number_count es ≤ 33554432) over.entries_are c.in-Ok.ensures.few) c.in-Ok.ensures.lines c.in-Ok.ensures.places

pub returns-in-Err-required_line-clause-err : goal.returns-in-Err-required_line-clause-err
returns-in-Err-required_line-clause-err g c bytes announced =
    told_missing (closure_of c.args.stack.now.outlines c.args.stack.now.words) bytes c.loop-line.reader.given c.loop-line.reader.limit c.loop-line.reader.lines c.loop-line.upper _ c.in-Err-required_line.fault
    (c.loop-line.invariant.told bytes announced) c.loop-line.invariant.limit c.loop-line.invariant.lines c.in-Err-required_line.ensures.none

pub returns-then-upper-lt3-clause-err : goal.returns-then-upper-lt3-clause-err
returns-then-upper-lt3-clause-err g c bytes announced =
    let e = c.in-Ok-required_line.ensures in
    let next = next_upper (closure_of c.args.stack.now.outlines c.args.stack.now.words) bytes c.loop-line.reader.given c.required_line.new.reader.given c.loop-line.upper c.in-Ok-required_line.line _ _ (c.loop-line.invariant.told bytes announced) e.line.split e.line.fit e.line.given
    (let w = e.line.within in let l = c.required_line.ensures.limit in let m = c.loop-line.invariant.limit in omega (arith, w, l, m)) in
    told_early_at (closure_of c.args.stack.now.outlines c.args.stack.now.words) bytes c.loop-line.reader.given c.required_line.new.reader.given c.in-Conflicts.count c.loop-line.upper c.in-Ok-required_line.line _ next c.in-Conflicts.is c.if-upper-lt3.true
    ∙ ap (λ n. rejected (n + 1) why.Form) (sym c.from.ensures)

pub returns-in-Conflicts-clause-read : goal.returns-in-Conflicts-clause-read
returns-in-Conflicts-clause-read g c bytes announced =
    let e = c.in-Ok-required_line.ensures in
    let next = next_upper (closure_of c.args.stack.now.outlines c.args.stack.now.words) bytes c.loop-line.reader.given c.required_line.new.reader.given c.loop-line.upper c.in-Ok-required_line.line _ _ (c.loop-line.invariant.told bytes announced) e.line.split e.line.fit e.line.given
    (let w = e.line.within in let l = c.required_line.ensures.limit in let m = c.loop-line.invariant.limit in omega (arith, w, l, m)) in
    told_done_at (closure_of c.args.stack.now.outlines c.args.stack.now.words) bytes c.loop-line.reader.given c.required_line.new.reader.given c.in-Conflicts.count c.loop-line.upper c.in-Ok-required_line.line _ next c.in-Conflicts.is c.if-upper-lt3.false

pub overflow_add-result-in-Ok-Some : goal.overflow_add-result-in-Ok-Some
overflow_add-result-in-Ok-Some g c =
    let few = few_lines c.args.stack.now.outlines c.loop-line.upper c.accept.new.self c.in-Ok-Some.field-0 c.in-Ok-Some.why c.from-in-Ok-Some.result c.loop-line.invariant.sound c.in-Ok-Some.field-0-is c.in-Ok-Some.ensures.counted c.from-in-Ok-Some.ensures in
    omega (arith, few)

pub returns-in-Ok-Some : goal.returns-in-Ok-Some
returns-in-Ok-Some g c =
    let e = c.in-Ok-required_line.ensures in
    let other = not_conflicts c.in-Ok-required_line.line c.in_default.not-Conflicts in
    record {
      read = tt;
      sound = tt;
      lines = tt;
      limit = e.limit ∙ (c.loop-line.invariant.limit ∙ sym (ap (λ (r : ReaderView). r.limit) c.requires.begun));
      err = upper_stops c.args.stack.now.outlines c.args.stack.now.words c.args.reader.now c.loop-line.reader c.required_line.new.reader (g.F.Files.view c.args.files.now) (g.F.Files.view c.loop-line.files) (g.F.Files.view c.required_line.new.files)
          c.loop-line.upper c.accept.new.self c.in-Ok-required_line.line c.in-Ok-Some.field-0 c.in-Ok-Some.why c.from-in-Ok-Some.result c.loop-line.invariant e.line.split e.line.fit e.line.given e.line.within e.limit (c.in-Ok-Some.ensures.answers other) c.in-Ok-Some.field-0-is c.in-Ok-Some.ensures.counted c.from-in-Ok-Some.ensures;
      takes = takes_on false (g.F.Files.view c.args.files.now) (g.F.Files.view c.loop-line.files) (g.F.Files.view c.required_line.new.files) c.loop-line.invariant.takes e.takes;
    }

pub loop-line-preserved-in-Ok-None : goal.loop-line-preserved-in-Ok-None
loop-line-preserved-in-Ok-None g c =
    let e = c.in-Ok-required_line.ensures in
    let other = not_conflicts c.in-Ok-required_line.line c.in_default.not-Conflicts in
    upper_more c.args.stack.now.outlines c.args.stack.now.words c.args.reader.now c.loop-line.reader c.required_line.new.reader (g.F.Files.view c.args.files.now) (g.F.Files.view c.loop-line.files) (g.F.Files.view c.required_line.new.files)
    c.loop-line.upper c.accept.new.self c.in-Ok-required_line.line c.in-Ok-None.field-0 c.loop-line.invariant e.line.split e.line.fit e.line.given e.line.lines e.line.within e.limit e.takes (c.in-Ok-None.ensures.answers other) c.in-Ok-None.field-0-is other (c.in-Ok-None.ensures.sound other c.in-Ok-None.field-0-is) c.in-Ok-None.ensures.counted

pub loop-line-preserved : goal.loop-line-preserved
loop-line-preserved g c =
    let e = c.in-Ok-required_line.ensures in
    let other = not_conflicts c.in-Ok-required_line.line c.in_default.not-Conflicts in
    upper_more c.args.stack.now.outlines c.args.stack.now.words c.args.reader.now c.loop-line.reader c.required_line.new.reader (g.F.Files.view c.args.files.now) (g.F.Files.view c.loop-line.files) (g.F.Files.view c.required_line.new.files)
    c.loop-line.upper c.accept.new.self c.in-Ok-required_line.line c.in-Ok-None.field-0 c.loop-line.invariant e.line.split e.line.fit e.line.given e.line.lines e.line.within e.limit e.takes (c.in-Ok-None.ensures.answers other) c.in-Ok-None.field-0-is other (c.in-Ok-None.ensures.sound other c.in-Ok-None.field-0-is) c.in-Ok-None.ensures.counted
