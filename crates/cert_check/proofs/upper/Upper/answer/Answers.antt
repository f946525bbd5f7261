use Rattle.std.proofs.Common.{subst, sym, refl}
use Rattle.steno_rules.specs.Outlines.{flagged_entries}
use Rattle.cert_check.specs.inside.Uppers.{AnswersLine}
use Rattle.certificate_laws.specs.Closures.{closure_of}
use Rattle.certificate.specs.declared.lines.CertLine.TheVariants as of
use Rattle.cert_check.proofs.AnswerLemmas.{quiet_sound, over_of, answers_over}
use Rattle.cert_check.proofs.upper.Upper.answer.Goals as goal

pub returns-in-Head-clause-answers : goal.returns-in-Head-clause-answers
returns-in-Head-clause-answers c other = subst (λ l. AnswersLine (closure_of c.args.stack.now.outlines c.args.stack.now.words) c.args.self.now c.head.new.self l c.head.result) (sym c.in-Head.is) (c.head.ensures.answers c.args.stack.now.outlines c.args.stack.now.words)

pub returns-in-Head-clause-sound : goal.returns-in-Head-clause-sound
returns-in-Head-clause-sound c other none = quiet_sound c.args.stack.now.outlines c.args.self.now c.head.new.self c.requires.sound c.head.ensures.places c.head.ensures.lines (c.head.ensures.early none)

pub returns-in-Entries-clause-answers : goal.returns-in-Entries-clause-answers
returns-in-Entries-clause-answers c other = subst (λ l. AnswersLine (closure_of c.args.stack.now.outlines c.args.stack.now.words) c.args.self.now c.args.self.now l c.entries.result) (sym c.in-Entries.is) (c.entries.ensures.answers c.args.stack.now.words)

pub returns-in-Entries-clause-sound : goal.returns-in-Entries-clause-sound
returns-in-Entries-clause-sound c other none = quiet_sound c.args.stack.now.outlines c.args.self.now c.args.self.now c.requires.sound refl refl (c.entries.ensures.early none)

pub returns-in-States-clause-answers : goal.returns-in-States-clause-answers
returns-in-States-clause-answers c other =
    let over = over_of c.args.numbering.now c.args.stack.now.outlines (flagged_entries c.args.stack.now.outlines c.args.stack.now.words) c.requires.over in
    subst (λ l. AnswersLine (closure_of c.args.stack.now.outlines c.args.stack.now.words) c.args.self.now c.args.self.now l c.states.result) (sym c.in-States.is)
    (subst (λ es. AnswersLine (closure_of es c.args.stack.now.words) c.args.self.now c.args.self.now (of.States c.in-States.count) c.states.result) over.entries_are (c.states.ensures.answers c.args.stack.now.words))

pub returns-in-States-clause-sound : goal.returns-in-States-clause-sound
returns-in-States-clause-sound c other none = quiet_sound c.args.stack.now.outlines c.args.self.now c.args.self.now c.requires.sound refl refl (c.states.ensures.early none)

pub returns-in-Distance-clause-answers : goal.returns-in-Distance-clause-answers
returns-in-Distance-clause-answers c =
    let over = over_of c.args.numbering.now c.args.stack.now.outlines (flagged_entries c.args.stack.now.outlines c.args.stack.now.words) c.requires.over in
    answers_over c.args.stack.now.outlines c.args.numbering.now.words c.args.numbering.now.entries c.args.stack.now.words c.args.self.now c.distance.new.self (of.Distance c.in-Distance.state c.in-Distance.distance) c.args.line.now c.distance.result over.entries_are over.words_are c.requires.entries c.in-Distance.is c.distance.ensures.answers

pub returns-in-Run-clause-answers : goal.returns-in-Run-clause-answers
returns-in-Run-clause-answers c =
    let over = over_of c.args.numbering.now c.args.stack.now.outlines (flagged_entries c.args.stack.now.outlines c.args.stack.now.words) c.requires.over in
    answers_over c.args.stack.now.outlines c.args.numbering.now.words c.args.numbering.now.entries c.args.stack.now.words c.args.self.now c.run.new.self (of.Run c.in-Run.first c.in-Run.last c.in-Run.distance) c.args.line.now c.run.result over.entries_are over.words_are c.requires.entries c.in-Run.is c.run.ensures.answers
